-- The next device is valid.
use Rattle.capi.proofs.Laws.{next_valid}
use Rattle.provider.specs.Rules.Event.{OnLink, OnSession}
use Rattle.pairing.specs.Pairing.{NameWrite}
use Rattle.capi.proofs.pairing_events.fp_name_write.Goals as goal

pub pack_outcome-requires : goal.pack_outcome-requires
pack_outcome-requires c =
    next_valid c.in-Some.d (OnLink c.args.link c.args.clock (OnSession (NameWrite c.args.packet.now))) _ c.in-Some.ensures.valid c.name_write.ensures
