-- The next device is valid.
use Rattle.capi.proofs.Laws.{next_valid}
use Rattle.provider.specs.Rules.Event.{OnLink, OnSession}
use Rattle.pairing.specs.Pairing.{PasskeyWrite}
use Rattle.capi.proofs.pairing_events.fp_passkey_write.Goals as goal

pub pack_outcome-requires : goal.pack_outcome-requires
pack_outcome-requires c =
    next_valid c.in-Some.d (OnLink c.args.link c.args.clock (OnSession (PasskeyWrite c.args.block.now c.args.salt.now c.args.out.now))) _ c.in-Some.ensures.valid c.passkey_write.ensures.value
