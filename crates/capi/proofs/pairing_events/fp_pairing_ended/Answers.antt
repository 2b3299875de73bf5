-- The next device is valid.
use Rattle.capi.proofs.Laws.{next_valid}
use Rattle.std.specs.Prelude.{eqb, not}
use Rattle.provider.specs.Rules.Event.{OnLink, OnSession}
use Rattle.pairing.specs.Pairing.{PairingEnded}
use Rattle.capi.proofs.pairing_events.fp_pairing_ended.Goals as goal

pub pack_outcome-requires : goal.pack_outcome-requires
pack_outcome-requires c =
    next_valid c.in-Some.d (OnLink c.args.link c.args.clock (OnSession (PairingEnded (not (eqb c.args.success 0))))) _ c.in-Some.ensures.valid c.pairing_ended.ensures
