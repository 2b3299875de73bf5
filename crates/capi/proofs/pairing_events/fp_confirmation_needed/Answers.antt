-- The next device is valid.
use Rattle.capi.proofs.Laws.{next_valid}
use Rattle.provider.specs.Rules.Event.{OnLink, OnSession}
use Rattle.pairing.specs.Pairing.{ConfirmationNeeded}
use Rattle.capi.proofs.pairing_events.fp_confirmation_needed.Goals as goal

pub pack_outcome-requires : goal.pack_outcome-requires
pack_outcome-requires c =
    next_valid c.in-Some.d (OnLink c.args.link c.args.clock (OnSession (ConfirmationNeeded c.args.passkey))) _ c.in-Some.ensures.valid c.confirmation_needed.ensures
