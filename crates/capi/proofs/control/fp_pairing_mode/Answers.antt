-- The next device is valid.
use Rattle.capi.proofs.Laws.{next_valid}
use Rattle.std.specs.Prelude.{eqb, not}
use Rattle.provider.specs.Rules.Event.{OnDevice, PairingMode}
use Rattle.capi.proofs.control.fp_pairing_mode.Goals as goal

pub pack_outcome-requires : goal.pack_outcome-requires
pack_outcome-requires c =
    next_valid c.in-Some.d (OnDevice c.args.clock (PairingMode (not (eqb c.args.on 0)))) _ c.in-Some.ensures.valid c.pairing_mode.ensures
