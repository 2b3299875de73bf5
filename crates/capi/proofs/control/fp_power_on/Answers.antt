-- The next device is valid.
use Rattle.capi.proofs.Laws.{next_valid}
use Rattle.provider.specs.Rules.Event.{PowerOn}
use Rattle.capi.proofs.control.fp_power_on.Goals as goal

pub pack_outcome-requires : goal.pack_outcome-requires
pack_outcome-requires c =
    next_valid c.in-Some.d (PowerOn c.args.stored.now c.args.name.now c.args.start) _ c.in-Some.ensures.valid c.power_on.ensures
