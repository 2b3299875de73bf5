-- The next device is valid.
use Rattle.capi.proofs.Laws.{next_valid}
use Rattle.provider.specs.Rules.Event.{OnDevice, FactoryReset}
use Rattle.capi.proofs.control.fp_factory_reset.Goals as goal

pub pack_outcome-requires : goal.pack_outcome-requires
pack_outcome-requires c =
    next_valid c.in-Some.d (OnDevice c.args.clock FactoryReset) _ c.in-Some.ensures.valid c.factory_reset.ensures
