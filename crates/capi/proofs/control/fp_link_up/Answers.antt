-- The next device is valid.
use Rattle.capi.proofs.Laws.{next_valid}
use Rattle.provider.specs.Rules.Event.{OnLink, LinkUp}
use Rattle.capi.proofs.control.fp_link_up.Goals as goal

pub pack_outcome-requires : goal.pack_outcome-requires
pack_outcome-requires c =
    next_valid c.in-Some.d (OnLink c.args.link c.args.clock LinkUp) _ c.in-Some.ensures.valid c.link_up.ensures
