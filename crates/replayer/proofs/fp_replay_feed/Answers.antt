-- A stream that is fed stays ready.
use Rattle.replay.proofs.Theorems.Parts.{stays_ready}
use Rattle.replayer.proofs.fp_replay_feed.Goals as goal

pub fed-requires : goal.fed-requires
fed-requires c =
    rw c.feed.ensures ((stays_ready _ c.in-Some.ensures.ready).0 c.args.part.now c.args.at)
