-- A stream that has ended is ready.
use Rattle.replay.proofs.Theorems.Parts.{stays_ready}
use Rattle.replayer.proofs.fp_replay_end.Goals as goal

pub ended-requires : goal.ended-requires
ended-requires c = rw c.end.ensures (stays_ready _ c.in-Some.ensures.ready).1
