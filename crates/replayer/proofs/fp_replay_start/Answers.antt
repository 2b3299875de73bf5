-- A stream of which nothing has come is ready.
use Rattle.replay.proofs.Theorems.Parts.{start_ready}
use Rattle.replayer.proofs.fp_replay_start.Goals as goal

pub stream-requires : goal.stream-requires
stream-requires c = rw c.start.ensures start_ready
