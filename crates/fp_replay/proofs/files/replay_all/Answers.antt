-- The stream begins with nothing held.
use Rattle.fp_replay.proofs.Turns.{first_ready}
use Rattle.fp_replay.proofs.files.replay_all.Goals as goal

pub standard_input-requires : goal.standard_input-requires
standard_input-requires c =
    (first_ready c.start-stream.ensures, c.requires)

pub each_file-requires : goal.each_file-requires
each_file-requires c =
    (first_ready c.start-stream.ensures, c.requires)
