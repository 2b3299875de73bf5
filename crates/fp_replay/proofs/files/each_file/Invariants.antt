-- Every file leaves a stream that is ready for the next.
use mathlib.Core.Path.{◌≡◌}
use lib.ListN.{length}
use Rattle.replay.specs.Parts.{Ready}
use Rattle.fp_replay.proofs.files.each_file.Given as goal

abbrev pub invariant-loop-i : goal.invariant-loop-i
invariant-loop-i l =
    Ready l.stream × (length l.out ≡ length l.initial.out)
