-- Every read leaves a stream that is ready for the next.
use mathlib.Core.Path.{◌≡◌}
use lib.ListN.{length}
use Rattle.replay.specs.Parts.{Ready}
use Rattle.fp_replay.proofs.input.read_to_end.Given as goal

abbrev pub invariant-loop : goal.invariant-loop
invariant-loop g l =
    Ready l.stream × (length l.out ≡ length l.initial.out)
