-- After i rounds, four to a turn, the variables are those of the definition.
use Rattle.std.proofs.Common.{◌≡◌, ◌-◌, ◌%◌, ◌≤◌}
use Rattle.sha256.specs.Compression as spec
use Rattle.sha256.proofs.compression.rounds.Given as goal

abbrev pub invariant-loop-i : goal.invariant-loop-i
invariant-loop-i l = (l.i ≤ 64) × (l.i % 4 ≡ 0) × (l.s ≡ spec.rounds l.initial.s l.w l.i)

abbrev pub decreases-loop-i : goal.decreases-loop-i
decreases-loop-i l = 64 - l.i
