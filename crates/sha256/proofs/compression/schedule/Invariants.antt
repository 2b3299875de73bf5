-- After i turns the first 16 + i words of the schedule stand in the array, and zeros behind them.
use Rattle.std.proofs.Common.{◌≡◌}
use Rattle.laws.specs.Lists.{padded}
use Rattle.sha256.specs.Compression as spec
use Rattle.sha256.proofs.compression.schedule.Given as goal

abbrev pub invariant-loop-i : goal.invariant-loop-i
invariant-loop-i l = l.w ≡ padded 64 0 (spec.schedule l.block l.i)
