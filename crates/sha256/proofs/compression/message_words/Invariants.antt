-- After i turns the first i words stand in the array, and zeros behind them.
use Rattle.std.proofs.Common.{◌≡◌}
use Rattle.laws.specs.Lists.{padded}
use Rattle.sha256.specs.Padding.{words}
use Rattle.sha256.proofs.compression.message_words.Given as goal

abbrev pub invariant-loop-i : goal.invariant-loop-i
invariant-loop-i l = l.w ≡ padded 64 0 (words l.block l.i)
