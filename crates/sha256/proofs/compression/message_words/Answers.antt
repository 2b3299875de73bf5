-- After i turns the first i words stand in the array, and zeros behind them.
use Rattle.std.proofs.Common.{refl, arith}
use Rattle.sha256.specs.Padding.{words}
use Rattle.sha256.proofs.Laws.{words_more}
use Rattle.sha256.proofs.compression.message_words.Goals as goal

pub loop-i-init : goal.loop-i-init
unfolding words
loop-i-init c = refl

pub loop-i-preserved : goal.loop-i-preserved
loop-i-preserved c = words_more c.args.block.now c.loop-i.i (omega arith) c.loop-i.invariant c.word_at.ensures
