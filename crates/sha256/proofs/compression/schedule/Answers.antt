-- After i turns the first 16 + i words of the schedule stand in the array, and zeros behind them.
use Rattle.std.proofs.Common.{◌≡◌, ◌∙◌, arith}
use Rattle.laws.proofs.Loops.{at_limit}
use Rattle.laws.specs.Lists.{padded}
use Rattle.sha256.specs.Compression as spec
use Rattle.sha256.proofs.Laws.{schedule_more, schedule_full}
use Rattle.sha256.proofs.compression.schedule.Goals as goal

pub loop-i-init : goal.loop-i-init
unfolding spec.schedule
loop-i-init c = c.message_words-w.ensures

pub loop-i-preserved : goal.loop-i-preserved
unfolding spec.next_word
loop-i-preserved c =
    schedule_more c.args.block.now c.loop-i.i (omega arith) c.loop-i.invariant
    (rw (c.small_sigma0.ensures, c.small_sigma1.ensures))

pub returns : goal.returns
returns c =
    at_limit (λ k. c.loop-i.w ≡ padded 64 0 (spec.schedule c.args.block.now k)) (omega arith) (omega arith) c.loop-i.invariant
    ∙ schedule_full c.args.block.now
