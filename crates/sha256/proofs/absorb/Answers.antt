-- A block more is hashed; at the end less than a block is left.
use Rattle.std.proofs.Common.{◌∙◌, sym, arith}
use Rattle.sha256.proofs.Laws.{hashed_front, hashed_end}
use Rattle.sha256.proofs.absorb.Goals as goal

pub loop-block-preserved : goal.loop-block-preserved
loop-block-preserved c =
    let steps = c.in-Some.ensures.steps in (
      steps.0 ∙ c.loop-block.invariant.0,
      hashed_front c.loop-block.s c.in-Some.block.now _ steps.1.0 (steps.1.1 ∙ c.loop-block.invariant.0)
          c.compress-s.ensures
          ∙ c.loop-block.invariant.1,
    )

pub returns : goal.returns
returns c =
    sym (hashed_end c.loop-block.s _ (omega (arith, c.in-None.ensures.steps.1.0))) ∙ c.loop-block.invariant.1
