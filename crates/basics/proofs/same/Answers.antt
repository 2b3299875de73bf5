-- Texts of different lengths differ; at the end of the loop nothing is left of both.
use Rattle.std.proofs.Common.{sym, ◌∙◌}
use Rattle.std.proofs.lemmas.Slice.Zip.{either_empty_from_Zip}
use Rattle.basics.proofs.Laws.{same_long, same_end}
use Rattle.basics.proofs.same.Goals as goal

pub returns-then-a-b : goal.returns-then-a-b
returns-then-a-b c = sym (same_long c.args.a.now c.args.b.now c.if-a-b.true)

pub returns : goal.returns
returns c =
    same_end c.loop-x.equal _ _ c.loop-x.invariant.0
    (either_empty_from_Zip c.loop-x.x-iterator c.next.new.self c.next.result c.in-None.is c.next.ensures.steps)
    ∙ c.loop-x.invariant.1
