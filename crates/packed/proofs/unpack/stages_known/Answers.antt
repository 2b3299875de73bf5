-- Each link is asked.
use Rattle.std.proofs.Common.{leb, rules, tests}
use Rattle.std.proofs.lemmas.Iterator.{YieldsList-from_slice}
use Rattle.std.proofs.lemmas.Iterator.Search.{all_from_yields_List}
use Rattle.packed.specs.declared.FpSession.{FpSession}
use Rattle.packed.proofs.unpack.stages_known.Goals as goal

pub returns : goal.returns
returns c =
    all_from_yields_List (λ (f : FpSession). leb f.stage 5) _ _ _ c.all.ensures.ran
    (YieldsList-from_slice c.args.from cc)
    (λ x b q k. search (rules, tests))
