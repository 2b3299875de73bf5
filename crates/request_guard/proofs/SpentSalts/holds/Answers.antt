-- Whether one of the remembered salts is the same.
use mathlib.Core.Path.{◌∙◌}
use borrow.Author.Rules.{rules}
use borrow.Author.Tests.{tests}
use Rattle.std.proofs.lemmas.Iterator.{YieldsList-from_slice}
use Rattle.std.proofs.lemmas.Iterator.Search.{any_from_yields_List}
use Rattle.request_guard.specs.Guard.{remembered, same_salt}
use Rattle.request_guard.proofs.Laws.{spent_any}
use Rattle.request_guard.proofs.SpentSalts.holds.Goals as goal

pub returns : goal.returns
returns c =
    let a = c.args in
    any_from_yields_List (λ x. same_salt x a.salt) _ _ _ c.any.ensures.ran
    (YieldsList-from_slice (remembered a.self) cc) (λ x b q k. search (rules, tests))
    ∙ spent_any (remembered a.self) a.salt
