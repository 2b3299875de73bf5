-- Whether one of the keys is the same.
use mathlib.Core.Path.{◌∙◌}
use borrow.Author.Rules.{rules}
use borrow.Author.Tests.{tests}
use Rattle.std.proofs.lemmas.Iterator.{YieldsList-from_slice}
use Rattle.std.proofs.lemmas.Iterator.Search.{any_from_yields_List}
use Rattle.basics.specs.Bytes.{same}
use Rattle.account_keys.proofs.Laws.{member_any}
use Rattle.account_keys.proofs.among.Goals as goal

pub returns : goal.returns
returns c =
    let a = c.args in
    any_from_yields_List (λ x. same x.bytes a.key.bytes) _ _ _ c.any.ensures.ran
    (YieldsList-from_slice a.keys.now cc) (λ x b q k. search (rules, tests)) ∙ member_any a.keys.now a.key
