-- Whether each salt in use has 2 or 8 bytes; cleaning leaves how many a salt has.
use mathlib.Core.Path.{◌≡◌, ◌∙◌}
use native.Mathlib.Omega.{arith}
use lib.ListN.{length}
use borrow.Author.Rules.{rules}
use borrow.Author.Tests.{tests}
use Rattle.std.proofs.lemmas.Iterator.{YieldsList-from_slice}
use Rattle.std.proofs.lemmas.Iterator.Search.{all_from_yields_List}
use Rattle.request_guard.specs.Guard.{remembered, salt_limit, sized_salt}
use Rattle.request_guard.proofs.Laws.{sized_all}
use Rattle.request_guard.proofs.SpentSalts.are_sized.Goals as goal

pub returns : goal.returns
returns c =
    let ss = c.args.self in
    let long : length ss.salts ≡ salt_limit = search rules in
    all_from_yields_List sized_salt _ _ _ c.all.ensures.ran (YieldsList-from_slice (remembered ss) cc)
    (λ x b q k. search (rules, tests)) ∙ sized_all ss.count ss.salts (omega (arith, c.requires))
