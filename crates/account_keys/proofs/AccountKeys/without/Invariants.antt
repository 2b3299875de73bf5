-- The others among the keys before the index are held.
use mathlib.Core.Path.{◌≡◌}
use lib.ListN.{take}
use Rattle.account_keys.specs.Keys as rule
use Rattle.account_keys.specs.Keys.{kept}
use Rattle.account_keys.proofs.AccountKeys.without.Given as goal

abbrev pub invariant-loop-held : goal.invariant-loop-held
invariant-loop-held l = l.others ≡ kept (rule.without (take l.held-index (rule.held l.fn.self)) l.key)
