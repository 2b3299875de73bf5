-- The salts before the index are in use, cleaned, and no other.
use mathlib.Core.Path.{◌≡◌}
use lib.ListN.{get_or}
use Rattle.laws.specs.Lists.{padded}
use Rattle.laws.specs.Tabulate.{tabulate}
use Rattle.request_guard.specs.Guard.{salt_limit, no_salt, cleaned_salt}
use Rattle.request_guard.proofs.SpentSalts.in_use.Given as goal

abbrev pub invariant-loop-i : goal.invariant-loop-i
invariant-loop-i l =
    l.rest.salts ≡ padded salt_limit no_salt (tabulate l.i (λ k. cleaned_salt (get_or l.fn.self.salts k no_salt)))
