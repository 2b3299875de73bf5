-- The first i keys are held, and they are owned.
use mathlib.Core.Bool.{true}
use mathlib.Core.Path.{◌≡◌}
use Rattle.account_keys.specs.Keys.{kept, owned}
use Rattle.account_keys.specs.StoredList.{keys_in}
use Rattle.account_keys.proofs.read_keys.Given as goal

abbrev pub invariant-loop-i : goal.invariant-loop-i
invariant-loop-i l = (l.keys ≡ kept (keys_in l.src l.i)) × (owned (keys_in l.src l.i) ≡ true)
