-- What the proofs of loops share.
-- Assumes nothing.
use mathlib.Core.Path.{subst}
use Prim.Native.Nat.{ℕ, ◌≤◌}
use native.Mathlib.Nat.{le_antisymm}

-- what an invariant says of the counter, said of the limit, once the loop is left
pub at_limit : (P : ℕ → Type 0) {i n : ℕ} → i ≤ n → n ≤ i → P i → P n
at_limit P h k p = subst P (le_antisymm h k) p
