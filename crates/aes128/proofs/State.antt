-- A state by its rows and columns.
-- Assumes nothing.
use mathlib.Core.Path.{◌≡◌, ◌∙◌}
use mathlib.Core.List.{List}
use Prim.Native.Nat.{ℕ, zero, suc, ◌+◌, ◌*◌, ◌/◌, ◌%◌, ◌<◌}
use native.Mathlib.Nat.{mod-lt}
use native.Mathlib.Omega.{arith}
use lib.Dec.{lit<}
use lib.ListN.{length, get_or}
use Rattle.laws.proofs.Filled.{get_d_tabulate, tabulate_ext, tabulate_get_or, tabulate_all}
use Rattle.aes128.specs.State.{at, state}

pub state_ext : (f g : ℕ → ℕ → ℕ) → ((r c : ℕ) → r < 4 → c < 4 → f r c ≡ g r c) → state f ≡ state g
state_ext f g e =
    tabulate_ext 16 (λ i. f (i % 4) (i / 4)) (λ i. g (i % 4) (i / 4))
    (λ i h. e (i % 4) (i / 4) (mod-lt i (lit< tt)) (omega arith))

pub at_state : (f : ℕ → ℕ → ℕ) (r c : ℕ) → r < 4 → c < 4 → at (state f) r c ≡ f r c
at_state f r c hr hc =
    get_d_tabulate 16 (λ i. f (i % 4) (i / 4)) (r + 4 * c) 0 (omega arith) ∙ rw (row, column)
  where
    row : (r + 4 * c) % 4 ≡ r
    row = omega arith

    column : (r + 4 * c) / 4 ≡ c
    column = omega arith

-- a block is the state of its own bytes
pub state_at : (s : List ℕ) → length s ≡ 16 → state (at s) ≡ s
state_at s h = tabulate_get_or 16 s 0 h

-- what holds of 0, 1, 2 and 3 holds of a row
pub by_row : (P : ℕ → Type 0) → P 0 → P 1 → P 2 → P 3 → (r : ℕ) → r < 4 → P r
by_row P p q s t zero h = p
by_row P p q s t (suc zero) h = q
by_row P p q s t (suc (suc zero)) h = s
by_row P p q s t (suc (suc (suc zero))) h = t
by_row P p q s t (suc (suc (suc (suc r)))) h = absurd (omega arith)

pub state_lt : (f : ℕ → ℕ → ℕ) → ((r c : ℕ) → f r c < 256) → (i : ℕ) → get_or (state f) i 0 < 256
state_lt f h = tabulate_all (λ b. b < 256) 16 (λ i. f (i % 4) (i / 4)) 0 (lit< tt) (λ i. h (i % 4) (i / 4))
