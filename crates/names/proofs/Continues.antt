-- What one byte, or the end, makes of what is still to come.
-- Assumes nothing.
use mathlib.Core.Bool.{true, false}
use mathlib.Core.List.{List, [], ◌∷◌}
use mathlib.Core.Path.{◌≡◌, refl, sym, ap, ◌∙◌}
use Prim.Native.Nat.{ℕ, zero, suc, ◌-◌, ◌≤◌, ◌<◌}
use native.Mathlib.Omega.{arith}
use lib.Dec.{eqb, leb}
use lib.ListN.{length, drop, drop_of_length-le}
use borrow.Author.Tests.{le-leb, lt-leb, ne_eqb}
use Rattle.laws.proofs.Choice.{and_false}
use Rattle.names.specs.Expected.{ranges_of, to_come}
use Rattle.names.specs.Utf8.{Range, ◌to◌, tail, within, begins, characters, continues, is_utf8}
use Rattle.names.specs.declared.utf8.Expected.{Expected}

pub within_range : (r : Range) (b : ℕ) → r.low ≤ b → b ≤ r.high → within r b ≡ true
within_range r b h k = rw (le-leb r.low b h, le-leb b r.high k)

pub before_range : (r : Range) (b : ℕ) → b < r.low → within r b ≡ false
before_range r b h = rw (lt-leb r.low b h)

pub past_range : (r : Range) (b : ℕ) → r.high < b → within r b ≡ false
past_range r b h = rw (lt-leb b r.high h) (and_false (leb r.low b))

module _ (r : Range) (b : ℕ) (l : List ℕ) where
  -- nothing is to come: a character begins
  pub continues_none : {m : ℕ} → m ≡ 0 → continues (ranges_of m r) (b ∷ l) ≡ begins characters b
      (λ rest. continues rest l)
  unfolding continues
  continues_none e = rw e

  pub continues_outside : (m : ℕ) → (m ≡ 0 → ⊥) → within r b ≡ false → continues (ranges_of m r) (b ∷ l) ≡ false
  unfolding continues
  continues_outside zero h e = absurd (h refl)
  continues_outside (suc m) h e = rw e

  pub continues_within : (m : ℕ) → (m ≡ 0 → ⊥) → within r b ≡ true
      → continues (ranges_of m r) (b ∷ l) ≡ continues (ranges_of (m - 1) tail) l
  unfolding continues
  continues_within zero h e = absurd (h refl)
  continues_within (suc zero) h e = rw e
  continues_within (suc (suc m)) h e =
      let less : suc (suc m) - 1 ≡ suc m = omega arith in rw (e, less)

pub continues_end : (m : ℕ) (r : Range) → continues (ranges_of m r) [] ≡ eqb m 0
unfolding continues
continues_end zero r = refl
continues_end (suc m) r = sym (ne_eqb (suc m) 0 (λ e. omega arith))

-- no byte is left of those that a loop goes over
pub continues_all : (l : List ℕ) (i : ℕ) (e : Expected) → continues (to_come e) (drop i l) ≡ is_utf8 l → length l ≤ i
    → eqb e.more 0 ≡ is_utf8 l
continues_all l i e known h =
    sym (continues_end e.more (e.low to e.high)) ∙ ap (continues (to_come e)) (sym (drop_of_length-le l h)) ∙ known
