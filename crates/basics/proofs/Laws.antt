-- Laws of the comparison of byte strings.
-- Assumes nothing.
use mathlib.Core.Bool.{Bool, true, false}
use mathlib.Core.List.{List, [], ◌∷◌}
use mathlib.Core.Logic.{◌⊎◌, inl, inr}
use mathlib.Core.Path.{◌≡◌, refl, sym, ap₂, ◌∙◌}
use Prim.Native.Nat.{ℕ}
use native.Mathlib.Omega.{arith}
use lib.Dec.{eqb, eqb→eq, eqb_refl}
use lib.ListN.{length}
use borrow.Author.Tests.{eq-eqb, ne_eqb, eqb-true, eqb-false}
use Rattle.laws.proofs.Choice.{and_false, and_left, and_right, is_true, true_is}
use Rattle.laws.specs.Choice.{◌and◌}
use Rattle.basics.specs.Bytes.{same}

pub same_refl : (l : List ℕ) → same l l ≡ true
same_refl [] = refl
same_refl (x ∷ xs) = rw (is_true (eqb x x) (eqb_refl x), same_refl xs)

pub same_eq : (a b : List ℕ) → same a b ≡ true → a ≡ b
same_eq [] [] e = refl
same_eq [] (y ∷ ys) e = absurd (true_is e)
same_eq (x ∷ xs) [] e = absurd (true_is e)
same_eq (x ∷ xs) (y ∷ ys) e =
    ap₂ ◌∷◌ (eqb→eq x y (true_is (and_left (eqb x y) (same xs ys) e)))
    (same_eq xs ys (and_right (eqb x y) (same xs ys) e))

pub same_long : (a b : List ℕ) → (length a ≡ length b → ⊥) → same a b ≡ false
same_long [] [] h = absurd (h refl)
same_long [] (y ∷ ys) h = refl
same_long (x ∷ xs) [] h = refl
same_long (x ∷ xs) (y ∷ ys) h = rw (same_long xs ys (λ e. h (omega arith))) (and_false (eqb x y))

-- no byte is left of one of them, and so of neither
pub same_end : (equal : Bool) (a b : List ℕ) → length a ≡ length b → (a ≡ []) ⊎ (b ≡ []) → equal ≡ (equal and same a b)
same_end false a b e h = refl
same_end true [] [] e h = refl
same_end true [] (y ∷ b) e h = absurd (omega arith)
same_end true (x ∷ a) [] e h = absurd (omega arith)
same_end true (x ∷ a) (y ∷ b) e (inl p) = cc
same_end true (x ∷ a) (y ∷ b) e (inr p) = cc

eqb_comm : (x y : ℕ) → eqb x y ≡ eqb y x
eqb_comm x y = go (eqb x y) refl
  where
    go : (b : Bool) → eqb x y ≡ b → eqb x y ≡ eqb y x
    go true e = e ∙ sym (eq-eqb y x (sym (eqb-true x y e)))
    go false e = e ∙ sym (ne_eqb y x (λ p. eqb-false x y e (sym p)))

pub same_comm : (a b : List ℕ) → same a b ≡ same b a
same_comm [] [] = refl
same_comm [] (y ∷ ys) = refl
same_comm (x ∷ xs) [] = refl
same_comm (x ∷ xs) (y ∷ ys) = ap₂ ◌and◌ (eqb_comm x y) (same_comm xs ys)
