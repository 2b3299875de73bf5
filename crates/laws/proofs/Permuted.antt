-- Laws of lists with the same elements in another order.
-- Assumes nothing.
use mathlib.Core.List.{List, [], ◌∷◌, ◌++◌, Permᴰ}
use mathlib.Core.Path.{◌≡◌, refl, ap, subst, ◌∙◌}
use Prim.Native.Nat.{suc}
use lib.ListN.{length}
use Rattle.laws.specs.Lists.{All}

module _ {A : Type 0} where
  pub length_permuted : {l m : List A} → Permᴰ l m → length l ≡ length m
  length_permuted Permᴰ.nil = refl
  length_permuted (Permᴰ.cons e p) = ap suc (length_permuted p)
  length_permuted (Permᴰ.swap e g) = refl
  length_permuted (Permᴰ.trans p q) = length_permuted p ∙ length_permuted q

  pub all_permuted : (P : A → Type 0) {l m : List A} → Permᴰ l m → All P l → All P m
  all_permuted P Permᴰ.nil h = h
  all_permuted P (Permᴰ.cons e p) h = (subst P e h.0, all_permuted P p h.1)
  all_permuted P (Permᴰ.swap e g) h = (subst P g h.1.0, (subst P e h.0, h.1.1))
  all_permuted P (Permᴰ.trans p q) h = all_permuted P q (all_permuted P p h)

  -- the first element, moved to the end
  pub first_last : {a b : A} → a ≡ b → (l : List A) → Permᴰ (a ∷ l) (l ++ (b ∷ []))
  first_last e [] = Permᴰ.cons e Permᴰ.nil
  first_last e (x ∷ l) = Permᴰ.trans (Permᴰ.swap refl refl) (Permᴰ.cons refl (first_last e l))
