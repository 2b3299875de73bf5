-- What holds of each element of a list.
-- Assumes nothing.
use mathlib.Core.List.{List, [], ◌∷◌, ◌++◌, map}
use Prim.Native.Nat.{ℕ, zero, suc, ◌<◌}
use native.Mathlib.Nat.{le_of_suc-le-suc, not-suc-le-zero}
use lib.ListN.{length, take, drop, get_or, set, replicate}
use Rattle.laws.specs.Lists.{All}
use Rattle.laws.specs.Tabulate.{tabulate}

module _ {ℓ} {A : Type ℓ} (P : A → Type 0) where
  pub all_get : (l : List A) → All P l → (i : ℕ) (z : A) → i < length l → P (get_or l i z)
  all_get [] p i z h = absurd (not-suc-le-zero h)
  all_get (x ∷ xs) p zero z h = p.0
  all_get (x ∷ xs) p (suc i) z h = all_get xs p.1 i z (le_of_suc-le-suc h)

  -- also past the end
  pub all_get_d : (l : List A) (z : A) → All P l → P z → (i : ℕ) → P (get_or l i z)
  all_get_d [] z p q i = q
  all_get_d (x ∷ xs) z p q zero = p.0
  all_get_d (x ∷ xs) z p q (suc i) = all_get_d xs z p.1 q i

  pub all_take : (n : ℕ) (l : List A) → All P l → All P (take n l)
  all_take zero l p = tt
  all_take (suc n) [] p = tt
  all_take (suc n) (x ∷ xs) p = (p.0, all_take n xs p.1)

  pub all_set : (l : List A) (i : ℕ) (a : A) → All P l → P a → All P (set l i a)
  all_set [] i a p q = tt
  all_set (x ∷ xs) zero a p q = (q, p.1)
  all_set (x ∷ xs) (suc i) a p q = (p.0, all_set xs i a p.1 q)

  pub all_mapped : (f : A → A) → ((a : A) → P a → P (f a)) → (l : List A) → All P l → All P (map f l)
  all_mapped f k [] p = tt
  all_mapped f k (x ∷ xs) p = (k x p.0, all_mapped f k xs p.1)

  pub all_replicate : (n : ℕ) (a : A) → P a → All P (replicate n a)
  all_replicate zero a p = tt
  all_replicate (suc n) a p = (p, all_replicate n a p)

  pub all_drop : (n : ℕ) (l : List A) → All P l → All P (drop n l)
  all_drop zero l p = p
  all_drop (suc n) [] p = tt
  all_drop (suc n) (x ∷ xs) p = all_drop n xs p.1

  pub all_append : (a b : List A) → All P a → All P b → All P (a ++ b)
  all_append [] b p q = q
  all_append (x ∷ xs) b p q = (p.0, all_append xs b p.1 q)

pub all_implies {ℓ} : {A : Type ℓ} (P Q : A → Type 0) → ((a : A) → P a → Q a) → (l : List A) → All P l → All Q l
all_implies P Q f [] p = tt
all_implies P Q f (x ∷ xs) p = (f x p.0, all_implies P Q f xs p.1)

pub all_tabulate : {A : Type 0} (P : A → Type 0) (n : ℕ) (f : ℕ → A) → ((i : ℕ) → P (f i)) → All P (tabulate n f)
all_tabulate P zero f p = tt
all_tabulate P (suc n) f p = (p zero, all_tabulate P n (λ i. f (suc i)) (λ i. p (suc i)))
