-- Loops that fill an array place by place: the first i of its n places have what a rule f gives.
-- Assumes nothing.
use mathlib.Core.List.{List, [], ◌∷◌, ◌++◌}
use mathlib.Core.Path.{◌≡◌, refl, sym, ◌∙◌, ap}
use Prim.Native.Nat.{ℕ, zero, suc, ◌+◌, ◌<◌, ◌≤◌}
use native.Mathlib.Nat.{le_of_suc-le-suc, not-suc-le-zero}
use native.Mathlib.Numerals.{add-one}
use native.Mathlib.Omega.{arith}
use lib.ListN.{length, take, drop, get_or, set, length-set}
use lib.Seq.{take_all, ext_get_or, get_or-set_same, get_or-set_other}
use borrow.Author.Count.{below_more}
use Rattle.laws.specs.Tabulate.{tabulate}
use Rattle.laws.proofs.Lists.{drop_more}

pub length_tabulate : {A : Type 0} (n : ℕ) (f : ℕ → A) → length (tabulate n f) ≡ n
length_tabulate zero f = refl
length_tabulate (suc n) f = ap suc (length_tabulate n (λ k. f (suc k)))

pub get_d_tabulate : {A : Type 0} (n : ℕ) (f : ℕ → A) (i : ℕ) (d : A) → i < n → get_or (tabulate n f) i d ≡ f i
get_d_tabulate zero f i d h = absurd (not-suc-le-zero h)
get_d_tabulate (suc n) f zero d h = refl
get_d_tabulate (suc n) f (suc i) d h = get_d_tabulate n (λ k. f (suc k)) i d (le_of_suc-le-suc h)

pub tabulate_ext : {A : Type 0} (n : ℕ) (f g : ℕ → A) → ((i : ℕ) → i < n → f i ≡ g i) → tabulate n f
    ≡ tabulate n g
tabulate_ext zero f g e = refl
tabulate_ext (suc n) f g e =
    ap (λ x. x ∷ tabulate n (λ k. f (suc k))) (e zero (omega arith))
    ∙ ap (λ l. g zero ∷ l) (tabulate_ext n (λ k. f (suc k)) (λ k. g (suc k)) (λ i h. e (suc i) (omega arith)))

-- the first places of a list, read one by one
pub tabulate_take : {A : Type 0} (n : ℕ) (l : List A) (d : A) → n ≤ length l → tabulate n (λ i. get_or l i d)
    ≡ take n l
tabulate_take zero l d h = refl
tabulate_take (suc n) [] d h = absurd (not-suc-le-zero h)
tabulate_take (suc n) (x ∷ l) d h = ap (λ t. x ∷ t) (tabulate_take n l d (le_of_suc-le-suc h))

-- a list is the table of its own places
pub tabulate_get_or : {A : Type 0} (n : ℕ) (l : List A) (d : A) → length l ≡ n → tabulate n (λ i. get_or l i d) ≡ l
tabulate_get_or n l d e = tabulate_take n l d (omega arith) ∙ take_all n l (omega arith)

tabulate_suc : {A : Type 0} (n : ℕ) (f : ℕ → A) → tabulate (suc n) f ≡ tabulate n f ++ (f n ∷ [])
tabulate_suc zero f = refl
tabulate_suc (suc n) f = ap (λ l. f zero ∷ l) (tabulate_suc n (λ k. f (suc k)))

-- one place more, at the end
pub tabulate_more : {A : Type 0} (n : ℕ) (f : ℕ → A) → tabulate (n + 1) f ≡ tabulate n f ++ (f n ∷ [])
tabulate_more n f = rw add-one (tabulate_suc n f)

-- what is left after i places
pub drop_tabulate : {A : Type 0} (n : ℕ) (f : ℕ → A) (i : ℕ) → i < n → drop i (tabulate n f) ≡ f i ∷ drop (i + 1)
    (tabulate n f)
drop_tabulate n f i h =
    let inside : i < length (tabulate n f) = rw (length_tabulate n f) h in
    drop_more (tabulate n f) i (f i) inside ∙ rw (get_d_tabulate n f i (f i) h)

-- what holds of each value, and of the value past the end, holds at every place
pub tabulate_all : {A : Type 0} (P : A → Type 0) (n : ℕ) (f : ℕ → A) (d : A)
    → P d → ((i : ℕ) → P (f i)) → (i : ℕ) → P (get_or (tabulate n f) i d)
tabulate_all P zero f d p q i = p
tabulate_all P (suc n) f d p q zero = q zero
tabulate_all P (suc n) f d p q (suc i) = tabulate_all P n (λ k. f (suc k)) d p (λ k. q (suc k)) i

pub record Filled {A : Type 0} (d : A) (n : ℕ) (f : ℕ → A) (i : ℕ) (l : List A) : Type 0 where
  pub long : length l ≡ n
  pub within : i ≤ n
  pub done : (k : ℕ) → k < i → get_or l k d ≡ f k

pub filled_none : {A : Type 0} {d : A} {n : ℕ} {f : ℕ → A} {l : List A} → length l ≡ n → Filled d n f 0 l
filled_none e = record { long = e; within = omega arith; done = λ k h. absurd (not-suc-le-zero h) }

-- one more place
pub filled_set : {A : Type 0} {d : A} {n : ℕ} {f : ℕ → A} {i : ℕ} {l : List A} {v : A}
    → Filled d n f i l → i < n → v ≡ f i → Filled d n f (i + 1) (set l i v)
filled_set {d = d} {f = f} {i = i} {l = l} {v = v} p h e =
    record {
      long = length-set l i v ∙ p.long;
      within = omega arith;
      done = below_more (λ k. get_or (set l i v) k d ≡ f k) i
          (λ k lt. get_or-set_other l i k v d (λ q. omega arith) ∙ p.done k lt)
          (get_or-set_same l i v d (omega (arith, p.long)) ∙ e);
    }

-- all places
pub filled_all : {A : Type 0} {d : A} {n : ℕ} {f : ℕ → A} {i : ℕ} {l : List A} → Filled d n f i l → n ≤ i → l
    ≡ tabulate n f
filled_all {d = d} {n = n} {f = f} {l = l} p h =
    ext_get_or d l (tabulate n f) (p.long ∙ sym (length_tabulate n f))
    (λ k hk. p.done k (omega (arith, p.long)) ∙ sym (get_d_tabulate n f k d (omega (arith, p.long))))
