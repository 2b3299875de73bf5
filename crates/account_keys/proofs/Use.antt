-- A use moves a key to the end and changes nothing else of the list.
-- Assumes nothing.
use mathlib.Core.Bool.{Bool, true, false, not}
use mathlib.Core.List.Permᴰ
use mathlib.Core.List.{List, [], ◌∷◌, ◌++◌, append-nil, Permᴰ}
use mathlib.Core.Path.{◌≡◌, refl, sym, ap, ◌∙◌}
use Prim.Native.Nat.{◌-◌, ◌≤◌}
use native.Mathlib.Omega.{arith}
use lib.Dec.{eqb}
use lib.ListN.{length, get_or, length-append}
use lib.Seq.{get_or_at}
use borrow.Author.Tests.{not-true}
use Rattle.laws.proofs.Choice.{true_is, and_false, and_left, and_right}
use Rattle.laws.proofs.Permuted.{length_permuted, all_permuted, first_last}
use Rattle.laws.specs.Choice.{◌and◌, ◌or◌}
use Rattle.std.specs.Prelude.{if◌then◌else◌}
use Rattle.account_keys.specs.Keys.{Sized, zero_key, held, member, without, used, owned}
use Rattle.account_keys.specs.Promises.{UseMovesToEnd, UsesValid}
use Rattle.account_keys.specs.declared.AccountKey.{AccountKey}
use Rattle.basics.proofs.Laws.{same_eq, same_comm, same_refl}
use Rattle.basics.specs.Bytes.{same}
use Rattle.account_keys.proofs.Laws.{kept_valid, count_held}
use Rattle.account_keys.proofs.Without.{without_absent, removed, without_append, without_fewer}

-- ---- the same keys in another order

-- hold the same
pub member_permuted : {l m : List AccountKey} → Permᴰ l m → (k : AccountKey) → member l k ≡ member m k
member_permuted Permᴰ.nil k = refl
member_permuted (Permᴰ.cons e p) k =
    λ i. same (e i).bytes k.bytes or member_permuted p k i
member_permuted (Permᴰ.swap {a = a} {b = b} {l = l} e g) k =
    or_swap (same a.bytes k.bytes) (same b.bytes k.bytes) (member l k)
    ∙ (λ i. same (g i).bytes k.bytes or (same (e i).bytes k.bytes or member l k))
  where
    or_swap : (x y z : Bool) → (x or (y or z)) ≡ (y or (x or z))
    or_swap true true z = refl
    or_swap true false z = refl
    or_swap false y z = refl
member_permuted (Permᴰ.trans p q) k = member_permuted p k ∙ member_permuted q k

owned_exchange : (x y s m n o : Bool)
    → (x and (not (s or m) and (y and (not n and o)))) ≡ (y and (not (s or n) and (x and (not m and o))))
owned_exchange false false s m n o = refl
owned_exchange false true s m n o = sym (and_false (not (s or n)))
owned_exchange true false s m n o = and_false (not (s or m))
owned_exchange true true true m n o = refl
owned_exchange true true false true true o = refl
owned_exchange true true false true false o = refl
owned_exchange true true false false true o = refl
owned_exchange true true false false false o = refl

-- and are owned alike
owned_permuted : {l m : List AccountKey} → Permᴰ l m → owned l ≡ owned m
unfolding owned
owned_permuted Permᴰ.nil = refl
owned_permuted (Permᴰ.cons {b = b} {l₁ = l} e p) =
    (λ i. eqb (get_or (e i).bytes 0 0) 4 and (not (member l (e i)) and owned l))
    ∙ (λ i. eqb (get_or b.bytes 0 0) 4 and (not (member_permuted p b i) and owned_permuted p i))
owned_permuted (Permᴰ.swap {a = a} {b = b} {l = l} e g) =
    rw (same_comm b.bytes a.bytes)
    (owned_exchange (eqb (get_or a.bytes 0 0) 4) (eqb (get_or b.bytes 0 0) 4) (same a.bytes b.bytes) (member l a)
    (member l b) (owned l))
    ∙ (λ i. owned (g i ∷ e i ∷ l))
owned_permuted (Permᴰ.trans p q) = owned_permuted p ∙ owned_permuted q

-- ---- a use

-- the key moved: what stays, and then the key
moved : (l : List AccountKey) (k : AccountKey) → owned l ≡ true → member l k ≡ true
    → Permᴰ l (without l k ++ (k ∷ []))
unfolding owned
moved [] k o m = absurd (true_is m)
moved (x ∷ xs) k o m = go (same x.bytes k.bytes) refl m (moved xs k)
  where
    rest : (not (member xs x) and owned xs) ≡ true
    rest = and_right (eqb (get_or x.bytes 0 0) 4) (not (member xs x) and owned xs) o

    go : (b : Bool) → same x.bytes k.bytes ≡ b → (b or member xs k) ≡ true
        → (owned xs ≡ true → member xs k ≡ true → Permᴰ xs (without xs k ++ (k ∷ [])))
        → Permᴰ (x ∷ xs) ((if b then without xs k else x ∷ without xs k) ++ (k ∷ []))
    go true e h r =
        let is-k : x ≡ k = λ i. record { bytes = same_eq x.bytes k.bytes e i } in
        let once : member xs k ≡ false = ap (member xs) (sym is-k) ∙ not-true (member xs x)
        (and_left (not (member xs x)) (owned xs) rest) in
        rw (without_absent xs k once) (first_last is-k xs)
    go false e h r = Permᴰ.cons refl (r (and_right (not (member xs x)) (owned xs) rest) h)

module _ (l : List AccountKey) (k : AccountKey) where
  pub use_permutes : owned l ≡ true → Permᴰ l (used l k)
  unfolding used
  use_permutes o = go (member l k) refl
    where
      go : (b : Bool) → member l k ≡ b → Permᴰ l (if b then without l k ++ (k ∷ []) else l)
      go true e = moved l k o e
      go false e = Permᴰ.refl l

  pub use_held : member l k ≡ true → without l k ++ (k ∷ []) ≡ used l k
  unfolding used
  use_held e = rw e

  use-others : without (used l k) k ≡ without l k
  unfolding used
  use-others = go (member l k)
    where
      go : (b : Bool) → without (if b then without l k ++ (k ∷ []) else l) k ≡ without l k
      go true =
          without_append (without l k) (k ∷ []) k
          ∙ rw (same_refl k.bytes, without_absent (without l k) k (removed l k)) (append-nil (without l k))
      go false = refl

  -- there are no more keys than before, whatever the list
  pub use_within : length (used l k) ≤ length l
  unfolding used
  use_within = go (member l k) refl
    where
      go : (b : Bool) → member l k ≡ b → length (if b then without l k ++ (k ∷ []) else l) ≤ length l
      go true e = simp length-append (omega (arith, without_fewer l k e))
      go false e = omega arith

pub use_moves_to_end : UseMovesToEnd
use_moves_to_end l k o = record {
  same_keys = p;
  none_twice = sym (owned_permuted p) ∙ o;
  as_many = sym (length_permuted p);
  others = use-others l k;
  last = λ m. at-end (use_held l k m) (length_permuted p);
}
  where
    p : Permᴰ l (used l k)
    p = use_permutes l k o

    at-end : {m : List AccountKey} → without l k ++ (k ∷ []) ≡ m → length l ≡ length m → get_or m (length l - 1) zero_key ≡ k
    at-end e n =
        let size : length l - 1 ≡ length (without l k) =
        rw (n, ← e, length-append (without l k) (k ∷ [])) (omega arith)
        in
        rw (← e, size) (get_or_at (without l k) k [] zero_key (length (without l k)) refl)

pub uses_valid : UsesValid
uses_valid ks k v =
    let p = use_permutes (held ks) k v.known in
    kept_valid (used (held ks) k)
    (omega (arith, v.canonical.few, count_held ks v.canonical, use_within (held ks) k))
    (all_permuted Sized p v.sized) (sym (owned_permuted p) ∙ v.known)
