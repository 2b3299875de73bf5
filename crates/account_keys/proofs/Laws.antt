-- Laws of the list of account keys.
-- Assumes nothing.
use mathlib.Core.Bool.{true}
use mathlib.Core.List.{List, [], ◌∷◌, ◌++◌}
use mathlib.Core.Path.{◌≡◌, refl, ap}
use Prim.Native.Nat.{ℕ, zero, suc, ◌+◌, ◌≤◌, ◌<◌}
use native.Mathlib.Nat.{le_refl, le_of_suc-le-suc, not-suc-le-zero}
use native.Mathlib.Omega.{arith}
use lib.ListN.{length, take, drop, set, get_or}
use lib.Seq.{take-take}
use Rattle.std.specs.List.{list_any}
use Rattle.std.proofs.lemmas.Grind.{common_steps}
use Rattle.laws.proofs.Choice.{or_right}
use Rattle.laws.proofs.Padded.{take_padded, length_places, set_free_place, count_one_more, one_less_within}
use Rattle.laws.specs.Lists.{padded, All}
use Rattle.account_keys.specs.Keys.{Valid, Sized, owned, Kept, limit, zero_key, held, kept, member, used, stored}
use Rattle.account_keys.specs.declared.AccountKey.{AccountKey}
use Rattle.account_keys.specs.declared.AccountKeys.{AccountKeys}
use Rattle.basics.proofs.Laws.{same_refl}
use Rattle.basics.specs.Bytes.{same}

-- what a read past the end of an array of keys gives
abbrev pub absent_key : AccountKey
absent_key = record { bytes = [] }

-- one of the keys is the same
pub member_any : (l : List AccountKey) (k : AccountKey) → list_any (λ x. same x.bytes k.bytes) l ≡ member l k
member_any [] k = refl
member_any (x ∷ l) k = grind (arith, common_steps, member_any l k)

-- the key at a place is held
pub member_get : (l : List AccountKey) (i : ℕ) (z : AccountKey) → i < length l → member l (get_or l i z) ≡ true
member_get [] i z h = absurd (not-suc-le-zero h)
member_get (x ∷ xs) zero z h = rw (same_refl x.bytes)
member_get (x ∷ xs) (suc i) z h =
    or_right (same x.bytes (get_or xs i z).bytes) (member xs (get_or xs i z)) (member_get xs i z (le_of_suc-le-suc h))

-- the places of a kept value, as the laws of padded lists read them
pub keys_padded : (ks : AccountKeys) → Kept ks → ks.keys ≡ padded limit zero_key (held ks)
keys_padded ks v = ap (λ (x : AccountKeys). x.keys) v.whole

pub length_keys : (ks : AccountKeys) → Kept ks → length ks.keys ≡ limit
length_keys ks v = length_places limit zero_key ks.keys ks.count v.few (keys_padded ks v)

-- a list reads back from the value that holds it
pub held_kept : (l : List AccountKey) → held (kept l) ≡ l
held_kept l = take_padded limit zero_key l

pub Kept-kept : (l : List AccountKey) → length l ≤ limit → Kept (kept l)
Kept-kept l h = record { few = h; whole = rw (held_kept l) }

-- the count of a kept value is its list's length
pub count_held : (ks : AccountKeys) → Kept ks → ks.count ≡ length (held ks)
count_held ks v = ap (λ (x : AccountKeys). x.count) v.whole

-- the stores that put one key more into a kept value
pub kept_push : (ks : AccountKeys) (k : AccountKey) → Kept ks → ks.count < limit
    → ◌≡◌ {A = AccountKeys} (record { keys = set ks.keys ks.count k; count = ks.count + 1 })
    (kept (held ks ++ (k ∷ [])))
kept_push ks k v h =
    λ i. record {
      keys = set_free_place limit zero_key ks.keys ks.count v.few (keys_padded ks v) k h i;
      count = count_one_more limit zero_key ks.keys ks.count v.few (keys_padded ks v) k i;
    }

-- the three ways of an account key write
module _ (ks : AccountKeys) (k : AccountKey) (v : Kept ks) where
  pub stored_held : member (held ks) k ≡ true → used (held ks) k ≡ stored (held ks) k
  unfolding stored
  stored_held e = rw e

  -- a full list without its first key has room
  pub Kept-drop : ks.count ≤ limit → Kept (kept (drop 1 (held ks))) × (length (drop 1 (held ks)) < limit)
  Kept-drop h =
      let size : length (drop 1 (held ks)) < limit = one_less_within limit zero_key ks.keys ks.count h
      (keys_padded ks v) (omega arith) in
      (Kept-kept (drop 1 (held ks)) (omega arith), size)

pub take_held : (ks : AccountKeys) → take ks.count (held ks) ≡ held ks
take_held ks = take-take ks.count ks.count ks.keys (le_refl ks.count)

-- a list of owned keys of the right size is held by a valid value
pub kept_valid : (l : List AccountKey) → length l ≤ limit → All Sized l → owned l ≡ true → Valid (kept l)
kept_valid l h p o =
    let e : held (kept l) ≡ l = held_kept l in
    record { canonical = Kept-kept l h; sized = rw e p; known = rw e o }
