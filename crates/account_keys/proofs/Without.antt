-- The other keys of a list, beside one.
-- Assumes nothing.
use mathlib.Core.Bool.{Bool, true, false}
use mathlib.Core.List.{List, [], ◌∷◌, ◌++◌}
use mathlib.Core.Path.{◌≡◌, refl, sym, ap}
use Prim.Native.Nat.{ℕ, ◌+◌, ◌≤◌, ◌<◌}
use native.Mathlib.Numerals.{add-one}
use native.Mathlib.Omega.{arith}
use lib.ListN.{length, take, get_or}
use lib.Seq.{take-suc, length-take-le}
use Rattle.laws.proofs.Choice.{true_is, or_false_left, or_false_right}
use Rattle.laws.specs.Choice.{◌or◌}
use Rattle.std.specs.Prelude.{if◌then◌else◌}
use Rattle.account_keys.specs.Keys.{Kept, limit, held, kept, member, without}
use Rattle.account_keys.specs.declared.AccountKey.{AccountKey}
use Rattle.account_keys.specs.declared.AccountKeys.{AccountKeys}
use Rattle.basics.specs.Bytes.{same}
use Rattle.account_keys.proofs.Laws.{absent_key, Kept-kept, count_held}

-- a key that is not held is not removed
pub without_absent : (l : List AccountKey) (k : AccountKey) → member l k ≡ false → without l k ≡ l
without_absent [] k e = refl
without_absent (x ∷ xs) k e =
    rw (or_false_left (same x.bytes k.bytes) (member xs k) e)
    (ap (λ (ys : List AccountKey). x ∷ ys) (without_absent xs k (or_false_right (same x.bytes k.bytes) (member xs k) e)))

-- one that is removed is no longer held
pub removed : (l : List AccountKey) (k : AccountKey) → member (without l k) k ≡ false
removed [] k = refl
removed (x ∷ xs) k = go (same x.bytes k.bytes) refl (removed xs k)
  where
    go : (b : Bool) → same x.bytes k.bytes ≡ b → member (without xs k) k ≡ false
        → member (if b then without xs k else x ∷ without xs k) k ≡ false
    go true e h = h
    go false e h = rw e h

pub without_append : (l m : List AccountKey) (k : AccountKey) → without (l ++ m) k ≡ without l k ++ without m k
without_append [] m k = refl
without_append (x ∷ xs) m k = rw (without_append xs m k) (go (same x.bytes k.bytes))
  where
    go : (b : Bool)
        → (if b then without xs k ++ without m k else x ∷ (without xs k ++ without m k))
        ≡ (if b then without xs k else x ∷ without xs k) ++ without m k
    go true = refl
    go false = refl

-- a turn of the loop that leaves the key out
pub without_more : (l : List AccountKey) (i : ℕ) (k : AccountKey) → i < length l
    → without (take i l) k ++ without (get_or l i absent_key ∷ []) k ≡ without (take (i + 1) l) k
without_more l i k h =
    let next : take (i + 1) l ≡ take i l ++ (get_or l i absent_key ∷ []) = rw (add-one, take-suc l i absent_key h) in
    rw next (sym (without_append (take i l) (get_or l i absent_key ∷ []) k))

-- there are no more than before
pub without_within : (l : List AccountKey) (k : AccountKey) → length (without l k) ≤ length l
without_within [] k = omega arith
without_within (x ∷ xs) k = go (same x.bytes k.bytes) (without_within xs k)
  where
    go : (b : Bool) → length (without xs k) ≤ length xs → length (if b then without xs k else x ∷ without xs k) ≤ length (x ∷ xs)
    go true h = omega (arith, h)
    go false h = omega (arith, h)

-- and fewer where a held one was removed
pub without_fewer : (l : List AccountKey) (k : AccountKey) → member l k ≡ true → length (without l k) < length l
without_fewer [] k e = absurd (true_is e)
without_fewer (x ∷ xs) k e = go (same x.bytes k.bytes) e (without_fewer xs k)
  where
    go : (b : Bool) → (b or member xs k) ≡ true → (member xs k ≡ true → length (without xs k) < length xs)
        → length (if b then without xs k else x ∷ without xs k) < length (x ∷ xs)
    go true h r = omega (arith, without_within xs k)
    go false h r = omega (arith, r h)

-- ---- as the functions need it

-- what was collected after i turns has room for one more
pub others_kept : (ks : AccountKeys) (k : AccountKey) (i : ℕ) → Kept ks → i < ks.count
    → Kept (kept (without (take i (held ks)) k)) × (length (without (take i (held ks)) k) < limit)
others_kept ks k i v h =
    let few : length (without (take i (held ks)) k) ≤ length (take i (held ks)) = without_within (take i (held ks)) k in
    let size : length (take i (held ks)) ≡ i = length-take-le i (held ks) (omega (arith, count_held ks v)) in
    (Kept-kept (without (take i (held ks)) k) (omega (arith, v.few)), omega (arith, v.few))

-- a held key left out makes room
pub room_without : (ks : AccountKeys) (k : AccountKey) → Kept ks → member (held ks) k ≡ true
    → Kept (kept (without (held ks) k)) × (length (without (held ks) k) < limit)
room_without ks k v e =
    let few : length (without (held ks) k) < limit = omega (arith, v.few, count_held ks v, without_fewer (held ks) k e) in
    (Kept-kept (without (held ks) k) (omega arith), few)
