-- An account key write keeps the list valid, and in its room.
-- Assumes nothing.
use mathlib.Core.Bool.{Bool, true, false, not}
use mathlib.Core.List.{List, [], ◌∷◌, ◌++◌}
use mathlib.Core.Path.{◌≡◌, refl, ◌∙◌}
use Prim.Native.Nat.{◌≤◌, ◌<◌}
use native.Mathlib.Omega.{arith}
use lib.Dec.{leb, eqb}
use lib.ListN.{length, drop, get_or, length-append, length-drop}
use borrow.Author.Tests.{eq-eqb, leb-false}
use Rattle.laws.proofs.All.{all_append, all_drop}
use Rattle.laws.proofs.Choice.{and_right, or_false_right}
use Rattle.laws.specs.Lists.{All}
use Rattle.account_keys.specs.Keys.{Kept, Valid, Sized, limit, held, kept, member, owned, stored}
use Rattle.account_keys.specs.Promises.{StoresValid}
use Rattle.account_keys.specs.declared.AccountKey.{AccountKey}
use Rattle.account_keys.specs.declared.AccountKeys.{AccountKeys}
use Rattle.basics.specs.Bytes.{same}
use Rattle.account_keys.proofs.Laws.{Kept-kept, kept_valid, count_held}
use Rattle.account_keys.proofs.StoredList.{owned_snoc}
use Rattle.account_keys.proofs.Use.{use_within, uses_valid}

-- one key more, that is not held
push_valid : (l : List AccountKey) (k : AccountKey) → length l < limit → All Sized l → owned l ≡ true → Sized k
    → get_or k.bytes 0 0 ≡ 0x04 → member l k ≡ false → Valid (kept (l ++ (k ∷ [])))
push_valid l k h p o s f m =
    kept_valid (l ++ (k ∷ [])) (simp length-append (omega arith)) (all_append Sized l (k ∷ []) p (s, tt))
    (owned_snoc l k ∙ rw (o, eq-eqb (get_or k.bytes 0 0) 0x04 f, m))

pub member_drop : (l : List AccountKey) (k : AccountKey) → member l k ≡ false → member (drop 1 l) k ≡ false
member_drop [] k e = e
member_drop (x ∷ xs) k e = or_false_right (same x.bytes k.bytes) (member xs k) e

owned_drop : (l : List AccountKey) → owned l ≡ true → owned (drop 1 l) ≡ true
unfolding owned
owned_drop [] e = e
owned_drop (x ∷ xs) e = and_right (not (member xs x)) (owned xs) (and_right (eqb (get_or x.bytes 0 0) 4) _ e)

pub stores_valid : StoresValid
unfolding stored
stores_valid ks k v s f = go (member l k) (leb limit (length l)) refl refl
  where
    l : List AccountKey
    l = held ks

    few : length l ≤ limit
    few = omega (arith, v.canonical.few, count_held ks v.canonical)

    go : (m t : Bool) → member l k ≡ m → leb limit (length l) ≡ t → Valid (kept (stored l k))
    go true t p q = rw p (uses_valid ks k v)
    go false true p q =
        let room : length (drop 1 l) < limit = simp length-drop (omega (arith, few)) in
        rw (p, q)
        (push_valid (drop 1 l) k room (all_drop Sized 1 l v.sized) (owned_drop l v.known) s f
        (member_drop l k p))
    go false false p q = rw (p, q) (push_valid l k (leb-false limit (length l) q) v.sized v.known s f p)

-- a write of any key keeps the room
pub stores_kept : (ks : AccountKeys) (k : AccountKey) → Kept ks → Kept (kept (stored (held ks) k))
unfolding stored
stores_kept ks k v =
    Kept-kept (stored (held ks) k) (go (member (held ks) k) (leb limit (length (held ks))) refl refl)
  where
    few : length (held ks) ≤ limit
    few = omega (arith, v.few, count_held ks v)

    go : (m t : Bool) → member (held ks) k ≡ m → leb limit (length (held ks)) ≡ t → length
        (stored (held ks) k) ≤ limit
    go true t p q = rw p (omega (arith, few, use_within (held ks) k))
    go false true p q = rw (p, q) (simp (length-append, length-drop) (omega (arith, few)))
    go false false p q = rw (p, q) (simp length-append (omega (arith, leb-false limit (length (held ks)) q)))
