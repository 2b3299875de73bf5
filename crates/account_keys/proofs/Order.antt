-- A key that is stored or used goes behind all others, and their order stays.
-- Assumes nothing.
use mathlib.Core.Bool.{Bool, true, false, not}
use mathlib.Core.List.{List, [], ◌∷◌, ◌++◌, append-nil}
use mathlib.Core.Path.{◌≡◌, refl, sym, ap, ◌∙◌}
use Prim.Native.Nat.{ℕ, ◌≤◌}
use lib.Dec.{eqb, leb}
use lib.ListN.{length, drop, get_or}
use borrow.Author.Tests.{leb-true, not-true}
use Rattle.laws.proofs.Choice.{true_is, if_same, and_right, or_right, or_false, or_false_left, or_false_right}
use Rattle.laws.specs.Choice.{◌and◌, ◌or◌}
use Rattle.std.specs.Prelude.{if◌then◌else◌}
use Rattle.account_keys.specs.Keys.{limit, member, without, used, owned, stored}
use Rattle.account_keys.specs.Promises.{stands_before, GoesLast, StoredGoesLast, RemovesFirst, OnlyFirstRemoved, LastUsedAgain}
use Rattle.account_keys.specs.declared.AccountKey.{AccountKey}
use Rattle.basics.proofs.Laws.{same_eq, same_refl}
use Rattle.basics.specs.Bytes.{same}
use Rattle.account_keys.proofs.StoredList.{member_snoc, member_last, owned_snoc}
use Rattle.account_keys.proofs.Storing.{member_drop}
use Rattle.account_keys.proofs.Use.{member_permuted, use_permutes, use_held}
use Rattle.account_keys.proofs.Without.{removed, without_absent, without_append}

-- ---- a key behind another

-- it is held
before_held : (l : List AccountKey) (a b : AccountKey) → stands_before l a b ≡ true → member l b ≡ true
before_held [] a b e = absurd (true_is e)
before_held (x ∷ xs) a b e = or_right (same x.bytes b.bytes) (member xs b)
    (go (same x.bytes a.bytes) e (before_held xs a b))
  where
    go : (c : Bool) → (if c then member xs b else stands_before xs a b) ≡ true
        → (stands_before xs a b ≡ true → member xs b ≡ true) → member xs b ≡ true
    go true h r = h
    go false h r = r h

-- a key more in front of both
before_cons : (x : AccountKey) (l : List AccountKey) (a b : AccountKey) → stands_before l a b ≡ true
    → stands_before (x ∷ l) a b ≡ true
before_cons x l a b e = go (same x.bytes a.bytes)
  where
    go : (c : Bool) → (if c then member l b else stands_before l a b) ≡ true
    go true = before_held l a b e
    go false = e

before_drop : (l : List AccountKey) (a b : AccountKey) → stands_before (drop 1 l) a b ≡ true → stands_before l a b ≡ true
before_drop [] a b e = e
before_drop (x ∷ xs) a b e = before_cons x xs a b e

-- a key that is held among the others is held
member_without : (l : List AccountKey) (k b : AccountKey) → member (without l k) b ≡ true → member l b ≡ true
member_without [] k b e = e
member_without (x ∷ xs) k b e = go (same x.bytes k.bytes) (same x.bytes b.bytes) refl e (member_without xs k b)
  where
    go : (c s : Bool) → same x.bytes b.bytes ≡ s
        → member (if c then without xs k else x ∷ without xs k) b ≡ true
        → (member (without xs k) b ≡ true → member xs b ≡ true) → (s or member xs b) ≡ true
    go c true q h r = refl
    go true false q h r = r h
    go false false q h r = r (rw q at h)

-- the others keep their order
before_without : (l : List AccountKey) (k a b : AccountKey) → stands_before (without l k) a b ≡ true → stands_before l a b ≡ true
before_without [] k a b e = e
before_without (x ∷ xs) k a b e = go (same x.bytes k.bytes) e (before_without xs k a b)
  where
    go : (c : Bool) → stands_before (if c then without xs k else x ∷ without xs k) a b ≡ true
        → (stands_before (without xs k) a b ≡ true → stands_before xs a b ≡ true) → stands_before (x ∷ xs) a b ≡ true
    go true h r = before_cons x xs a b (r h)
    go false h r = by (same x.bytes a.bytes) h
      where
        by : (c : Bool) → (if c then member (without xs k) b else stands_before (without xs k) a b) ≡ true
            → (if c then member xs b else stands_before xs a b) ≡ true
        by true m = member_without xs k b m
        by false m = r m

-- ---- a key more at the end

-- it stands before none
last_before_none : (l : List AccountKey) (k b : AccountKey) → member l k ≡ false → stands_before (l ++ (k ∷ [])) k b ≡ false
last_before_none [] k b e = rw (same_refl k.bytes)
last_before_none (x ∷ xs) k b e =
    rw (or_false_left (same x.bytes k.bytes) (member xs k) e)
    (last_before_none xs k b (or_false_right (same x.bytes k.bytes) (member xs k) e))

-- and another one is behind a key only if it was
before_last : (l : List AccountKey) (k a b : AccountKey) → stands_before (l ++ (k ∷ [])) a b ≡ true
    → same k.bytes b.bytes ≡ false
    → stands_before l a b ≡ true
before_last [] k a b e n = absurd (true_is (sym (if_same (same k.bytes a.bytes) (λ _. refl)) ∙ e))
before_last (x ∷ xs) k a b e n = go (same x.bytes a.bytes) e (λ h. before_last xs k a b h n)
  where
    go : (c : Bool) → (if c then member (xs ++ (k ∷ [])) b else stands_before (xs ++ (k ∷ [])) a b) ≡ true
        → (stands_before (xs ++ (k ∷ [])) a b ≡ true → stands_before xs a b ≡ true)
        → (if c then member xs b else stands_before xs a b) ≡ true
    go true h r = sym (member_snoc xs k b ∙ rw n (or_false (member xs b))) ∙ h
    go false h r = r h

-- ---- an account key write

pub stored_goes_last : StoredGoesLast
unfolding stored
stored_goes_last l k = go (member l k) (leb limit (length l)) refl refl
  where
    -- what stands in front of the key at the end
    ends : (front : List AccountKey) → stored l k ≡ front ++ (k ∷ []) → member front k ≡ false
        → ((a b : AccountKey) → stands_before front a b ≡ true → stands_before l a b ≡ true)
        → GoesLast l k
    ends front e n order = record {
      before_none = λ b. rw e (last_before_none front k b n);
      others_stay = λ a b h m. order a b (before_last front k a b (rw e at h) m);
    }

    go : (m t : Bool) → member l k ≡ m → leb limit (length l) ≡ t → GoesLast l k
    go true t p q = ends (without l k) (rw p (sym (use_held l k p))) (removed l k) (before_without l k)
    go false true p q = ends (drop 1 l) (rw (p, q)) (member_drop l k p) (before_drop l)
    go false false p q = ends l (rw (p, q)) p (λ a b h. h)

-- ---- what is removed

-- the first of a list stands before all others
first_before : (x : AccountKey) (xs : List AccountKey) (a b : AccountKey) → same x.bytes a.bytes ≡ true
    → member (x ∷ xs) b ≡ true
    → same a.bytes b.bytes ≡ false
    → stands_before (x ∷ xs) a b ≡ true
first_before x xs a b e m n =
    rw e (rw (ap (λ (y : List ℕ). same y b.bytes) (same_eq x.bytes a.bytes e) ∙ n) at m)

-- a full list without its first key, and a new one
removed_first : (l : List AccountKey) (k a : AccountKey) → limit ≤ length l → member l a ≡ true
    → member (drop 1 l ++ (k ∷ [])) a ≡ false
    → RemovesFirst l a
removed_first [] k a f m n = absurd (true_is m)
removed_first (x ∷ xs) k a f m n = go (same x.bytes a.bytes) refl m
  where
    gone : member xs a ≡ false
    gone = or_false_left (member xs a) (same k.bytes a.bytes) (sym (member_snoc xs k a) ∙ n)

    go : (c : Bool) → same x.bytes a.bytes ≡ c → (c or member xs a) ≡ true → RemovesFirst (x ∷ xs) a
    go true e h = record { full = f; first = λ b m n. first_before x xs a b e m n }
    go false e h = absurd (true_is (sym gone ∙ h))

pub only_first_removed : OnlyFirstRemoved
unfolding stored
only_first_removed l k a o m = go (member l k) (leb limit (length l)) refl refl
  where
    go : (c f : Bool) → member l k ≡ c → leb limit (length l) ≡ f
        → member (if c then used l k else if f then drop 1 l ++ (k ∷ []) else l ++ (k ∷ [])) a ≡ false
        → RemovesFirst l a
    go true f p q n = absurd (true_is (sym n ∙ sym (member_permuted (use_permutes l k o) a) ∙ m))
    go false true p q n = removed_first l k a (leb-true limit (length l) q) m n
    go false false p q n =
        absurd (true_is (sym (or_false_left (member l a) (same k.bytes a.bytes) (sym (member_snoc l k a) ∙ n)) ∙ m))

-- ---- the last key used again

pub last_used_again : LastUsedAgain
last_used_again l k o =
    let new : member l k ≡ false = not-true (member l k) (and_right (eqb (get_or k.bytes 0 0) 4) (not (member l k))
    (and_right (owned l) (eqb (get_or k.bytes 0 0) 4 and not (member l k)) (sym (owned_snoc l k) ∙ o))) in
    let rest : without (l ++ (k ∷ [])) k ≡ l = without_append l (k ∷ []) k
    ∙ rw (same_refl k.bytes, without_absent l k new) (append-nil l) in
    sym (use_held (l ++ (k ∷ [])) k (member_last l k)) ∙ ap (λ (m : List AccountKey). m ++ (k ∷ [])) rest
