-- The stored list reads back as it was written, a list that reads under a version is that version's writing of what it reads as, and
-- what becomes of lists of the older version.
-- Assumes nothing.
use mathlib.Core.Bool.{Bool, true, false}
use mathlib.Core.List.{List, [], ◌∷◌}
use mathlib.Core.Path.{◌≡◌, refl, sym, ap, ◌∙◌}
use Prim.Native.Nat.{ℕ, zero, suc, ◌+◌, ◌-◌, ◌*◌, ◌/◌, ◌%◌, ◌≤◌, ◌<◌}
use native.Mathlib.Nat.{le_refl, le_of_suc-le-suc, not-suc-le-zero}
use native.Mathlib.Omega.{arith}
use lib.Dec.{leb, eqb}
use lib.ListN.{length, take, drop, get_or, length-drop}
use lib.Seq.{take_all, take-suc, take-length, take_at, drop-append-add, drop-drop, take-add, length-take-le}
use Rattle.std.specs.Prelude.{if◌then◌else◌, None, Some}
use borrow.Author.Tests.{leb-true, eqb-true, eqb-false}
use Rattle.laws.proofs.All.{all_get, all_append}
use Rattle.laws.proofs.Choice.{and_left, and_right}
use Rattle.laws.proofs.Lists.{get_or4_front}
use Rattle.laws.specs.BigEndian.{number2}
use Rattle.laws.specs.Lists.{All}
use Rattle.account_keys.specs.Keys.{Valid, Sized, limit, held, kept, owned}
use Rattle.account_keys.specs.Promises.{WritesWithinMax, ReadsBackUnder, ReadsBack, OnlyWritings, ReadsValid, OlderStillRead, OlderRefuses}
use Rattle.account_keys.specs.StoredList.{key_at, keys_in, key_bytes, well_sized, writing_under, writing, reading_under, older_reading, reading, reading_of}
use Rattle.account_keys.specs.declared.AccountKey.{AccountKey}
use Rattle.account_keys.specs.declared.AccountKeys.{AccountKeys}
use Rattle.basics.specs.Bytes.{part}
use Rattle.account_keys.proofs.Laws.{absent_key, held_kept, kept_valid, count_held}
use Rattle.account_keys.proofs.StoredList.{key_bytes_snoc, length_writing, length_keys_in, reading_owned, sizes_agree, read_older, read_newer}

pub writes_within_max : WritesWithinMax
writes_within_max ks v =
    omega (arith, length_writing 0x02 (held ks) v.sized, v.canonical.few, count_held ks v.canonical)

-- ---- read what was written

-- key i of the bytes of a list of keys
key_bytes_at : (l : List AccountKey) → All Sized l → (i : ℕ) → i < length l
    → part 16 (16 * i) (key_bytes l) ≡ (get_or l i absent_key).bytes
unfolding key_bytes
key_bytes_at [] p i h = absurd (not-suc-le-zero h)
key_bytes_at (k ∷ ks) p zero h = take_at k.bytes (key_bytes ks) 16 p.0
key_bytes_at (k ∷ ks) p (suc i) h =
    let at : 16 * suc i ≡ length k.bytes + 16 * i = omega (arith, p.0) in
    rw (at, drop-append-add k.bytes (key_bytes ks) (16 * i)) (key_bytes_at ks p.1 i (le_of_suc-le-suc h))

module _ (version : ℕ) (l : List AccountKey) (p : All Sized l) where
  keyAt-writing : (i : ℕ) → i < length l → key_at (writing_under version l) i ≡ get_or l i absent_key
  unfolding writing_under
  keyAt-writing i h =
      let e : part 16 (4 + 16 * i) (writing_under version l) ≡ (get_or l i absent_key).bytes =
      rw (← drop-drop (16 * i) 4 (writing_under version l)) (key_bytes_at l p i h)
      in
      λ j. record { bytes = e j }

  keysIn-writing : (n : ℕ) → n ≤ length l → keys_in (writing_under version l) n ≡ take n l
  unfolding keys_in
  keysIn-writing zero h = refl
  keysIn-writing (suc n) h = rw (keysIn-writing n (omega arith), keyAt-writing n h, take-suc l n absent_key h)

pub reads_back_under : ReadsBackUnder
unfolding writing_under
reads_back_under version most ks v h =
    let l : List AccountKey = held ks in
    let w : List ℕ = writing_under version l in
    let few : length l ≤ limit = omega (arith, v.canonical.few, count_held ks v.canonical) in
    let long : length w ≡ 4 + 16 * length l = length_writing version l v.sized ∙ regroup (length l) in
    let keys : keys_in w (length l) ≡ l = keysIn-writing version l v.sized (length l) (le_refl (length l))
    ∙ take-length l in
    sizes_agree version most w (omega (arith, long)) (omega (arith, long, few)) refl h long
    ∙ ap reading_of keys ∙ reading_owned l v.known ∙ ap (λ (x : AccountKeys). Some x) (sym v.canonical.whole)
  where
    regroup : (n : ℕ) → 2 + 16 * n + 2 ≡ 4 + 16 * n
    regroup n = omega arith

-- the version that is written is not the older one
newer : (l : List AccountKey) → get_or (writing l) 2 0 ≡ 0x01 → ⊥
unfolding writing_under
newer l e = omega arith

pub reads_back : ReadsBack
reads_back ks v =
    sym (read_newer (writing (held ks)) (newer (held ks)))
    ∙ reads_back_under 0x02 limit ks v (omega (arith, v.canonical.few, count_held ks v.canonical))

-- ---- write what was read

key_bytes_keys_in : (b : List ℕ) (n : ℕ) → key_bytes (keys_in b n) ≡ take (16 * n) (drop 4 b)
unfolding keys_in key_bytes
key_bytes_keys_in b zero = refl
key_bytes_keys_in b (suc n) =
    let more : 16 * suc n ≡ 16 * n + 16 = omega arith in
    key_bytes_snoc (keys_in b n) (key_at b n)
    ∙ rw (key_bytes_keys_in b n, more, take-add (16 * n) 16 (drop 4 b), drop-drop (16 * n) 4 b)

keys_in_sized : (b : List ℕ) (n : ℕ) → 4 + 16 * n ≤ length b → All Sized (keys_in b n)
unfolding keys_in
keys_in_sized b zero h = tt
keys_in_sized b (suc n) h =
    let inside : 16 ≤ length (drop (4 + 16 * n) b) = simp length-drop (omega arith) in
    let key : Sized (key_at b n) = length-take-le 16 (drop (4 + 16 * n) b) inside in
    all_append Sized (keys_in b n) (key_at b n ∷ []) (keys_in_sized b n (omega arith)) (key, tt)

-- the header says what it must
writing_keys_in : (version : ℕ) (b : List ℕ) → All (λ x. x < 256) b → 4 ≤ length b
    → number2 (get_or b 0 0) (get_or b 1 0) ≡ length b - 2
    → get_or b 2 0 ≡ version
    → length b ≡ 4 + 16 * get_or b 3 0 → writing_under version (keys_in b (get_or b 3 0)) ≡ b
unfolding writing_under
writing_keys_in version b p h e v s =
    let n : ℕ = get_or b 3 0 in
    let count : length (keys_in b n) ≡ n = length_keys_in b n in
    let b0 : get_or b 0 0 < 256 = all_get (λ x. x < 256) b p 0 0 (omega arith) in
    let b1 : get_or b 1 0 < 256 = all_get (λ x. x < 256) b p 1 0 (omega arith) in
    let high : (2 + 16 * n) / 256 % 256 ≡ get_or b 0 0 = omega arith in
    let low : (2 + 16 * n) / 1 % 256 ≡ get_or b 1 0 = omega arith in
    let rest : key_bytes (keys_in b n) ≡ drop 4 b =
    key_bytes_keys_in b n ∙ take_all (16 * n) (drop 4 b) (simp length-drop (omega arith))
    in
    rw (count, high, low, rest)
    (ap (λ (x : ℕ). get_or b 0 0 ∷ get_or b 1 0 ∷ x ∷ get_or b 3 0 ∷ drop 4 b) (sym v) ∙ sym (get_or4_front b 0 h))

-- which tests a list that reads has passed
record Passed (version most : ℕ) (b : List ℕ) : Type 0 where
  enough : 4 ≤ length b
  sizes : number2 (get_or b 0 0) (get_or b 1 0) ≡ length b - 2
  same_version : get_or b 2 0 ≡ version
  few : get_or b 3 0 ≤ most
  whole : length b ≡ 4 + 16 * get_or b 3 0

module _ (version most : ℕ) (b : List ℕ) where
  passed : well_sized version most b ≡ true → Passed version most b
  unfolding well_sized
  passed e =
      let t2 = and_right (leb 4 (length b)) _ e in
      let t3 = and_right (eqb (number2 (get_or b 0 0) (get_or b 1 0)) (length b - 2)) _ t2 in
      let t4 = and_right (eqb (get_or b 2 0) version) _ t3 in
      let t5 = and_right (leb (get_or b 3 0) most) _ t4 in
      record {
        enough = leb-true _ _ (and_left (leb 4 (length b)) _ e);
        sizes = eqb-true _ _ (and_left (eqb (number2 (get_or b 0 0) (get_or b 1 0)) (length b - 2)) _ t2);
        same_version = eqb-true _ _ (and_left (eqb (get_or b 2 0) version) _ t3);
        few = leb-true _ _ (and_left (leb (get_or b 3 0) most) _ t4);
        whole = eqb-true _ _ t5;
      }

  -- what a list that reads gives
  module _ {ks : AccountKeys} (f : reading_under version most b ≡ Some ks) where
    -- it has well-formed sizes and owned keys, and these are what it reads as
    tests : (well_sized version most b ≡ true) × (owned (keys_in b (get_or b 3 0)) ≡ true)
        × (ks ≡ kept (keys_in b (get_or b 3 0)))
    unfolding reading_under
    tests = go (well_sized version most b) (owned (keys_in b (get_or b 3 0))) refl refl f
      where
        go : (s o : Bool) → well_sized version most b ≡ s → owned (keys_in b (get_or b 3 0)) ≡ o
            → (if s then (if o then Some (kept (keys_in b (get_or b 3 0))) else None) else None) ≡ Some ks
            → (well_sized version most b ≡ true) × (owned (keys_in b (get_or b 3 0)) ≡ true)
            × (ks ≡ kept (keys_in b (get_or b 3 0)))
        go true true p q r = (p, q, cc)
        go true false p q r = cc
        go false o p q r = cc

    sizes : Passed version most b
    sizes = passed tests.0

    reads-valid-under : most ≤ limit → Valid ks
    reads-valid-under h =
        let few : length (keys_in b (get_or b 3 0)) ≤ limit = omega (arith, length_keys_in b (get_or b 3 0), sizes.few) in
        rw tests.2
        (kept_valid (keys_in b (get_or b 3 0)) few (keys_in_sized b (get_or b 3 0) (omega (arith, sizes.whole))) tests.1)

    reads_whole : All (λ x. x < 256) b → writing_under version (held ks) ≡ b
    reads_whole p =
        rw (tests.2, held_kept (keys_in b (get_or b 3 0)))
        (writing_keys_in version b p sizes.enough sizes.sizes sizes.same_version sizes.whole)

pub only_writings : OnlyWritings
only_writings version most b ks p f = reads_whole version most b f p

-- ---- the two versions

pub older_still_read : OlderStillRead
older_still_read b v = sym (read_older b v)

pub older_refuses : OlderRefuses
unfolding reading_under
older_refuses b v = go (well_sized 0x01 5 b) refl
  where
    go : (x : Bool) → well_sized 0x01 5 b ≡ x → older_reading b ≡ None
    go true e = absurd (omega (arith, v, (passed 0x01 5 b e).same_version))
    go false e = rw e

pub reads_valid : ReadsValid
reads_valid b ks = go (eqb (get_or b 2 0) 0x01) refl
  where
    go : (x : Bool) → eqb (get_or b 2 0) 0x01 ≡ x → reading b ≡ Some ks → Valid ks
    go true e f = reads-valid-under 0x01 5 b (read_older b (eqb-true (get_or b 2 0) 0x01 e) ∙ f) (omega arith)
    go false e f = reads-valid-under 0x02 limit b (read_newer b (eqb-false (get_or b 2 0) 0x01 e) ∙ f) (le_refl limit)
