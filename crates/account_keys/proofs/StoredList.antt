-- Laws of the stored list, as the loops that read and write it use them.
-- Assumes nothing.
use mathlib.Core.Bool.{Bool, true, false, not}
use mathlib.Core.List.{List, [], ◌∷◌, ◌++◌, append_assoc, append-nil}
use mathlib.Core.Path.{◌≡◌, refl, sym, ap, ap₂, ◌∙◌}
use Prim.Native.Nat.{ℕ, zero, suc, ◌+◌, ◌-◌, ◌*◌, ◌/◌, ◌%◌, ◌≤◌, ◌<◌}
use native.Mathlib.Nat.{add-zero, add-suc}
use native.Mathlib.Numerals.{add-one}
use native.Mathlib.Omega.{arith}
use lib.Dec.{eqb}
use lib.ListN.{length, take, drop, set, get_or, length-append}
use lib.Seq.{take-length, drop-length, paste, take-suc, drop-drop, length-take-le}
use borrow.Author.Tests.{le-leb, eq-eqb, ne_eqb}
use borrow.Rule.Slice.PartMut.{put_mid}
use Rattle.laws.proofs.All.{all_get, all_take}
use Rattle.laws.proofs.Choice.{and_false, or_false, or_right}
use Rattle.laws.proofs.Lists.{paste_at}
use Rattle.std.specs.Int.{w16, to_be_bytes}
use Rattle.laws.proofs.BigEndian.{be_bytes}
use Rattle.laws.specs.BigEndian.{number2}
use Rattle.laws.specs.Choice.{◌and◌, ◌or◌}
use Rattle.std.specs.Prelude.{None, Some, Ok, Err}
use Rattle.laws.specs.Lists.{All}
use Rattle.account_keys.specs.Keys.{limit, Sized, member, owned, kept}
use Rattle.account_keys.specs.StoredList.{key_at, keys_in, key_bytes, well_sized, reading_of, reading_under, older_reading, reading, writing_under, writing}
use Rattle.account_keys.specs.declared.AccountKey.{AccountKey}
use Rattle.account_keys.specs.declared.AccountKeys.{AccountKeys}
use Rattle.basics.specs.Bytes.{same, part}
use Rattle.basics.specs.Output.{report_of, placed}
use Rattle.basics.specs.declared.Answer.TheVariants.{OutputTooShort}
use Rattle.account_keys.proofs.Laws.{absent_key, held_kept, Kept-kept, kept_push}
use Rattle.basics.proofs.Laws.{same_comm, same_refl}
use Rattle.basics.proofs.Lent.{left_alone, all_written}

-- ---- writing

pub key_bytes_snoc : (l : List AccountKey) (k : AccountKey) → key_bytes (l ++ (k ∷ [])) ≡ key_bytes l ++ k.bytes
unfolding key_bytes
key_bytes_snoc [] k = append-nil k.bytes
key_bytes_snoc (x ∷ xs) k = rw (key_bytes_snoc xs k) (sym (append_assoc x.bytes (key_bytes xs) k.bytes))

pub length_key_bytes : (l : List AccountKey) → All Sized l → length (key_bytes l) ≡ 16 * length l
unfolding key_bytes
length_key_bytes [] p = refl
length_key_bytes (x ∷ xs) p = rw (length-append x.bytes (key_bytes xs), p.0, length_key_bytes xs p.1) (omega arith)

-- a turn of the loop that writes
pub key_bytes_more : (l o : List ℕ) (m : List AccountKey) (i : ℕ) → All Sized m → i < length m
    → l ≡ key_bytes (take i m) ++ drop (16 * i) o
    → paste l (16 * i) (get_or m i absent_key).bytes (length (get_or m i absent_key).bytes)
    ≡ key_bytes (take (i + 1) m) ++ drop (16 * (i + 1)) o
key_bytes_more l o m i p h e =
    let size : length (take i m) ≡ i = length-take-le i m (omega arith) in
    let front : length (key_bytes (take i m)) ≡ 16 * i =
    length_key_bytes (take i m) (all_take Sized i m p) ∙ rw size
    in
    let sized : Sized (get_or m i absent_key) = all_get Sized m p i absent_key h in
    let next : take (i + 1) m ≡ take i m ++ (get_or m i absent_key ∷ []) = rw (add-one, take-suc m i absent_key h) in
    let at : 16 * (i + 1) ≡ 16 * i + 16 = omega arith in
    rw (e, sized, next, key_bytes_snoc (take i m) (get_or m i absent_key), at, ← drop-drop 16 (16 * i) o)
    (paste_at (key_bytes (take i m)) (drop (16 * i) o) (get_or m i absent_key).bytes (16 * i) 16 front sized)

-- ---- reading

pub length_keys_in : (b : List ℕ) (n : ℕ) → length (keys_in b n) ≡ n
unfolding keys_in
length_keys_in b zero = refl
length_keys_in b (suc n) = rw (length-append (keys_in b n) (key_at b n ∷ []), length_keys_in b n) (add-one n)

pub member_snoc : (l : List AccountKey) (k x : AccountKey) → member (l ++ (k ∷ [])) x ≡
    (member l x or same k.bytes x.bytes)
member_snoc [] k x = or_false (same k.bytes x.bytes)
member_snoc (y ∷ ys) k x =
    rw (member_snoc ys k x) (or_assoc (same y.bytes x.bytes) (member ys x) (same k.bytes x.bytes))
  where
    or_assoc : (a b c : Bool) → (a or (b or c)) ≡ ((a or b) or c)
    or_assoc true b c = refl
    or_assoc false b c = refl

-- the last key is held
pub member_last : (l : List AccountKey) (k : AccountKey) → member (l ++ (k ∷ [])) k ≡ true
member_last l k = member_snoc l k k ∙ or_right (member l k) (same k.bytes k.bytes) (same_refl k.bytes)

owned_regroup : (a m s o b n : Bool)
    → (a and (not (m or s) and (o and (b and not n)))) ≡ ((a and (not m and o)) and (b and not (s or n)))
owned_regroup false m s o b n = refl
owned_regroup true true s o b n = refl
owned_regroup true false true true true n = refl
owned_regroup true false true true false n = refl
owned_regroup true false true false b n = refl
owned_regroup true false false o b n = refl

-- the last key is checked against those before it
pub owned_snoc : (l : List AccountKey) (k : AccountKey)
    → owned (l ++ (k ∷ [])) ≡ (owned l and (eqb (get_or k.bytes 0 0) 0x04 and not (member l k)))
unfolding owned
owned_snoc [] k = refl
owned_snoc (x ∷ xs) k =
    rw (member_snoc xs k x, owned_snoc xs k, same_comm x.bytes k.bytes)
    (owned_regroup (eqb (get_or x.bytes 0 0) 4) (member xs x) (same k.bytes x.bytes) (owned xs)
    (eqb (get_or k.bytes 0 0) 4) (member xs k))

-- a turn of the loop that reads, by what it finds of the next key
module _ (b : List ℕ) (i : ℕ) where
  pub keys_in_more : keys_in b (i + 1) ≡ keys_in b i ++ (key_at b i ∷ [])
  unfolding keys_in
  keys_in_more = rw add-one

  owned-more : owned (keys_in b (i + 1)) ≡ (owned (keys_in b i) and
      (eqb (get_or (key_at b i).bytes 0 0) 0x04 and not (member (keys_in b i) (key_at b i))))
  owned-more = ap owned keys_in_more ∙ owned_snoc (keys_in b i) (key_at b i)

  pub owned_next : owned (keys_in b i) ≡ true → get_or (key_at b i).bytes 0 0 ≡ 0x04 → member (keys_in b i) (key_at b i)
      ≡ false
      → owned (keys_in b (i + 1)) ≡ true
  owned_next o e m = owned-more ∙ rw (o, eq-eqb (get_or (key_at b i).bytes 0 0) 0x04 e, m)

  pub owned_wrong_first : (get_or (key_at b i).bytes 0 0 ≡ 0x04 → ⊥) → owned (keys_in b (i + 1)) ≡ false
  owned_wrong_first e = owned-more ∙ rw (ne_eqb (get_or (key_at b i).bytes 0 0) 0x04 e) (and_false (owned (keys_in b i)))

  pub owned_twice : member (keys_in b i) (key_at b i) ≡ true → owned (keys_in b (i + 1)) ≡ false
  owned_twice m =
      owned-more ∙ rw (m, and_false (eqb (get_or (key_at b i).bytes 0 0) 0x04)) (and_false (owned (keys_in b i)))

-- a key that is refused spoils every longer list
owned_longer : (b : List ℕ) (i d : ℕ) → owned (keys_in b i) ≡ false → owned (keys_in b (i + d)) ≡ false
unfolding keys_in
owned_longer b i zero e = rw add-zero e
owned_longer b i (suc d) e = rw (add-suc i d, owned_snoc (keys_in b (i + d)) (key_at b (i + d)), owned_longer b i d e)

pub reading_refused : (b : List ℕ) (i n : ℕ) → i ≤ n → owned (keys_in b i) ≡ false → reading_of (keys_in b n) ≡ None
reading_refused b i n h e =
    let m : n ≡ i + (n - i) = omega arith in
    rw (m, owned_longer b i (n - i) e)

pub reading_owned : (l : List AccountKey) → owned l ≡ true → reading_of l ≡ Some (kept l)
reading_owned l e = rw e

-- a list whose header passes every test
pub sizes_agree : (version most : ℕ) (b : List ℕ) → 4 ≤ length b
    → number2 (get_or b 0 0) (get_or b 1 0) ≡ length b - 2 → get_or b 2 0 ≡ version → get_or b 3 0 ≤ most
    → length b ≡ 4 + 16 * get_or b 3 0 → reading_under version most b ≡ reading_of (keys_in b (get_or b 3 0))
unfolding reading_under well_sized
sizes_agree version most b h e v n s =
    rw (
      le-leb 4 (length b) h,
      eq-eqb (number2 (get_or b 0 0) (get_or b 1 0)) (length b - 2) e,
      eq-eqb (get_or b 2 0) version v,
      le-leb (get_or b 3 0) most n,
      eq-eqb (length b) (4 + 16 * get_or b 3 0) s,
    )

-- ---- the version decides under which a list is read
module _ (b : List ℕ) where
  pub read_older : get_or b 2 0 ≡ 0x01 → older_reading b ≡ reading b
  unfolding reading
  read_older v = rw (eq-eqb (get_or b 2 0) 0x01 v)

  pub read_newer : (get_or b 2 0 ≡ 0x01 → ⊥) → reading_under 0x02 limit b ≡ reading b
  unfolding reading
  read_newer v = rw (ne_eqb (get_or b 2 0) 0x01 v)

-- what the loop that reads asks and builds, said of the keys passed
module _ (b : List ℕ) (i : ℕ) {ks : AccountKeys} {block : List ℕ} (e : ks ≡ kept (keys_in b i))
    (f : block ≡ part 16 (4 + 16 * i) b) where
  pub among_keys_in : {r : Bool} → r ≡ member (take i ks.keys) (record { bytes = block }) → r ≡ member (keys_in b i) (key_at b i)
  among_keys_in g =
      let l : List AccountKey = keys_in b i in
      let front : take i (kept l).keys ≡ l =
      ap (λ (n : ℕ). take n (kept l).keys) (sym (length_keys_in b i)) ∙ held_kept l
      in
      g ∙ (λ j. member (take i (e j).keys) (record { bytes = f j })) ∙ ap (λ (m : List AccountKey). member m (key_at b i)) front

  -- the next key stored in its place
  pub kept_keys_in : i < limit
      → ◌≡◌ {A = AccountKeys} (record { keys = set ks.keys i (record { bytes = block }); count = i + 1 })
      (kept (keys_in b (i + 1)))
  kept_keys_in h =
      let l : List AccountKey = keys_in b i in
      let n : length l ≡ i = length_keys_in b i in
      (λ j. record { keys = set (e j).keys i (record { bytes = f j }); count = i + 1 })
      ∙ ap (λ (m : ℕ). record { keys = set (kept l).keys m (key_at b i); count = m + 1 }) (sym n)
      ∙ kept_push (kept l) (key_at b i) (Kept-kept l (omega arith)) (omega arith)
      ∙ ap (λ (x : List AccountKey). kept (x ++ (key_at b i ∷ []))) (held_kept l)
      ∙ ap kept (sym (keys_in_more b i))

-- ---- the whole of what is written

pub length_writing : (version : ℕ) (l : List AccountKey) → All Sized l
    → length (writing_under version l) ≡ 2 + 16 * length l + 2
unfolding writing_under
length_writing version l p = rw (length_key_bytes l p) (omega arith)

-- four bytes stored, and the part after them lent and filled with k
lent_after_four : (o x p k : List ℕ) (a b c d m : ℕ) → x ≡ a ∷ b ∷ c ∷ d ∷ drop 4 o → length k ≡ m
    → p ≡ k ++ drop m (take (length x - 4) (drop 4 x))
    → put_mid 4 (length x - 4) x p ≡ (a ∷ b ∷ c ∷ d ∷ k) ++ drop (4 + m) o
lent_after_four o x p k a b c d m e f g =
    let n : length x - 4 ≡ length (drop 4 o) = ap (λ (l : List ℕ). length l - 4) e ∙ count
    (length (drop 4 o)) in
    let mid : take (length x - 4) (drop 4 x) ≡ drop 4 o =
    rw n (ap (λ (l : List ℕ). take (length (drop 4 o)) (drop 4 l)) e ∙ take-length (drop 4 o))
    in
    let post : drop (length x - 4) (drop 4 x) ≡ [] =
    rw n (ap (λ (l : List ℕ). drop (length (drop 4 o)) (drop 4 l)) e ∙ drop-length (drop 4 o))
    in
    rw (post, g, mid, append-nil (k ++ drop m (drop 4 o)), drop-drop m 4 o)
    (ap (λ (l : List ℕ). take 4 l ++ (k ++ drop (4 + m) o)) e)
  where
    count : (n : ℕ) → suc (suc (suc (suc n))) - 4 ≡ n
    count n = omega arith

-- a list of n keys and an output
module _ (l : List AccountKey) (p : All Sized l) (n : ℕ) (e : n ≡ length l) (o : List ℕ) where
  length-writing-of : length (writing l) ≡ 2 + 16 * n + 2
  length-writing-of = length_writing 0x02 l p ∙ ap (λ (m : ℕ). 2 + 16 * m + 2) (sym e)

  -- the output is too short for the list
  pub writing_no_room : length o < 2 + 16 * n + 2 → (Err OutputTooShort ≡ report_of (writing l) o) × (o ≡ placed (writing l) o)
  writing_no_room h = left_alone (writing l) o (omega (arith, length-writing-of)) refl

  writing-is : (2 + 16 * n) / 256 % 256 ∷ (2 + 16 * n) / 1 % 256 ∷ 2 ∷ n ∷ key_bytes l ≡ writing l
  unfolding writing_under
  writing-is = rw e

  -- the header stored and the keys written after it
  pub writing_stored : 2 + 16 * n + 2 ≤ length o → {t header q : List ℕ} → t ≡ to_be_bytes w16 (2 + 16 * n)
      → header ≡ get_or t 0 0 ∷ get_or t 1 0 ∷ 2 ∷ n ∷ []
      → q ≡ key_bytes l ++ drop (16 * n) (take (length (header ++ drop 4 o) - 4) (drop 4 (header ++ drop 4 o)))
      → (Ok (2 + 16 * n + 2) ≡ report_of (writing l) o)
      × (put_mid 4 (length (header ++ drop 4 o) - 4) (header ++ drop 4 o) q ≡ placed (writing l) o)
  writing_stored h {t} {header} {q} two f g =
      let size : length (key_bytes l) ≡ 16 * n = length_key_bytes l p ∙ ap (λ (m : ℕ). 16 * m) (sym e) in
      let bytes-are : t ≡ (2 + 16 * n) / 256 % 256 ∷ (2 + 16 * n) / 1 % 256 ∷ [] = two ∙ be_bytes w16 (2 + 16 * n) in
      let front : header ++ drop 4 o ≡ (2 + 16 * n) / 256 % 256 ∷ (2 + 16 * n) / 1 % 256 ∷ 2 ∷ n ∷ drop 4 o =
      rw (f, bytes-are)
      in
      let end : 4 + 16 * n ≡ length (writing l) = omega (arith, length-writing-of) in
      all_written (writing l) o (omega (arith, length-writing-of)) refl (sym length-writing-of)
      (lent_after_four o (header ++ drop 4 o) q (key_bytes l) ((2 + 16 * n) / 256 % 256) ((2 + 16 * n) / 1 % 256) 2 n
      (16 * n) front size g
      ∙ ap₂ (λ (w : List ℕ) (m : ℕ). w ++ drop m o) writing-is end)
