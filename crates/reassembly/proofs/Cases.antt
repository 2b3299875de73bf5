-- A part read on, by what is held: the cases that the code goes by.
-- Assumes nothing.
use mathlib.Core.Bool.{Bool, true, false}
use mathlib.Core.List.{List, ◌∷◌, ◌++◌, append-nil, append_assoc}
use mathlib.Core.Path.{◌≡◌, refl, sym, ap, subst, ◌∙◌}
use Prim.Native.Nat.{ℕ, ◌+◌, ◌-◌, ◌<◌, ◌≤◌}
use native.Mathlib.Omega.{arith}
use lib.Dec.{ltb}
use lib.ListN.{length, take, drop, get_or, length-append, length-drop, take-append-drop, drop_of_length-le, get_or-append}
use lib.Seq.{length-take-le, get_or-append-add, get_or-drop, get_or-take, take-append-add, drop-drop}
use borrow.Author.Tests.{ltb-true, ltb-false, le-ltb, lt-ltb, le-leb}
use Rattle.laws.proofs.Lists.{take_drop_rest}
use Rattle.laws.proofs.Padded.{take_padded}
use Rattle.laws.specs.BigEndian.{number2}
use Rattle.std.specs.Prelude.{if◌then◌else◌}
use Rattle.laws.specs.Lists.{padded}
use Rattle.recording.specs.Reading.{size_in, zeros}
use Rattle.reassembly.proofs.Held.{held_again_lem, longer_is, open_cut, size_front, unfinished_long, unfinished_short, waiting_held, waiting_holding, waiting_skipped}
use Rattle.reassembly.proofs.Ahead.{behind_part_lem, taken_ended, taken_moved, taken_open}
use Rattle.reassembly.specs.Parts.{holding, skipping, none, unfinished, waiting, Holds, Open, ahead, one_ends, taken, skipped, longer, Filling, Unended}
use Rattle.reassembly.specs.declared.Found.TheVariants.{Nothing, Held, TooLong}
use Rattle.reassembly.specs.declared.Unfinished.{Unfinished}

-- the rest of a part, as a slice
pub rest_long : (bs : List ℕ) (at : ℕ) → length (take (length bs - at) (drop at bs)) ≡ length bs - at
rest_long bs at = ap (λ (l : List ℕ). length l) (take_drop_rest at bs) ∙ length-drop at bs

-- ---- a record that is too long

-- a part of it from a place on, where n bytes of it are still to come
module _ (u : Unfinished) (bs : List ℕ) (at from n : ℕ) {l : List ℕ} (e : ahead u bs at ≡ l) (h : at ≤ length bs) (some : 2 ≤ length l)
    (long : 1024 < size_in l) (come : 2 + size_in l + (length bs - from) ≡ length l + n) (place : at + (2 + size_in l - length (waiting u)) ≡ from + n) where
  pub skip_taken : skipped n bs from ≡ taken u bs at
  skip_taken = by-test (ltb (length bs - from) n) refl
    where
      by-test : (t : Bool) → ltb (length bs - from) n ≡ t
          → (if t then record { next = skipping (n - (length bs - from)); at = length bs; found = Nothing }
          else record { next = none; at = from + n; found = TooLong })
          ≡ taken u bs at
      by-test true t =
          let less = ltb-true (length bs - from) n t in
          let left : n - (length bs - from) ≡ 2 + size_in l - length l = omega (arith, come, less) in
          sym (taken_open u bs at e (omega (arith, come, less))
          ∙ (λ i. record { next = unfinished_long l some long i; at = behind_part_lem bs at h i; found = Nothing })
          ∙ (λ i. record { next = skipping (sym left i); at = length bs; found = Nothing }))
      by-test false t =
          sym (taken_ended u bs at e (omega (arith, come, ltb-false (length bs - from) n t))
          ∙ ap (λ (b : Bool). if b then record { next = none; at = at + (2 + size_in l - length (waiting u)); found = TooLong } else
          record { next = holding (take (2 + size_in l) l); at = at + (2 + size_in l - length (waiting u)); found = Held (2 + size_in l) })
          (lt-ltb 1024 (size_in l) long)
          ∙ (λ i. record { next = none; at = place i; found = TooLong }))

-- of one that began in an earlier part, all but the count of what is to be skipped is forgotten
pub skips_on : (u : Unfinished) (bs : List ℕ) (at : ℕ) → 0 < u.skip → at ≤ length bs → skipped u.skip bs at ≡ taken u bs at
skips_on u bs at some h =
    let waits = waiting_skipped u some in
    let front : List ℕ = 0 ∷ (1024 + u.skip) ∷ zeros 1024 in
    let behind : length (drop at bs) ≡ length bs - at = length-drop at bs in
    let all : length (front ++ drop at bs) ≡ 1026 + length (drop at bs) = length-append front (drop at bs) in
    let held : length (waiting u) ≡ 1026 = ap (λ (m : List ℕ). length m) waits in
    skip_taken u bs at at u.skip {l = front ++ drop at bs} (ap (λ (m : List ℕ). m ++ drop at bs) waits) h (omega (arith, all))
    (omega (arith, some)) (omega (arith, all, behind)) (omega (arith, held))

-- ---- a record whose length field has come

module _ (u : Unfinished) (n : ℕ) (bs : List ℕ) (at : ℕ) (f : Filling u n) (h : at ≤ length bs) where
  abbrev w : List ℕ
  w = take u.count u.bytes

  count-is : u.count ≡ length w
  count-is = ap (λ (v : Unfinished). v.count) f.whole

  ahead-is : ahead u bs at ≡ w ++ drop at bs
  ahead-is = ap (λ (m : List ℕ). m ++ drop at bs) (waiting_held u f.unskipped)

  all-long : length (w ++ drop at bs) ≡ u.count + (length bs - at)
  all-long = length-append w (drop at bs) ∙ (λ i. sym count-is i + length-drop at bs i)

  size_is : size_in (w ++ drop at bs) ≡ n
  size_is =
      size_front w (drop at bs) (omega (arith, count-is, f.field))
      ∙ (λ i. number2 (get_or-take u.count u.bytes 0 0 (omega (arith, f.field)) i) (get_or-take u.count u.bytes 1 0 (omega (arith, f.field)) i))
      ∙ sym f.size

  -- the part ends before it
  pub fill_open : length bs - at < 2 + n - u.count
      → record { next = longer u (drop at bs); at = length bs; found = Nothing } ≡ taken u bs at
  fill_open less =
      sym (taken_open u bs at ahead-is (omega (arith, all-long, size_is, less))
      ∙ (λ i. record {
        next = unfinished_short (w ++ drop at bs) (λ k. omega (arith, size_is, f.short)) i;
        at = behind_part_lem bs at h i;
        found = Nothing;
      })
      ∙ (λ i. record { next = sym (longer_is u (drop at bs) f.whole) i; at = length bs; found = Nothing }))

  -- it ends in the part
  pub fill_ended : 2 + n - u.count ≤ length bs - at
      → record { next = longer u (take (2 + n - u.count) (drop at bs)); at = at + (2 + n - u.count); found = Held (2 + n) } ≡ taken u bs at
  fill_ended more =
      let l = w ++ drop at bs in
      let wanted = 2 + n - u.count in
      let sum : 2 + n ≡ length w + wanted = omega (arith, count-is, f.within) in
      let front : take (2 + n) l ≡ w ++ take wanted (drop at bs) =
      ap (λ k. take k l) sum ∙ take-append-add w (drop at bs) wanted
      in
      let held : 2 + n - length (waiting u) ≡ wanted = omega (arith, ap (λ (m : List ℕ). length m) (waiting_held u f.unskipped), count-is) in
      sym (taken_ended u bs at ahead-is (omega (arith, all-long, size_is, more, f.within))
      ∙ ap (one_ends l (length (waiting u)) at) size_is
      ∙ ap (λ (b : Bool). if b then record { next = none; at = at + (2 + n - length (waiting u)); found = TooLong } else
      record { next = holding (take (2 + n) l); at = at + (2 + n - length (waiting u)); found = Held (2 + n) })
      (le-ltb 1024 n f.short)
      ∙ (λ i. record { next = holding (front i); at = at + held i; found = Held (2 + n) })
      ∙ (λ i. record { next = sym (longer_is u (take wanted (drop at bs)) f.whole) i; at = at + wanted; found = Held (2 + n) }))

-- ---- a record of which one byte is held

module _ (u : Unfinished) (bs : List ℕ) (at : ℕ) (o : Holds u) (one : u.count ≡ 1) (h : at < length bs) {high low n : ℕ}
    (p : high ≡ get_or u.bytes 0 0) (q : low ≡ get_or bs at 0) (r : n ≡ number2 high low) where
  abbrev l : List ℕ
  l = take u.count u.bytes ++ drop at bs

  is : ahead u bs at ≡ l
  is = ap (λ (m : List ℕ). m ++ drop at bs) (waiting_held u o.unskipped)

  count-one : length (take u.count u.bytes) ≡ 1
  count-one = omega (arith, ap (λ (v : Unfinished). v.count) o.whole, one)

  two-ahead : length l ≡ 1 + (length bs - at)
  two-ahead = length-append (take u.count u.bytes) (drop at bs) ∙ (λ i. count-one i + length-drop at bs i)

  first-is : get_or l 0 0 ≡ high
  first-is =
      get_or-append (take u.count u.bytes) (drop at bs) 0 0 (omega (arith, count-one))
      ∙ get_or-take u.count u.bytes 0 0 (omega (arith, one))
      ∙ sym p

  second_is : get_or l 1 0 ≡ low
  second_is =
      let w = take u.count u.bytes in
      let place : 1 ≡ length w + 0 = omega (arith, count-one) in
      let same : at + 0 ≡ at = omega arith in
      ap (λ k. get_or l k 0) place ∙ get_or-append-add w (drop at bs) 0 0 ∙ get_or-drop at bs 0 0 ∙ ap (λ k. get_or bs k 0) same ∙ sym q

  size_of : size_in l ≡ n
  size_of = (λ i. number2 (first-is i) (second_is i)) ∙ sym r

  -- its length field says that it is too long
  pub one_skips : 1024 < n → skipped n bs (at + 1) ≡ taken u bs at
  one_skips k =
      let held = ap (λ (m : List ℕ). length m) (waiting_held u o.unskipped) in
      skip_taken u bs at (at + 1) n is (omega (arith, h)) (omega (arith, two-ahead, h)) (omega (arith, size_of, k))
      (omega (arith, two-ahead, size_of, h)) (omega (arith, held, count-one, size_of))

  abbrev more : List ℕ
  more = take 1 (drop at bs)

  one-long : length more ≡ 1
  one-long = length-take-le 1 (drop at bs) (rw (length-drop at bs) (omega (arith, h)))

  ahead_more : (take u.count u.bytes ++ more) ++ drop (at + 1) bs ≡ l
  ahead_more =
      append_assoc (take u.count u.bytes) more (drop (at + 1) bs)
      ∙ ap (λ (m : List ℕ). take u.count u.bytes ++ (more ++ m)) (sym (drop-drop 1 at bs))
      ∙ ap (λ (m : List ℕ). take u.count u.bytes ++ m) (take-append-drop 1 (drop at bs))

  longer-here : longer u more ≡ holding (take u.count u.bytes ++ more)
  longer-here = longer_is u more o.whole

  -- it is read on with its length field
  pub one_more : taken (longer u more) bs (at + 1) ≡ taken u bs at
  one_more =
      let x = take u.count u.bytes ++ more in
      let long : length x ≡ 2 = rw (length-append (take u.count u.bytes) more) (omega (arith, count-one, one-long)) in
      let held = ap (λ (m : List ℕ). length m) (waiting_held u o.unskipped) in
      ap (λ (v : Unfinished). taken v bs (at + 1)) longer-here
      ∙ taken_moved (holding x) u bs (at + 1) at {l = l} (ap (λ (m : List ℕ). m ++ drop (at + 1) bs) (waiting_holding x) ∙ ahead_more) is
      (omega (arith, h)) (omega (arith, h))
      (λ m. omega (arith, ap (λ (y : List ℕ). length y) (waiting_holding x), long, held, count-one))

  pub one_filling : n ≤ 1024 → Filling (longer u more) n
  one_filling k =
      let x = take u.count u.bytes ++ more in
      let long : length x ≡ 2 = rw (length-append (take u.count u.bytes) more) (omega (arith, count-one, one-long)) in
      let size : n ≡ size_in (padded 1026 0 x) =
      sym size_of
      ∙ ap size_in (sym ahead_more)
      ∙ size_front x (drop (at + 1) bs) (omega (arith, long))
      ∙ sym (size_front x (zeros (1026 - length x)) (omega (arith, long)))
      in
      subst (λ (v : Unfinished). Filling v n) (sym longer-here)
      (record {
        unskipped = refl;
        whole = ap holding (sym (take_padded 1026 0 x));
        size = size;
        field = omega (arith, long);
        within = omega (arith, long);
        short = k;
      })

-- ---- a part begins a record

-- what is left of a part, where no record is whole
module _ (bs : List ℕ) (at : ℕ) (h : at ≤ length bs) where
  abbrev field : ℕ
  field = number2 (get_or bs at 0) (get_or bs (at + 1) 0)

  field_is : size_in (drop at bs) ≡ field
  field_is =
      let same : at + 0 ≡ at = omega arith in
      λ i. number2 ((get_or-drop at bs 0 0 ∙ ap (λ j. get_or bs j 0) same) i) (get_or-drop at bs 1 0 i)

  -- the length field is there: less is left than it says
  pub begin_within : {n : ℕ} → Unended (drop at bs) → n ≡ field → length bs - at < 2 + n
  begin_within o r = omega (arith, o.cut, length-drop at bs, field_is, r)

  pub begin_long : {n : ℕ} → Unended (drop at bs) → n ≡ field → 2 ≤ length bs - at → 1024 < n
      → skipping (n - (length bs - at - 2)) ≡ unfinished (drop at bs)
  begin_long {n} o r k long =
      let left : n - (length bs - at - 2) ≡ 2 + size_in (drop at bs) - length (drop at bs) =
      omega (arith, field_is, r, length-drop at bs, k, begin_within o r)
      in
      ap skipping left
      ∙ sym (unfinished_long (drop at bs) (omega (arith, length-drop at bs, k)) (omega (arith, field_is, r, long)))

  pub field_short : {n : ℕ} → n ≡ field → n ≤ 1024 → 2 ≤ length (drop at bs) → size_in (drop at bs) ≤ 1024
  field_short r h k = omega (arith, field_is, r, h)

  pub begin_short : {v : Unfinished} → (2 ≤ length (drop at bs) → size_in (drop at bs) ≤ 1024) → v ≡ longer none (drop at bs) → v ≡ unfinished (drop at bs)
  begin_short s e = e ∙ longer_is none (drop at bs) refl ∙ sym (unfinished_short (drop at bs) s)

-- nothing of the part is left to be read
pub nothing_read : (u : Unfinished) (bs : List ℕ) (at : ℕ) → Open u → length bs ≤ at
    → record { next = u; at = at; found = Nothing } ≡ taken u bs at
nothing_read u bs at o h =
    let none_left : ahead u bs at ≡ waiting u = ap (λ (l : List ℕ). waiting u ++ l) (drop_of_length-le bs {i = at} h) ∙ append-nil (waiting u) in
    sym (taken_open u bs at none_left (open_cut u o)
    ∙ ap (λ (b : Bool). record { next = unfinished (waiting u); at = if b then at else length bs; found = Nothing }) (le-leb (length bs) at h)
    ∙ (λ i. record { next = sym (held_again_lem u o) i; at = at; found = Nothing }))
