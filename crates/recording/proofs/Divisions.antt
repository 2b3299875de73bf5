-- A recording divided into records: to its last byte, record by record, and what the writer took comes back.
-- Assumes nothing.
use mathlib.Core.Bool.{Bool, true, false}
use mathlib.Core.List.{List, [], ◌∷◌, ◌++◌, append_assoc, append-nil, map, map-append}
use mathlib.Core.Path.{◌≡◌, refl, sym, ap, subst, ◌∙◌}
use Prim.Native.Nat.{ℕ, zero, suc, ◌+◌, ◌/◌, ◌%◌, ◌<◌, ◌≤◌, ◌^◌}
use native.Mathlib.Nat.{not-suc-le-zero}
use native.Mathlib.Omega.{arith}
use lib.Dec.{ltb}
use lib.ListN.{length, take, drop, length-append, length-drop, take-append-drop}
use lib.Seq.{take-append-le, drop-append-le, drop-drop, length-take-le, take_at, drop_at}
use borrow.Author.Tests.{ltb-true, ltb-false, le-ltb, lt-ltb}
use Rattle.laws.specs.BigEndian.{bytes, number2}
use Rattle.std.specs.Prelude.{if◌then◌else◌}
use Rattle.laws.specs.Lists.{All}
use Rattle.laws.proofs.All.{all_drop}
use Rattle.provider.specs.Rules.Event.{Event}
use Rattle.recording.proofs.OneRecord.{record_reads}
use Rattle.recording.specs.Layout.{body, framed}
use Rattle.recording.specs.Promises.{IsByte, Recorded, kept, joined, records_of, ReadToEnd, RestShort, ReadOn, RecordsRead}
use Rattle.recording.specs.Reading.{Division, no_record, after, divide_within, divide, event_in, events_of, cut_events, part, size_in}

-- fuel of the recording's length and more is enough
enough : (f g : ℕ) (bs : List ℕ) → length bs ≤ f → length bs ≤ g → divide_within f bs ≡ divide_within g bs
unfolding divide_within
enough zero zero bs h k = refl
enough zero (suc g) [] h k = refl
enough zero (suc g) (a ∷ bs) h k = absurd (not-suc-le-zero h)
enough (suc f) zero [] h k = refl
enough (suc f) zero (a ∷ bs) h k = absurd (not-suc-le-zero k)
enough (suc f) (suc g) [] h k = refl
enough (suc f) (suc g) (a ∷ []) h k = refl
enough (suc f) (suc g) (a ∷ b ∷ bs) h k =
    let shorter : length (drop (number2 a b) bs) ≤ length bs = rw (length-drop (number2 a b) bs) (omega arith) in
    ap (λ d. if ltb (length bs) (number2 a b) then no_record (a ∷ b ∷ bs) else after (take (number2 a b) bs) d)
    (enough f g (drop (number2 a b) bs) (omega (arith, h, shorter)) (omega (arith, k, shorter)))

pub divide_step : (a b : ℕ) (bs : List ℕ)
    → divide (a ∷ b ∷ bs)
    ≡ (if ltb (length bs) (number2 a b) then no_record (a ∷ b ∷ bs) else after (take (number2 a b) bs) (divide (drop (number2 a b) bs)))
unfolding divide_within
divide_step a b bs =
    let shorter : length (drop (number2 a b) bs) ≤ length bs = rw (length-drop (number2 a b) bs) (omega arith) in
    ap (λ d. if ltb (length bs) (number2 a b) then no_record (a ∷ b ∷ bs) else after (take (number2 a b) bs) d)
    (enough (suc (length bs)) (length (drop (number2 a b) bs)) (drop (number2 a b) bs) (omega (arith, shorter)) (omega arith))

-- a whole record in front
pub whole_first : (a b : ℕ) (bs : List ℕ) → number2 a b ≤ length bs
    → divide (a ∷ b ∷ bs) ≡ after (take (number2 a b) bs) (divide (drop (number2 a b) bs))
whole_first a b bs h = divide_step a b bs ∙ rw (le-ltb (length bs) (number2 a b) h) refl

pub cut_first : (a b : ℕ) (bs : List ℕ) → length bs < number2 a b → divide (a ∷ b ∷ bs) ≡ no_record (a ∷ b ∷ bs)
cut_first a b bs h = divide_step a b bs ∙ rw (lt-ltb (length bs) (number2 a b) h) refl

-- ---- to the last byte

length_back : (a b : ℕ) → a < 2 ^ 8 → b < 2 ^ 8 → bytes 2 (number2 a b) ≡ a ∷ b ∷ []
length_back a b h k =
    let p : number2 a b / 2 ^ 8 % 2 ^ 8 ≡ a = omega (arith, h, k) in
    let q : number2 a b / 2 ^ 0 % 2 ^ 8 ≡ b = omega (arith, h, k) in
    λ i. p i ∷ q i ∷ []

-- one record, and the rest to its end
first_to_end : (a b : ℕ) (bs : List ℕ) → a < 2 ^ 8 → b < 2 ^ 8 → number2 a b ≤ length bs
    → joined (divide (drop (number2 a b) bs)).whole ++ (divide (drop (number2 a b) bs)).rest ≡ drop (number2 a b) bs
    → joined (divide (a ∷ b ∷ bs)).whole ++ (divide (a ∷ b ∷ bs)).rest ≡ a ∷ b ∷ bs
first_to_end a b bs p q h rest =
    let n = number2 a b in
    let d = divide (drop n bs) in
    let front : framed (take n bs) ≡ a ∷ b ∷ take n bs =
    ap (λ m. bytes 2 m ++ take n bs) (length-take-le n bs h) ∙ ap (λ (l : List ℕ). l ++ take n bs) (length_back a b p q)
    in
    ap (λ (c : Division). joined c.whole ++ c.rest) (whole_first a b bs h)
    ∙ append_assoc (framed (take n bs)) (joined d.whole) d.rest
    ∙ ap (λ (l : List ℕ). l ++ (joined d.whole ++ d.rest)) front
    ∙ ap (λ (l : List ℕ). a ∷ b ∷ (take n bs ++ l)) rest
    ∙ ap (λ (l : List ℕ). a ∷ b ∷ l) (take-append-drop n bs)

to_end : (f : ℕ) (bs : List ℕ) → length bs ≤ f → All IsByte bs → joined (divide bs).whole ++ (divide bs).rest ≡ bs
unfolding divide_within
to_end zero [] h all = refl
to_end zero (a ∷ bs) h all = absurd (not-suc-le-zero h)
to_end (suc f) [] h all = refl
to_end (suc f) (a ∷ []) h all = refl
to_end (suc f) (a ∷ b ∷ bs) h (p, (q, all)) =
    let n = number2 a b in
    by-test a b bs p q (ltb (length bs) n) refl
    (to_end f (drop n bs) (rw (length-drop n bs) (omega (arith, h))) (all_drop IsByte n bs all))
  where
    by-test : (a b : ℕ) (bs : List ℕ) → a < 2 ^ 8 → b < 2 ^ 8 → (t : Bool) → ltb (length bs) (number2 a b) ≡ t
        → joined (divide (drop (number2 a b) bs)).whole ++ (divide (drop (number2 a b) bs)).rest ≡ drop (number2 a b) bs
        → joined (divide (a ∷ b ∷ bs)).whole ++ (divide (a ∷ b ∷ bs)).rest ≡ a ∷ b ∷ bs
    by-test a b bs p q true e rest = ap (λ (c : Division). joined c.whole ++ c.rest) (cut_first a b bs (ltb-true (length bs) (number2 a b) e))
    by-test a b bs p q false e rest = first_to_end a b bs p q (ltb-false (length bs) (number2 a b) e) rest

pub read_to_end : ReadToEnd
read_to_end bs all = to_end (length bs) bs (omega arith) all

-- ---- what is left

short : (f : ℕ) (bs : List ℕ) → length bs ≤ f → All IsByte bs → length (divide bs).rest ≤ 65536
unfolding divide_within
short zero [] h all = omega arith
short zero (a ∷ bs) h all = absurd (not-suc-le-zero h)
short (suc f) [] h all = omega arith
short (suc f) (a ∷ []) h all = omega arith
short (suc f) (a ∷ b ∷ bs) h (p, (q, all)) =
    let n = number2 a b in
    by-test a b bs p q (ltb (length bs) n) refl
    (short f (drop n bs) (rw (length-drop n bs) (omega (arith, h))) (all_drop IsByte n bs all))
  where
    by-test : (a b : ℕ) (bs : List ℕ) → a < 2 ^ 8 → b < 2 ^ 8 → (t : Bool) → ltb (length bs) (number2 a b) ≡ t
        → length (divide (drop (number2 a b) bs)).rest ≤ 65536 → length (divide (a ∷ b ∷ bs)).rest ≤ 65536
    by-test a b bs p q true e rest =
        let cut = ltb-true (length bs) (number2 a b) e in
        subst (λ (c : Division). length c.rest ≤ 65536) (sym (cut_first a b bs cut)) (omega (arith, p, q, cut))
    by-test a b bs p q false e rest =
        subst (λ (c : Division). length c.rest ≤ 65536) (sym (whole_first a b bs (ltb-false (length bs) (number2 a b) e))) rest

pub rest_short : RestShort
rest_short bs all = short (length bs) bs (omega arith) all

-- ---- by the length field in front

-- the record in front is whole
pub ended_first : (l : List ℕ) → 2 + size_in l ≤ length l
    → divide l ≡ after (part 2 (size_in l) l) (divide (drop (2 + size_in l) l))
ended_first [] h = absurd (not-suc-le-zero h)
ended_first (a ∷ []) h = absurd (too_short (number2 a 0) h)
  where
    too_short : (n : ℕ) → 2 + n ≤ 1 → ⊥
    too_short n h = omega (arith, h)
ended_first (a ∷ b ∷ bs) h =
    let n = number2 a b in
    whole_first a b bs (omega (arith, h)) ∙ ap (λ (l : List ℕ). after (take n bs) (divide l)) (drop-drop n 2 (a ∷ b ∷ bs))

-- it is cut, or nothing stands there
pub open_first : (l : List ℕ) → length l < 2 + size_in l → divide l ≡ no_record l
unfolding divide_within
open_first [] h = refl
open_first (a ∷ []) h = refl
open_first (a ∷ b ∷ bs) h = cut_first a b bs (omega (arith, h))

-- ---- more behind a recording

abbrev pub together : Division → Division → Division
together c d = record { whole = c.whole ++ d.whole; rest = d.rest }

-- a whole record in front of both
first_on : (a b : ℕ) (bs more : List ℕ) → number2 a b ≤ length bs
    → divide (drop (number2 a b) bs ++ more)
    ≡ together (divide (drop (number2 a b) bs)) (divide ((divide (drop (number2 a b) bs)).rest ++ more))
    → divide (a ∷ b ∷ (bs ++ more)) ≡ together (divide (a ∷ b ∷ bs)) (divide ((divide (a ∷ b ∷ bs)).rest ++ more))
first_on a b bs more h rest =
    let n = number2 a b in
    whole_first a b (bs ++ more) (rw (length-append bs more) (omega (arith, h)))
    ∙ (λ i. after (take-append-le n bs more h i) (divide (drop-append-le n bs more h i)))
    ∙ ap (after (take n bs)) rest
    ∙ ap (λ (c : Division). together c (divide (c.rest ++ more))) (sym (whole_first a b bs h))

on : (f : ℕ) (bs more : List ℕ) → length bs ≤ f → divide (bs ++ more) ≡ together (divide bs) (divide ((divide bs).rest ++ more))
unfolding divide_within
on zero [] more h = refl
on zero (a ∷ bs) more h = absurd (not-suc-le-zero h)
on (suc f) [] more h = refl
on (suc f) (a ∷ []) more h = refl
on (suc f) (a ∷ b ∷ bs) more h =
    let n = number2 a b in
    by-test a b bs more (ltb (length bs) n) refl (on f (drop n bs) more (rw (length-drop n bs) (omega (arith, h))))
  where
    by-test : (a b : ℕ) (bs more : List ℕ) (t : Bool) → ltb (length bs) (number2 a b) ≡ t
        → divide (drop (number2 a b) bs ++ more)
        ≡ together (divide (drop (number2 a b) bs)) (divide ((divide (drop (number2 a b) bs)).rest ++ more))
        → divide (a ∷ b ∷ (bs ++ more)) ≡ together (divide (a ∷ b ∷ bs)) (divide ((divide (a ∷ b ∷ bs)).rest ++ more))
    by-test a b bs more true t rest =
        ap (λ (c : Division). together c (divide (c.rest ++ more))) (sym (cut_first a b bs (ltb-true (length bs) (number2 a b) t)))
    by-test a b bs more false t rest = first_on a b bs more (ltb-false (length bs) (number2 a b) t) rest

-- what is left of a recording is read on with what comes behind it
pub divide_on : (bs more : List ℕ) → divide (bs ++ more) ≡ together (divide bs) (divide ((divide bs).rest ++ more))
divide_on bs more = on (length bs) bs more (omega arith)

-- what is left has no whole record
pub rest_open : (bs : List ℕ) → length (divide bs).rest < 2 + size_in (divide bs).rest
unfolding divide_within
rest_open bs = by-fuel (length bs) bs (omega arith)
  where
    by-test : (a b : ℕ) (bs : List ℕ) (t : Bool) → ltb (length bs) (number2 a b) ≡ t
        → length (divide (drop (number2 a b) bs)).rest < 2 + size_in (divide (drop (number2 a b) bs)).rest
        → length (divide (a ∷ b ∷ bs)).rest < 2 + size_in (divide (a ∷ b ∷ bs)).rest
    by-test a b bs true t rest =
        let h = ltb-true (length bs) (number2 a b) t in
        subst (λ (c : Division). length c.rest < 2 + size_in c.rest) (sym (cut_first a b bs h)) (omega (arith, h))
    by-test a b bs false t rest =
        subst (λ (c : Division). length c.rest < 2 + size_in c.rest)
        (sym (whole_first a b bs (ltb-false (length bs) (number2 a b) t))) rest

    by-fuel : (f : ℕ) (bs : List ℕ) → length bs ≤ f → length (divide bs).rest < 2 + size_in (divide bs).rest
    by-fuel zero [] h = omega arith
    by-fuel zero (a ∷ bs) h = absurd (not-suc-le-zero h)
    by-fuel (suc f) [] h = omega arith
    by-fuel (suc f) (a ∷ []) h = omega arith
    by-fuel (suc f) (a ∷ b ∷ bs) h =
        let n = number2 a b in
        by-test a b bs (ltb (length bs) n) refl (by-fuel f (drop n bs) (rw (length-drop n bs) (omega (arith, h))))

-- the events of what was put together
events_together : (c d : Division) → c.rest ≡ [] → events_of (together c d) ≡ events_of c ++ events_of d
events_together c d e =
    ap (λ (l : List Event). l ++ cut_events d.rest) (map-append event_in c.whole d.whole)
    ∙ append_assoc (map event_in c.whole) (map event_in d.whole) (cut_events d.rest)
    ∙ ap (λ (l : List Event). l ++ events_of d) (sym (append-nil (map event_in c.whole)) ∙ ap (λ (r : List ℕ). map event_in c.whole ++ cut_events r) (sym e))

pub read_on : ReadOn
read_on before more e =
    let rest : divide ((divide before).rest ++ more) ≡ divide more = ap (λ (l : List ℕ). divide (l ++ more)) e in
    ap events_of (divide_on before more ∙ ap (together (divide before)) rest) ∙ events_together (divide before) (divide more) e

-- ---- what the writer took

length_read : (n : ℕ) → n ≤ 1024 → number2 (n / 2 ^ 8 % 2 ^ 8) (n / 2 ^ 0 % 2 ^ 8) ≡ n
length_read n h = omega (arith, h)

-- a record in front
record_first : (b more : List ℕ) → length b ≤ 1024 → divide (framed b ++ more) ≡ after b (divide more)
record_first b more h =
    let e = length_read (length b) h in
    whole_first (length b / 2 ^ 8 % 2 ^ 8) (length b / 2 ^ 0 % 2 ^ 8) (b ++ more) (rw (e, length-append b more) (omega arith))
    ∙ (λ i. after (take (e i) (b ++ more)) (divide (drop (e i) (b ++ more))))
    ∙ (λ i. after (take_at b more (length b) refl i) (divide (drop_at b more (length b) refl i)))

records_divide : (es : List Event) → All Recorded es → divide (records_of es) ≡ record { whole = map body es; rest = [] }
unfolding divide_within
records_divide [] all = refl
records_divide (e ∷ es) (r, all) = record_first (body e) (records_of es) r.short ∙ ap (after (body e)) (records_divide es all)

bodies_read : (es : List Event) → All Recorded es → map event_in (map body es) ≡ map kept es
bodies_read [] all = refl
bodies_read (e ∷ es) (r, all) = λ i. record_reads e r i ∷ bodies_read es all i

pub records_read : RecordsRead
records_read es all =
    let d = records_divide es all in
    (ap (λ (c : Division). c.rest) d, ap events_of d ∙ append-nil (map event_in (map body es)) ∙ bodies_read es all)
