-- What is held of what is left, what stands for it before the next part, and what holds of it.
-- Assumes nothing.
use mathlib.Core.Bool.{Bool, true, false, not}
use mathlib.Core.List.{List, [], ◌∷◌, ◌++◌}
use mathlib.Core.Logic.{inl, inr}
use mathlib.Core.Path.{◌≡◌, refl, sym, ap, subst, ◌∙◌}
use Prim.Native.Nat.{ℕ, zero, suc, ◌+◌, ◌-◌, ◌<◌, ◌≤◌}
use native.Mathlib.Omega.{arith}
use lib.Dec.{eqb, ltb, leb}
use lib.ListN.{length, take, get_or, length-append, get_or-append}
use lib.Seq.{get_or-take, paste}
use borrow.Author.Tests.{ltb-true, ltb-false, leb-true, leb-false, le-ltb, lt-ltb, le-leb, eq-eqb, ne_eqb}
use Rattle.laws.proofs.Choice.{true_is}
use Rattle.laws.proofs.Padded.{paste_padded, take_padded}
use Rattle.laws.specs.BigEndian.{number2}
use Rattle.laws.specs.Choice.{◌and◌}
use Rattle.std.specs.Prelude.{if◌then◌else◌}
use Rattle.laws.specs.Lists.{padded}
use Rattle.recording.specs.Reading.{size_in, zeros}
use Rattle.reassembly.specs.Parts.{holding, skipping, none, unfinished, waiting, is_cut, Skips, Holds, Open, longer, Filling}
use Rattle.reassembly.specs.declared.Unfinished.{Unfinished}

-- a length field in front is not changed by what comes behind it
pub size_front : (l more : List ℕ) → 2 ≤ length l → size_in (l ++ more) ≡ size_in l
size_front l more h =
    λ i. number2 (get_or-append l more 0 0 (omega (arith, h)) i) (get_or-append l more 0 1 (omega (arith, h)) i)

-- ---- what is held of what is left

pub unfinished_long : (l : List ℕ) → 2 ≤ length l → 1024 < size_in l → unfinished l ≡ skipping (2 + size_in l - length l)
unfolding unfinished
unfinished_long l h k = rw (le-leb 2 (length l) h, lt-ltb 1024 (size_in l) k)

pub unfinished_short : (l : List ℕ) → (2 ≤ length l → size_in l ≤ 1024) → unfinished l ≡ holding l
unfolding unfinished
unfinished_short l h = by-test (leb 2 (length l)) refl
  where
    by-test : (t : Bool) → leb 2 (length l) ≡ t
        → (if t and ltb 1024 (size_in l) then skipping (2 + size_in l - length l) else holding l) ≡ holding l
    by-test true e = rw (le-ltb 1024 (size_in l) (h (leb-true 2 (length l) e)))
    by-test false e = refl

-- ---- what stands before the next part

pub waiting_held : (u : Unfinished) → u.skip ≡ 0 → waiting u ≡ take u.count u.bytes
unfolding waiting
waiting_held u e = rw (eq-eqb u.skip 0 e)

pub waiting_holding : (x : List ℕ) → waiting (holding x) ≡ x
waiting_holding x = waiting_held (holding x) refl ∙ take_padded 1026 0 x

pub waiting_skipped : (u : Unfinished) → 0 < u.skip → waiting u ≡ 0 ∷ (1024 + u.skip) ∷ zeros 1024
unfolding waiting
waiting_skipped u h = rw (ne_eqb u.skip 0 (λ e. some e))
  where
    some : u.skip ≡ 0 → ⊥
    some e = omega (arith, h, e)

-- ---- a recording that ends here

pub cut_skips : (u : Unfinished) → (u.skip ≡ 0 → ⊥) → true ≡ is_cut u
cut_skips u h =
    let some : 0 < u.skip = omega (arith, h) in
    sym (ap not (ne_eqb (length (waiting u)) 0 (λ e. longer e (ap (λ (m : List ℕ). length m) (waiting_skipped u some)))))
  where
    longer : length (waiting u) ≡ 0 → length (waiting u) ≡ suc (suc (length (zeros 1024))) → ⊥
    longer e f = omega (arith, e, f)

pub cut_holds : (u : Unfinished) → Open u → u.skip ≡ 0 → not (eqb u.count 0) ≡ is_cut u
cut_holds u (inl s) e = absurd (none_left s.some)
  where
    none_left : 0 < u.skip → ⊥
    none_left h = omega (arith, h, e)
cut_holds u (inr s) e =
    ap (λ n. not (eqb n 0)) (ap (λ (v : Unfinished). v.count) s.whole ∙ ap (λ (m : List ℕ). length m) (sym (waiting_held u e)))

-- ---- what is held, with more behind it

pub longer_is : (u : Unfinished) (more : List ℕ) → u ≡ holding (take u.count u.bytes)
    → longer u more ≡ holding (take u.count u.bytes ++ more)
longer_is u more e =
    let w = take u.count u.bytes in
    let count : u.count ≡ length w = ap (λ (v : Unfinished). v.count) e in
    let bytes : u.bytes ≡ padded 1026 0 w = ap (λ (v : Unfinished). v.bytes) e in
    let sum : u.count + length more ≡ length (w ++ more) = rw (length-append w more) (omega (arith, count)) in
    let pasted : paste u.bytes u.count more (length more) ≡ padded 1026 0 (w ++ more) =
    ap (λ (l : List ℕ). paste l u.count more (length more)) bytes ∙ paste_padded 1026 0 w more u.count (sym count)
    in
    λ i. record { bytes = pasted i; count = sum i; skip = 0 }

-- ---- what holds of what is held

-- not too long, and not whole
pub held_open : (u : Unfinished) → Holds u → length (waiting u) < 2 + size_in (waiting u)
held_open u o =
    let waits = waiting_held u o.unskipped in
    let count : u.count ≡ length (take u.count u.bytes) = ap (λ (v : Unfinished). v.count) o.whole in
    subst (λ (l : List ℕ). length l < 2 + size_in l) (sym waits) (by_count u.count u.bytes count o.cut)
  where
    by_count : (n : ℕ) (bs : List ℕ) → n ≡ length (take n bs) → n < 2 + size_in bs → length (take n bs) < 2 + size_in (take n bs)
    by_count zero bs e h = omega (arith, e)
    by_count (suc zero) bs e h = omega (arith, e)
    by_count (suc (suc n)) bs e h =
        let same : size_in (take (suc (suc n)) bs) ≡ size_in bs =
        λ i. number2 (get_or-take (suc (suc n)) bs 0 0 (omega arith) i) (get_or-take (suc (suc n)) bs 1 0 (omega arith) i)
        in
        omega (arith, same, e, h)

pub skips_open : (u : Unfinished) → Skips u → length (waiting u) < 2 + size_in (waiting u)
skips_open u s =
    subst (λ (l : List ℕ). length l < 2 + size_in l) (sym (waiting_skipped u s.some))
    (omega (arith, s.some))

-- it is what is held of what stands before the next part
pub held_again_lem : (u : Unfinished) → Open u → u ≡ unfinished (waiting u)
held_again_lem u (inl s) =
    let front : List ℕ = 0 ∷ (1024 + u.skip) ∷ zeros 1024 in
    let left : u.skip ≡ 2 + size_in front - 1026 = omega arith in
    s.empty
    ∙ ap skipping left
    ∙ sym (unfinished_long front (omega arith) (omega (arith, s.some)))
    ∙ ap unfinished (sym (waiting_skipped u s.some))
held_again_lem u (inr s) =
    s.whole
    ∙ sym (unfinished_short (take u.count u.bytes) (λ k. short k))
    ∙ ap unfinished (sym (waiting_held u s.unskipped))
  where
    short : 2 ≤ length (take u.count u.bytes) → size_in (take u.count u.bytes) ≤ 1024
    short k =
        let count : u.count ≡ length (take u.count u.bytes) = ap (λ (v : Unfinished). v.count) s.whole in
        let same : size_in (take u.count u.bytes) ≡ size_in u.bytes =
        λ i. number2 (get_or-take u.count u.bytes 0 0 (omega (arith, k, count)) i) (get_or-take u.count u.bytes 1 0 (omega (arith, k, count)) i)
        in
        omega (arith, same, s.short (omega (arith, k, count)))

pub open_cut : (u : Unfinished) → Open u → length (waiting u) < 2 + size_in (waiting u)
open_cut u (inl s) = skips_open u s
open_cut u (inr s) = held_open u s

-- a record that goes on is skipped, or held
pub skip_open : {u : Unfinished} → Open u → (u.skip ≡ 0 → ⊥) → Skips u
skip_open (inl s) h = s
skip_open (inr s) h = absurd (h s.unskipped)

pub hold_open : {u : Unfinished} → Open u → u.skip ≡ 0 → Holds u
hold_open {u} (inl s) e = absurd (none_left s.some)
  where
    none_left : 0 < u.skip → ⊥
    none_left h = omega (arith, h, e)
hold_open (inr s) e = s

-- with two bytes and more its length field has come
pub hold_filling : {u : Unfinished} {n : ℕ} → Open u → is_cut u ≡ true → u.skip ≡ 0 → (u.count ≡ 1 → ⊥)
    → n ≡ number2 (get_or u.bytes 0 0) (get_or u.bytes 1 0) → Filling u n
hold_filling {u} o cut e one r =
    let s = hold_open o e in
    let some : u.count ≡ 0 → ⊥ = λ z. absurd (true_is (sym (ap not (eq-eqb u.count 0 z)) ∙ cut_holds u o e ∙ cut)) in
    let two : 2 ≤ u.count = omega (arith, some, one) in
    record {
      unskipped = e;
      whole = s.whole;
      size = r;
      field = two;
      within = omega (arith, s.cut, r);
      short = omega (arith, s.short two, r);
    }

-- ---- what is held of what is left is one record that is not whole

pub open_unfinished : (l : List ℕ) → length l < 2 + size_in l → Open (unfinished l)
open_unfinished l cut = by_field (leb 2 (length l)) refl
  where
    short-field : length l < 2 → Open (unfinished l)
    short-field h =
        subst Open (sym (unfinished_short l (λ k. omega (arith, k, h))))
        (inr (record {
          unskipped = refl;
          whole = ap holding (sym (take_padded 1026 0 l));
          cut = omega (arith, h);
          short = λ k. omega (arith, k, h);
        }))

    by_size : (t : Bool) → ltb 1024 (size_in l) ≡ t → 2 ≤ length l → Open (unfinished l)
    by_size true e h =
        subst Open (sym (unfinished_long l h (ltb-true 1024 (size_in l) e)))
        (inl (record { empty = refl; some = omega (arith, cut) }))
    by_size false e h =
        let few = ltb-false 1024 (size_in l) e in
        let same : size_in (padded 1026 0 l) ≡ size_in l = size_front l (zeros (1026 - length l)) h in
        subst Open (sym (unfinished_short l (λ k. few)))
        (inr (record {
          unskipped = refl;
          whole = ap holding (sym (take_padded 1026 0 l));
          cut = omega (arith, same, cut);
          short = λ k. omega (arith, same, few);
        }))

    by_field : (t : Bool) → leb 2 (length l) ≡ t → Open (unfinished l)
    by_field true e = by_size (ltb 1024 (size_in l)) refl (leb-true 2 (length l) e)
    by_field false e = short-field (leb-false 2 (length l) e)

pub open_none : Open none
open_none = subst Open (unfinished_short [] (λ k. omega (arith, k))) (open_unfinished [] (omega arith))

-- at least one byte of a record is to come
pub more_to_come : (u : Unfinished) (more : List ℕ) → Open u → length (waiting u) < 2 + size_in (waiting u ++ more)
more_to_come u more o = by_field (leb 2 (length (waiting u))) refl
  where
    by_field : (t : Bool) → leb 2 (length (waiting u)) ≡ t → length (waiting u) < 2 + size_in (waiting u ++ more)
    by_field true e = omega (arith, size_front (waiting u) more (leb-true 2 (length (waiting u)) e), open_cut u o)
    by_field false e = omega (arith, leb-false 2 (length (waiting u)) e)
