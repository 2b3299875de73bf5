-- Fields that may hold anything, read again.
-- Assumes nothing.
use mathlib.Core.Bool.{Bool, true, false, not}
use mathlib.Core.List.{List, ◌∷◌}
use mathlib.Core.Logic.{inl, inr}
use mathlib.Core.Path.{◌≡◌, refl, sym, ap, subst, ◌∙◌}
use Prim.Native.Nat.{ℕ, ◌+◌, ◌-◌, ◌<◌, ◌≤◌}
use native.Mathlib.Omega.{arith}
use lib.Dec.{eqb, ltb, leb}
use lib.ListN.{length, take, get_or}
use lib.Seq.{length-take-le, get_or-take}
use borrow.Author.Tests.{ltb-true, ltb-false, leb-true, leb-false, le-ltb, lt-ltb, le-leb, lt-leb, eq-eqb, ne_eqb, eqb-true, eqb-false, not-true}
use Rattle.laws.proofs.Choice.{and_false, and_left, and_right}
use Rattle.laws.specs.BigEndian.{number2}
use Rattle.laws.specs.Choice.{◌and◌}
use Rattle.std.specs.Prelude.{Some, None, if◌then◌else◌}
use Rattle.recording.specs.Reading.{size_in, zeros}
use Rattle.reassembly.proofs.Held.{longer_is, open_unfinished, unfinished_long, unfinished_short, waiting_held, waiting_skipped}
use Rattle.reassembly.specs.Parts.{is_too_long, is_held, is_open, read_again, skipping, none, unfinished, waiting, Open, longer}
use Rattle.reassembly.specs.declared.Unfinished.{Unfinished}

-- ---- fields that may hold anything

-- what is read again, by whether it is one record that is not whole
module _ (u : Unfinished) where
  pub again_skips : (u.skip ≡ 0 → ⊥) → u.count ≡ 0 → Some (skipping u.skip) ≡ read_again u
  unfolding read_again
  again_skips h e =
      let some : 0 < u.skip = omega (arith, h) in
      let front : List ℕ = 0 ∷ (1024 + u.skip) ∷ zeros 1024 in
      let left : u.skip ≡ 2 + size_in front - 1026 = omega arith in
      let held : skipping u.skip ≡ unfinished (waiting u) =
      ap skipping left
      ∙ sym (unfinished_long front (omega arith) (omega (arith, some)))
      ∙ ap unfinished (sym (waiting_skipped u some))
      in
      ap Some held ∙ rw (ne_eqb u.skip 0 h, eq-eqb u.count 0 e)

  pub again_both : (u.skip ≡ 0 → ⊥) → (u.count ≡ 0 → ⊥) → None ≡ read_again u
  unfolding read_again
  again_both h k = rw (ne_eqb u.skip 0 h, ne_eqb u.count 0 k)

  module _ (e : u.skip ≡ 0) where
    abbrev bs : List ℕ
    bs = take u.count u.bytes

    pub again_over : 1025 < u.count → None ≡ read_again u
    unfolding read_again
    again_over h = rw (eq-eqb u.skip 0 e, lt-leb u.count 1025 h)

    -- the bytes are held, or they are not
    pub again_held : u.count ≤ 1025 → is_held bs ≡ true → {v : Unfinished} → v ≡ longer none bs → Some v ≡ read_again u
    unfolding read_again
    again_held h k q =
        let short : 2 ≤ length bs → size_in bs ≤ 1024 = λ j. not-long bs j (and_right (ltb (length bs) (2 + size_in bs)) (not (is_too_long bs)) k) in
        let held = q ∙ longer_is none bs refl ∙ sym (unfinished_short bs short) ∙ ap unfinished (sym (waiting_held u e)) in
        ap Some held ∙ rw (eq-eqb u.skip 0 e, le-leb u.count 1025 h, k)
      where
        not-long : (l : List ℕ) → 2 ≤ length l → not (leb 2 (length l) and ltb 1024 (size_in l)) ≡ true → size_in l ≤ 1024
        not-long l j k =
            ltb-false 1024 (size_in l) (not-true (ltb 1024 (size_in l)) (ap (λ (b : Bool). not (b and ltb 1024 (size_in l))) (sym (le-leb 2 (length l) j)) ∙ k))

    pub again_nothing : u.count ≡ 0 → Some (skipping u.skip) ≡ read_again u
    again_nothing h = again_held (omega (arith, h)) (rw h refl) (rw (e, h) refl)

    pub again_unheld : u.count ≤ 1025 → is_held bs ≡ false → None ≡ read_again u
    unfolding read_again
    again_unheld h k = rw (eq-eqb u.skip 0 e, le-leb u.count 1025 h, k)

-- no bytes are held: what is to be skipped is, if anything
pub again_none : (u : Unfinished) → u.count ≡ 0 → Some (skipping u.skip) ≡ read_again u
again_none u h = by-skip (eqb u.skip 0) refl
  where
    by-skip : (t : Bool) → eqb u.skip 0 ≡ t → Some (skipping u.skip) ≡ read_again u
    by-skip true z = again_nothing u (eqb-true u.skip 0 z) h
    by-skip false z = again_skips u (eqb-false u.skip 0 z) h

-- which bytes are held
pub held_short : (l : List ℕ) → length l < 2 → is_held l ≡ true
held_short l h = rw (lt-ltb (length l) (2 + size_in l) (omega (arith, h)), lt-leb 2 (length l) h)

pub held_field : (l : List ℕ) → size_in l ≤ 1024 → length l < 2 + size_in l → is_held l ≡ true
held_field l h k = rw (lt-ltb (length l) (2 + size_in l) k, le-ltb 1024 (size_in l) h) (and-false-not (leb 2 (length l)))
  where
    and-false-not : (b : Bool) → not (b and false) ≡ true
    and-false-not true = refl
    and-false-not false = refl

pub long_unheld : (l : List ℕ) → 2 ≤ length l → 1024 < size_in l → is_held l ≡ false
long_unheld l h k = rw (le-leb 2 (length l) h, lt-ltb 1024 (size_in l) k) (and_false (ltb (length l) (2 + size_in l)))

pub whole_unheld : (l : List ℕ) → 2 + size_in l ≤ length l → is_held l ≡ false
whole_unheld l h = rw (le-ltb (length l) (2 + size_in l) h)

-- the same of the bytes of a room
module _ (u : Unfinished) (e : u.skip ≡ 0) (few : u.count ≤ 1025) (full : length u.bytes ≡ 1026) where
  count_long : length (take u.count u.bytes) ≡ u.count
  count_long = length-take-le u.count u.bytes (omega (arith, few, full))

  pub again_byte : {v : Unfinished} → u.count < 2 → v ≡ longer none (take u.count u.bytes)
      → Some v ≡ read_again u
  again_byte h q = again_held u e few (held_short (take u.count u.bytes) (omega (arith, h, count_long))) q

  module _ {n : ℕ} (h : 2 ≤ u.count) (r : n ≡ number2 (get_or u.bytes 0 0) (get_or u.bytes 1 0)) where
    field-read : size_in (take u.count u.bytes) ≡ n
    field-read =
        (λ i. number2 (get_or-take u.count u.bytes 0 0 (omega (arith, h)) i) (get_or-take u.count u.bytes 1 0 (omega (arith, h)) i)) ∙ sym r

    pub again_long : 1024 < n → None ≡ read_again u
    again_long k =
        again_unheld u e few (long_unheld (take u.count u.bytes) (omega (arith, h, count_long)) (omega (arith, k, field-read)))

    pub again_whole : n ≤ u.count - 2 → None ≡ read_again u
    again_whole k = again_unheld u e few (whole_unheld (take u.count u.bytes) (omega (arith, k, h, field-read, count_long)))

    pub again_cut : {v : Unfinished} → n ≤ 1024 → u.count - 2 < n → v ≡ longer none (take u.count u.bytes)
        → Some v ≡ read_again u
    again_cut k j q =
        again_held u e few
        (held_field (take u.count u.bytes) (omega (arith, k, field-read)) (omega (arith, j, h, field-read, count_long))) q

-- ---- what was handed out reads back, and whatever is read is one record that is not whole

pub again_open : (u v : Unfinished) → Some v ≡ read_again u → Open v
unfolding read_again
again_open u v = by-test (is_open u) refl
  where
    by-skip : (t : Bool) → eqb u.skip 0 ≡ t
        → (if t then leb u.count 1025 and is_held (take u.count u.bytes) else eqb u.count 0) ≡ true
        → length (waiting u) < 2 + size_in (waiting u)
    by-skip true z e =
        let bs = take u.count u.bytes in
        let held = and_right (leb u.count 1025) (is_held bs) e in
        subst (λ (l : List ℕ). length l < 2 + size_in l) (sym (waiting_held u (eqb-true u.skip 0 z)))
        (ltb-true (length bs) (2 + size_in bs) (and_left (ltb (length bs) (2 + size_in bs)) (not (is_too_long bs)) held))
    by-skip false z e =
        let some : 0 < u.skip = omega (arith, eqb-false u.skip 0 z) in
        subst (λ (l : List ℕ). length l < 2 + size_in l) (sym (waiting_skipped u some)) (omega (arith, some))

    by-test : (b : Bool) → is_open u ≡ b → Some v ≡ (if b then Some (unfinished (waiting u)) else None) → Open v
    by-test true e h =
        let same : unfinished (waiting u) ≡ v = cc in subst Open same (open_unfinished (waiting u) (by-skip (eqb u.skip 0) refl e))
    by-test false e h = cc

pub reads_back : (u : Unfinished) → Open u → read_again u ≡ Some u
reads_back u (inl s) =
    sym (again_skips u (λ e. some e) (ap (λ (v : Unfinished). v.count) s.empty))
    ∙ ap Some (sym s.empty)
  where
    some : u.skip ≡ 0 → ⊥
    some e = omega (arith, s.some, e)
reads_back u (inr s) =
    sym (again_held u s.unskipped few (held (leb 2 (length bytes)) refl) refl)
    ∙ ap Some (longer_is none bytes refl ∙ sym s.whole)
  where
    bytes : List ℕ
    bytes = take u.count u.bytes

    count : u.count ≡ length bytes
    count = ap (λ (v : Unfinished). v.count) s.whole

    same : 2 ≤ u.count → size_in bytes ≡ size_in u.bytes
    same h = λ i. number2 (get_or-take u.count u.bytes 0 0 (omega (arith, h)) i) (get_or-take u.count u.bytes 1 0 (omega (arith, h)) i)

    within : (t : Bool) → leb 2 u.count ≡ t → u.count ≤ 1025
    within true e =
        let h = leb-true 2 u.count e in omega (arith, s.cut, s.short h)
    within false e = omega (arith, leb-false 2 u.count e)

    few : u.count ≤ 1025
    few = within (leb 2 u.count) refl

    held : (t : Bool) → leb 2 (length bytes) ≡ t → is_held bytes ≡ true
    held true e =
        let h : 2 ≤ u.count = omega (arith, leb-true 2 (length bytes) e, count) in
        held_field bytes (omega (arith, same h, s.short h)) (omega (arith, same h, s.cut, count))
    held false e = held_short bytes (leb-false 2 (length bytes) e)
