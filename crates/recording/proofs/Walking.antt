-- What stands at a place of a recording, told by `next_at`, and what the rest of the recording divides into there.
-- Assumes nothing.
use mathlib.Core.Bool.{Bool, true, false}
use mathlib.Core.List.{List, [], ◌∷◌}
use mathlib.Core.Path.{◌≡◌, refl, sym, ap, subst, ◌∙◌}
use Prim.Native.Nat.{ℕ, suc, ◌+◌, ◌-◌, ◌<◌, ◌≤◌}
use native.Mathlib.Omega.{arith}
use lib.Dec.{ltb, leb}
use lib.ListN.{length, take, drop, get_or, length-drop, drop_of_length-le}
use lib.Seq.{drop-cons, drop-drop}
use borrow.Author.Tests.{ltb-true, ltb-false, leb-true, leb-false}
use Rattle.laws.specs.BigEndian.{number2}
use Rattle.std.specs.Prelude.{if◌then◌else◌}
use Rattle.recording.proofs.Divisions.{whole_first, cut_first}
use Rattle.recording.specs.Reading.{no_record, after, divide_within, divide, next_at, part}
use Rattle.recording.specs.declared.reader.Next.{Next}
use Rattle.recording.specs.declared.reader.Next.TheVariants.{Record, Cut, End}

module _ (bs : List ℕ) (at : ℕ) where
  abbrev size : ℕ
  size = number2 (get_or bs at 0) (get_or bs (at + 1) 0)

  -- what `next_at` says of the rest of the recording
  abbrev pub Walk : Next → Type 0
  Walk (Record s e) =
      (s ≡ at + 2) × (s ≤ e) × (e ≤ length bs) × (divide (drop at bs) ≡ after (part s (e - s) bs) (divide (drop e bs)))
  Walk Cut = (at < length bs) × (divide (drop at bs) ≡ no_record (drop at bs))
  Walk End = (length bs ≤ at) × (divide (drop at bs) ≡ no_record (drop at bs))

  two_bytes : at + 2 ≤ length bs → drop at bs ≡ get_or bs at 0 ∷ get_or bs (at + 1) 0 ∷ drop (at + 2) bs
  two_bytes h =
      let one : suc at ≡ at + 1 = omega arith in
      let two : suc (at + 1) ≡ at + 2 = omega arith in
      drop-cons bs at 0 (omega (arith, h))
      ∙ ap (λ i. get_or bs at 0 ∷ drop i bs) one
      ∙ ap (λ (l : List ℕ). get_or bs at 0 ∷ l) (drop-cons bs (at + 1) 0 (omega (arith, h)))
      ∙ ap (λ i. get_or bs at 0 ∷ get_or bs (at + 1) 0 ∷ drop i bs) two

  record-here : at + 2 + size ≤ length bs → Walk (Record (at + 2) (at + 2 + size))
  record-here h =
      let long : size ≤ length (drop (at + 2) bs) = rw (length-drop (at + 2) bs) (omega (arith, h)) in
      let width : at + 2 + size - (at + 2) ≡ size = omega arith in (
        refl,
        omega arith,
        h,
        ap divide (two_bytes (omega (arith, h)))
            ∙ whole_first (get_or bs at 0) (get_or bs (at + 1) 0) (drop (at + 2) bs) long
            ∙ (λ i. after (take (sym width i) (drop (at + 2) bs)) (divide (drop-drop size (at + 2) bs i))),
      )

  cut-here : at + 2 ≤ length bs → length bs < at + 2 + size → Walk Cut
  cut-here h k =
      let short : length (drop (at + 2) bs) < size = rw (length-drop (at + 2) bs) (omega (arith, h, k)) in (
        omega (arith, h),
        ap divide (two_bytes h)
            ∙ cut_first (get_or bs at 0) (get_or bs (at + 1) 0) (drop (at + 2) bs) short
            ∙ ap no_record (sym (two_bytes h)),
      )

  -- one byte of a length field
  one_byte : at < length bs → length bs < at + 2 → Walk Cut
  unfolding divide_within
  one_byte h k =
      let alone : drop at bs ≡ get_or bs at 0 ∷ [] =
      drop-cons bs at 0 h ∙ ap (λ (l : List ℕ). get_or bs at 0 ∷ l) (drop_of_length-le bs {i = suc at} (omega (arith, k)))
      in
      (h, ap divide alone ∙ ap no_record (sym alone))

  at-end : length bs ≤ at → Walk End
  unfolding divide_within
  at-end h =
      let none : drop at bs ≡ [] = drop_of_length-le bs {i = at} h in
      (h, ap divide none ∙ ap no_record (sym none))

  pub walk : Walk (next_at bs at)
  unfolding next_at
  walk = by_end (leb (length bs) at) refl
    where
      by_size : (t : Bool) → ltb (length bs) (at + 2 + size) ≡ t → at + 2 ≤ length bs
          → Walk (if t then Cut else Record (at + 2) (at + 2 + size))
      by_size true e h = cut-here h (ltb-true (length bs) (at + 2 + size) e)
      by_size false e h = record-here (ltb-false (length bs) (at + 2 + size) e)

      by_field : (t : Bool) → ltb (length bs) (at + 2) ≡ t → at < length bs
          → Walk (if t then Cut else if ltb (length bs) (at + 2 + size) then Cut else Record (at + 2) (at + 2 + size))
      by_field true e h = one_byte h (ltb-true (length bs) (at + 2) e)
      by_field false e h = by_size (ltb (length bs) (at + 2 + size)) refl (ltb-false (length bs) (at + 2) e)

      by_end : (t : Bool) → leb (length bs) at ≡ t
          → Walk (if t then End else if ltb (length bs) (at + 2) then Cut else
          if ltb (length bs) (at + 2 + size) then Cut else Record (at + 2) (at + 2 + size))
      by_end true e = at-end (leb-true (length bs) at e)
      by_end false e = by_field (ltb (length bs) (at + 2)) refl (leb-false (length bs) at e)

  -- the same of what was found there
  pub walked : {n : Next} → n ≡ next_at bs at → Walk n
  walked e = subst (λ (m : Next). Walk m) (sym e) walk
