-- Laws of records: fields in a row, and what the writer of a record owes.
-- Assumes nothing.
use mathlib.Core.Bool.{true, false}
use mathlib.Core.List.{List, [], ◌∷◌, ◌++◌, append_assoc, append-nil}
use mathlib.Core.Path.{◌≡◌, sym, ap, ap₂, ◌∙◌}
use Prim.Native.Nat.{ℕ, ◌+◌, ◌≤◌, ◌<◌}
use native.Mathlib.Omega.{arith}
use lib.Dec.{ltb}
use lib.ListN.{length, take, get_or, drop, length-append}
use lib.Seq.{take_at, drop_at, drop-drop}
use borrow.Rule.Slice.PartMut.{put_mid}
use borrow.Author.Tests.{lt-ltb, le-ltb}
use Rattle.std.proofs.lemmas.Grind.{flat_map-append}
use Rattle.std.proofs.lemmas.List.{take_more}
use Rattle.std.proofs.lemmas.List.Folds.{length-flat_map-take}
use Rattle.std.specs.Borrow.{Bor}
use Rattle.std.specs.Prelude.{Result, Ok, Err}
use Rattle.laws.specs.BigEndian.{bytes}
use Rattle.basics.proofs.Lent.{left_alone, all_written}
use Rattle.basics.specs.declared.Answer.{Answer}
use Rattle.basics.specs.declared.Answer.TheVariants.{WrongLength, OutputTooShort}
use Rattle.provider.specs.Rules.Event.{Event}
use Rattle.recording.specs.Layout.{body_of, body, framed}
use Rattle.recording.specs.Writing.{in_a_row, body_report, body_placed, record_report, record_placed}
use Rattle.recording.specs.declared.Kind.{Kind}

-- ---- fields in a row

abbrev none : Bor (List ℕ)
none = record { ref_ptr = (0, 0); now = [] }

-- the fields up to the one at place i and that one are some of all
pub within_all : (fields : List (Bor (List ℕ))) (i : ℕ) → i < length fields
    → length (in_a_row (take i fields)) + length (get_or fields i none).now ≤ length (in_a_row fields)
within_all fields i h = length-flat_map-take (λ (f : Bor (List ℕ)). f.now) fields i none h

-- one field more behind the front and those before it
pub field_laid : (fields : List (Bor (List ℕ))) (i : ℕ) → i < length fields → (front o : List ℕ) {x y : List ℕ} (at n k : ℕ)
    → at ≡ length front + length (in_a_row (take i fields))
    → x ≡ front ++ in_a_row (take i fields) ++ drop at o
    → n ≡ length (get_or fields i none).now
    → k ≡ n
    → y ≡ (get_or fields i none).now
    → (at + n ≡ length front + length (in_a_row (take (i + 1) fields)))
    × (put_mid at k x y ≡ front ++ in_a_row (take (i + 1) fields) ++ drop (at + n) o)
field_laid fields i h front o {x} {y} at n k p e q r f =
    let done = in_a_row (take i fields) in
    let field = (get_or fields i none).now in
    let more : in_a_row (take (i + 1) fields) ≡ done ++ field =
    rw (take_more fields i none h, flat_map-append (λ (f : Bor (List ℕ)). f.now) (take i fields) (get_or fields i none ∷ []), append-nil field)
    in
    let all = front ++ done in
    let long : length all ≡ at = length-append front done ∙ sym p in
    let before : x ≡ all ++ drop at o = e in (
      rw (more, length-append done field) (omega (arith, p, q)),
      rw (before, f, r, take_at all (drop at o) at long, drop_at all (drop at o) at long, drop-drop n at o, more)
          (simp append_assoc),
    )

-- ---- "2 exactly for an event whose record would pass 1,024 bytes after its length field, else 13 for a short output, else 0"

-- a record with the fields l
module _ (k : Kind) (l out : List ℕ) where
  abbrev whole : List ℕ
  whole = body_of k l

  pub past_limit : {r : Result ℕ Answer} → 1024 < 2 + length l → r ≡ Err WrongLength → (r ≡ body_report whole out) × (out ≡ body_placed whole out)
  unfolding body_report body_placed
  past_limit h e =
      let t : ltb 1024 (length whole) ≡ true = lt-ltb 1024 (length whole) (omega (arith, h)) in
      (rw t e, rw t)

  module _ {n : ℕ} (size : n ≡ 2 + length l) (h : n ≤ 1024) where
    not_too_long : ltb 1024 (length whole) ≡ false
    not_too_long = le-ltb 1024 (length whole) (omega (arith, size, h))

    length_framed : 2 + n ≡ length (framed whole)
    length_framed = omega (arith, size)

    pub no_room : {r : Result ℕ Answer} → length out < 2 + n → r ≡ Err OutputTooShort
        → (r ≡ body_report whole out) × (out ≡ body_placed whole out)
    unfolding body_report body_placed
    no_room l e = rw not_too_long (left_alone (framed whole) out (omega (arith, length_framed)) e)

    pub placed_whole : {r : Result ℕ Answer} {x : List ℕ} → 2 + n ≤ length out → r ≡ Ok (2 + n)
        → x ≡ (bytes 2 n ++ whole) ++ drop (2 + n) out → (r ≡ body_report whole out) × (x ≡ body_placed whole out)
    unfolding body_report body_placed
    placed_whole l e f =
        let length_whole : n ≡ length whole = omega (arith, size) in
        let x_is = f ∙ ap₂ (λ (m n : ℕ). (bytes 2 m ++ whole) ++ drop n out) length_whole length_framed in
        rw not_too_long (all_written (framed whole) out (omega (arith, length_framed)) e length_framed x_is)

-- ---- from the fields of a record to the event

-- what is written as the body b is written as the record of e
pub recorded : (e : Event) {b : List ℕ} (out : List ℕ) {r : Result ℕ Answer} {x : List ℕ} → b ≡ body e
    → (r ≡ body_report b out) × (x ≡ body_placed b out) → (r ≡ record_report e out) × (x ≡ record_placed e out)
recorded e out p w =
    (w.0 ∙ ap (λ (l : List ℕ). body_report l out) p, w.1 ∙ ap (λ (l : List ℕ). body_placed l out) p)
