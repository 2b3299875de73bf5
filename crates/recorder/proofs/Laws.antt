-- What every exported writer goes by: the report goes over in plain numbers.
-- Assumes nothing.
use mathlib.Core.List.{List, [], ◌∷◌, ◌++◌, append_assoc, append-nil}
use mathlib.Core.Bool.{Bool, true, false}
use mathlib.Core.Path.{◌≡◌, refl, ap, ◌∙◌}
use mir.Val.{bool_byte}
use Rattle.recording.specs.Layout.{flag}
use Prim.Native.Nat.{ℕ}
use Rattle.std.specs.Prelude.{Option, Result}
use Rattle.basics.specs.declared.Answer.{Answer}
use Rattle.packed.specs.Packed.{packed_report}
use Rattle.packed.specs.declared.FpReport.{FpReport}
use Rattle.provider.specs.Rules.Event.{Event}
use Rattle.recording.specs.Writing.{record_report, record_placed}

pub told : {report report' : Result ℕ Answer} {left left' : List ℕ} {r : FpReport} → (report ≡ report') × (left ≡ left') → r ≡ packed_report report
    → (r ≡ packed_report report') × (left ≡ left')
told (p, q) h = (h ∙ ap packed_report p, q)

-- a flag as a byte
pub flag_byte : (b : Bool) → bool_byte b ≡ flag b
flag_byte true = refl
flag_byte false = refl

-- the fields of a key-based write: t r e s n o q, one behind the other
request_laid : (t r e s n o q : List ℕ)
    → t ++ (r ++ (e ++ (s ++ (n ++ (o ++ (q ++ [])))))) ≡ t ++ (((((r ++ e) ++ s) ++ n) ++ o) ++ q)
request_laid t r e s n o q = simp (append_assoc, append-nil)

-- the flag f before the secret p
pub fields_laid : (l : ℕ) (t r : List ℕ) (f : ℕ) (p s n o q : List ℕ)
    → (l ∷ []) ++ (t ++ (r ++ ((f ∷ []) ++ (p ++ (s ++ (n ++ (o ++ (q ++ []))))))))
    ≡ l ∷ (t ++ (((((r ++ (f ∷ p)) ++ s) ++ n) ++ o) ++ q))
fields_laid l t r f p s n o q = ap (λ (x : List ℕ). l ∷ x) (request_laid t r (f ∷ p) s n o q)

-- the event holds what the secure element's result was read as
pub told_element : (event : Option (List ℕ) → Event) (out : List ℕ) {point element : Option (List ℕ)} {left : List ℕ} {report : Result ℕ Answer} {r : FpReport}
    → point ≡ element → (report ≡ record_report (event point) out) × (left ≡ record_placed (event point) out) → r ≡ packed_report report
    → (r ≡ packed_report (record_report (event element) out)) × (left ≡ record_placed (event element) out)
told_element event out e (p, q) h =
    told (p ∙ ap (λ x. record_report (event x) out) e, q ∙ ap (λ x. record_placed (event x) out) e) h
