-- Document 02 (iii): what the writer of a record gives back, and leaves in the lent output.
-- Assumes nothing.
use Rattle.std.specs.Prelude.{Result, Err, flat_map, List, ℕ, ltb, length, if◌then◌else◌}
use Rattle.std.specs.Borrow.{Bor}
use Rattle.basics.specs.Output.{report_of, placed}
use Rattle.basics.specs.declared.Answer.TheVariants.{WrongLength}
use Rattle.basics.specs.declared.Answer.{Answer}
use Rattle.provider.specs.Rules.Event.{Event}
use Rattle.recording.specs.Layout.{body, framed}

-- fields as code lends them, one behind the other
abbrev pub in_a_row : List (Bor (List ℕ)) → List ℕ
in_a_row fields = flat_map (λ f. f.now) fields

-- "2 exactly for an event whose record would pass 1,024 bytes after its length field, else 13 for a short output, else 0"
unfoldable pub body_report : List ℕ → List ℕ → Result ℕ Answer
body_report b out = if ltb 1024 (length b) then Err WrongLength else report_of (framed b) out

-- "with 2 or 13 it writes nothing"
unfoldable pub body_placed : List ℕ → List ℕ → List ℕ
body_placed b out = if ltb 1024 (length b) then out else placed (framed b) out

abbrev pub record_report : Event → List ℕ → Result ℕ Answer
record_report e out = body_report (body e) out

abbrev pub record_placed : Event → List ℕ → List ℕ
record_placed e out = body_placed (body e) out
