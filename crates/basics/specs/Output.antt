-- What a function does with an output that the caller lends: all of a text, or nothing.
-- Assumes nothing.
use Rattle.std.specs.Prelude.{List, ◌++◌, ℕ, leb, length, drop, if◌then◌else◌, Result, Ok, Err}
use Rattle.basics.specs.declared.Answer.{Answer}
use Rattle.basics.specs.declared.Answer.TheVariants.{OutputTooShort}

-- "Answer 13 if the output is shorter than the whole structure"; otherwise how many bytes were written
abbrev pub report_of : List ℕ → List ℕ → Result ℕ Answer
report_of text out = if leb (length text) (length out) then Ok (length text) else Err OutputTooShort

-- "Bytes past those written stay", and a refusal writes nothing
abbrev pub placed : List ℕ → List ℕ → List ℕ
placed text out = if leb (length text) (length out) then text ++ drop (length text) out else out
