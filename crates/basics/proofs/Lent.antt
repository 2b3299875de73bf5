-- What a function owes that writes a text to a lent output.
-- Assumes nothing.
use mathlib.Core.Bool.{true, false}
use mathlib.Core.List.{List, ◌++◌}
use mathlib.Core.Path.{◌≡◌, ◌∙◌, ap}
use Prim.Native.Nat.{ℕ, ◌≤◌, ◌<◌}
use lib.Dec.{leb}
use lib.ListN.{length, drop}
use borrow.Author.Tests.{le-leb, lt-leb}
use Rattle.std.specs.Prelude.{Result, Ok, Err}
use Rattle.basics.specs.Output.{report_of, placed}
use Rattle.basics.specs.declared.Answer.{Answer}
use Rattle.basics.specs.declared.Answer.TheVariants.{OutputTooShort}

-- the output is too short, and left alone
pub left_alone : (text out : List ℕ) {r : Result ℕ Answer} → length out < length text → r ≡ Err OutputTooShort
    → (r ≡ report_of text out) × (out ≡ placed text out)
left_alone text out h e =
    let t : leb (length text) (length out) ≡ false = lt-leb (length text) (length out) h in
    (rw t e, rw t)

-- the text is written, and what follows it stays
pub all_written : (text out : List ℕ) {r : Result ℕ Answer} {n : ℕ} {x : List ℕ} → length text ≤ length out → r ≡ Ok n
    → n ≡ length text → x ≡ text ++ drop (length text) out → (r ≡ report_of text out) × (x ≡ placed text out)
all_written text out h e f g =
    let t : leb (length text) (length out) ≡ true = le-leb (length text) (length out) h in
    (rw t (e ∙ ap Ok f), rw t g)
