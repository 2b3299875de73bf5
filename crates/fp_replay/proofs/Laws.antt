-- The place of a line in the output buffer.
-- Assumes nothing.
use mathlib.Core.Bool.{Bool, true, false}
use mathlib.Core.List.{List}
use mathlib.Core.Path.{◌≡◌, refl}
use Prim.Native.Nat.{ℕ, ◌+◌, ◌≤◌}
use lib.Dec.{leb}
use lib.ListN.{length}
use lib.Seq.{paste}
use borrow.Author.Tests.{leb-true}
use Rattle.std.specs.Prelude.{if◌then◌else◌}
use Rattle.replay.specs.declared.Line.{Line}
use Rattle.replay_text.specs.Text.{text}
use Rattle.fp_replay.specs.Reading.{Output, line_place, printed}

-- there is room for it
pub line_fits : (size filled : ℕ) → 83 ≤ size → line_place size filled + 83 ≤ size
line_fits size filled h = by (leb (filled + 83) size) refl
  where
    by : (b : Bool) → leb (filled + 83) size ≡ b → (if b then filled else 0) + 83 ≤ size
    by true e = leb-true (filled + 83) size e
    by false e = h

-- a line that was put there was printed
pub printed_at : (o : Output) (l : Line) {at end : ℕ} {left : List ℕ} → at ≡ line_place (length o.bytes) o.filled
    → end ≡ at + length (text l) → left ≡ paste o.bytes at (text l) (length (text l))
    → record { bytes = left; filled = end } ≡ printed o l
printed_at o l p q e = rw (e, q, p)
