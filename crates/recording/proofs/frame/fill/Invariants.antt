-- After i turns the first i bytes are the field's.
use mathlib.Core.Path.{◌≡◌}
use lib.ListN.{length, take}
use Rattle.recording.proofs.frame.fill.Given as goal

abbrev pub invariant-loop-i : goal.invariant-loop-i
invariant-loop-i l = (length l.place ≡ length l.field) × (take l.i l.place ≡ take l.i l.field)
