-- After some fields the size is what they and the front take, and no record is longer.
use mathlib.Core.Path.{◌≡◌}
use Prim.Native.Nat.{◌+◌, ◌≤◌}
use lib.ListN.{length, take}
use Rattle.recording.specs.Writing.{in_a_row}
use Rattle.recording.proofs.frame.body_size.Given as goal

abbrev pub invariant-loop-field : goal.invariant-loop-field
invariant-loop-field l = (l.size ≡ 2 + length (in_a_row (take l.field-index l.fields))) × (l.size ≤ 1024)
