-- After some fields the output is the front and those fields, and behind them what it was.
use mathlib.Core.List.{[], ◌++◌}
use mathlib.Core.Path.{◌≡◌}
use Prim.Native.Nat.{◌+◌}
use lib.ListN.{length, take, drop}
use Rattle.laws.specs.BigEndian.{bytes}
use Rattle.recording.specs.Layout.{body_of}
use Rattle.recording.specs.Writing.{in_a_row}
use Rattle.recording.proofs.frame.place.Given as goal

abbrev pub invariant-loop-field : goal.invariant-loop-field
invariant-loop-field l =
    let fields = in_a_row (take l.field-index l.fields) in
    (l.at ≡ 4 + length fields) × (l.out ≡ (bytes 2 l.size ++ body_of l.fn.kind []) ++ fields ++ drop l.at l.fn.out)
