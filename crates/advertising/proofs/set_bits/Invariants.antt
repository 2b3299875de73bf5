-- After i turns the bits of the first i numbers are set.
use mathlib.Core.List.{foldl}
use mathlib.Core.Path.{◌≡◌}
use lib.ListN.{length, take}
use Rattle.advertising.specs.Filter.{with_number, numbers}
use Rattle.advertising.proofs.set_bits.Given as goal

abbrev pub invariant-loop-i : goal.invariant-loop-i
invariant-loop-i l =
    (l.s ≡ length l.initial.filter) × (length l.filter ≡ length l.initial.filter) ×
    (l.filter ≡ foldl (with_number (length l.initial.filter)) l.initial.filter (take l.i (numbers l.hash)))
