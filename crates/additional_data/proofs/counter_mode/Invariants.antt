-- The bytes before the index are mixed, and within a block the stream is the block's.
use mathlib.Core.List.{◌++◌}
use mathlib.Core.Path.{◌≡◌}
use Prim.Native.Nat.{◌/◌, ◌%◌}
use lib.ListN.{length, drop}
use Rattle.laws.specs.Tabulate.{tabulate}
use Rattle.additional_data.specs.CounterMode.{key_stream}
use Rattle.additional_data.proofs.Laws.{mixed}
use Rattle.additional_data.proofs.counter_mode.Given as goal

abbrev pub invariant-loop-j : goal.invariant-loop-j
invariant-loop-j l =
    (length l.«data» ≡ length l.fn.«data»)
    × (l.«data» ≡ tabulate l.j (mixed l.key l.nonce l.fn.«data») ++ drop l.j l.fn.«data»)
    × ((l.j % 16 ≡ 0 → ⊥) → l.stream ≡ key_stream l.key l.nonce (l.j / 16))
