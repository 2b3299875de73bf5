-- At each turn, what is to come is what was to come at the start; the last turn stands at the end of the part.
use Prim.Native.Nat.{◌-◌}
use lib.ListN.{length}
use Rattle.fp_replay.proofs.Turns.{Ahead}
use Rattle.fp_replay.proofs.part.drain.Given as goal

abbrev pub invariant-loop-turn : goal.invariant-loop-turn
invariant-loop-turn l = Ahead l.part l.initial.out l.initial.turn.stream l.out l.turn

abbrev pub decreases-loop-turn : goal.decreases-loop-turn
decreases-loop-turn l = length l.part - l.turn.at
