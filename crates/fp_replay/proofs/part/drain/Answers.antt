-- At each turn, what is to come is what was to come at the start; the last turn stands at the end of the part.
use native.Mathlib.Omega.{arith}
use Rattle.fp_replay.proofs.Turns.{ahead_first, ahead_again, fewer_again, all_drained}
use Rattle.fp_replay.proofs.part.drain.Goals as goal

pub loop-turn-init : goal.loop-turn-init
loop-turn-init c =
    ahead_first c.args.part.now c.args.out.now c.args.stream c.requires.0

pub one-turn-requires : goal.one-turn-requires
one-turn-requires c =
    let ahead = c.loop-turn.invariant in (ahead.ready, omega (arith, ahead.long, c.requires.1), ahead.room)

pub loop-turn-smaller : goal.loop-turn-smaller
loop-turn-smaller c =
    let ahead = c.loop-turn.invariant in
    fewer_again _ _ _ _ _ ahead c.loop-turn-test.true c.one-turn.ensures.value c.one-turn.ensures.out_after c.one-turn.ensures.filled_in_bounds

pub loop-turn-preserved : goal.loop-turn-preserved
loop-turn-preserved c =
    let ahead = c.loop-turn.invariant in
    ahead_again _ _ _ _ _ ahead c.loop-turn-test.true c.one-turn.ensures.value c.one-turn.ensures.out_after c.one-turn.ensures.filled_in_bounds

pub shape_of-out : goal.shape_of-out
shape_of-out c = c.loop-turn.invariant.long

pub returns : goal.returns
returns c =
    let ahead = c.loop-turn.invariant in
    record {
      filled_after = all_drained _ _ _ _ _ ahead c.loop-turn-test.false;
      filled_in_bounds = omega (arith, ahead.room, ahead.long);
    }
