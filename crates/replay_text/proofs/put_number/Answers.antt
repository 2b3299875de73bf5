-- The digits are the fewest that hold the number, which is its decimal text.
use native.Mathlib.Omega.{arith}
use borrow.Author.Rules.{rules}
use Rattle.replay_text.proofs.Decimal.{decimal_text}
use Rattle.replay_text.proofs.put_number.Goals as goal

pub put-requires : goal.put-requires
put-requires c =
    let e = c.decimal-count.ensures in
    let text = decimal_text c.args.number c.decimal-count.result c.ranges.number.fits e.len e.digits e.in_bounds.1 in
    omega (arith, c.requires, text.1)

pub returns : goal.returns
returns c =
    let e = c.decimal-count.ensures in
    let text = decimal_text c.args.number c.decimal-count.result c.ranges.number.fits e.len e.digits e.in_bounds.1 in
    record { value = rw (← text.0) (search rules); out_after = rw (← text.0) (search rules) }
