-- The fields up to the one that passes the limit are some of all fields.
use native.Mathlib.Omega.{arith}
use Rattle.recording.proofs.Laws.{within_all}
use Rattle.recording.proofs.frame.body_size.Goals as goal

pub returns-then-size-field : goal.returns-then-size-field
returns-then-size-field c = omega (arith, within_all c.args.fields.now _ c.loop-field-test.true, c.if-size-field.true)
