-- Each field is copied behind the front and the fields before it, and what follows it stays.
use mathlib.Core.List.{[], ◌++◌}
use native.Mathlib.Omega.{arith}
use borrow.Author.Rules.{rules}
use mathlib.Core.Path.{refl}
use Rattle.laws.specs.BigEndian.{bytes}
use Rattle.recording.specs.Layout.{body_of}
use Rattle.recording.proofs.Laws.{within_all, field_laid}
use Rattle.recording.proofs.frame.place.Goals as goal

pub slice_bounds-fill-end : goal.slice_bounds-fill-end
slice_bounds-fill-end c =
    let bound = within_all c.args.fields.now c.loop-field.field-index c.loop-field-test.true in
    search rules

pub loop-field-preserved : goal.loop-field-preserved
loop-field-preserved c =
    let turn = c.loop-field in
    field_laid c.args.fields.now turn.field-index c.loop-field-test.true (bytes 2 c.args.size ++ body_of c.args.kind []) c.args.out.now
    turn.at _ _ turn.invariant.0 turn.invariant.1 refl (omega arith) c.fill.ensures
