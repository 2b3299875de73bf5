-- The tests are those of the answers, in their order.
use mathlib.Core.Path.{refl}
use Rattle.recording.proofs.Laws.{past_limit, no_room, placed_whole}
use Rattle.recording.specs.Writing.{in_a_row}
use Rattle.recording.proofs.frame.write.Goals as goal

pub returns-in_default : goal.returns-in_default
returns-in_default c =
    let a = c.args in
    let both = past_limit a.kind (in_a_row a.fields.now) a.out.now c.in_default.ensures refl in
    record { value = both.0; out_after = both.1 }

pub returns-then-out-size : goal.returns-then-out-size
returns-then-out-size c =
    let a = c.args in
    let size = c.in-Some.ensures in
    let both = no_room a.kind (in_a_row a.fields.now) a.out.now size.0 size.1 c.if-out-size.true refl in
    record { value = both.0; out_after = both.1 }

pub returns : goal.returns
returns c =
    let a = c.args in
    let size = c.in-Some.ensures in
    let both = placed_whole a.kind (in_a_row a.fields.now) a.out.now size.0 size.1 c.if-out-size.false refl c.place.ensures in
    record { value = both.0; out_after = both.1 }
