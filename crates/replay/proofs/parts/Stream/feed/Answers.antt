-- What is held is read on; else each arm is a case of what stands at the place.
use Rattle.std.proofs.Common.{sym, ◌∙◌, arith}
use Rattle.recording.proofs.Walking.{walked}
use Rattle.replay.proofs.Feeding.{rest_unended, record_fed, cut_fed, end_fed}
use Rattle.replay.proofs.parts.Stream.feed.Goals as goal

pub slice_bounds-shown-count : goal.slice_bounds-shown-count
slice_bounds-shown-count c =
    let a = c.args in (walked a.part.now a.at (sym c.in-Record.is ∙ c.next_at.ensures)).1

pub slice_bounds-shown-start : goal.slice_bounds-shown-start
slice_bounds-shown-start c =
    let a = c.args in (walked a.part.now a.at (sym c.in-Record.is ∙ c.next_at.ensures)).1

pub slice_bounds-shown-end : goal.slice_bounds-shown-end
slice_bounds-shown-end c =
    let a = c.args in (walked a.part.now a.at (sym c.in-Record.is ∙ c.next_at.ensures)).2

pub begin-requires : goal.begin-requires
begin-requires c =
    let a = c.args in
    let walk = walked a.part.now a.at (sym c.in-Cut.is ∙ c.next_at.ensures) in
    (omega (arith, walk.0), rest_unended a.self a.part.now a.at c.requires.held (sym c.is_cut.ensures ∙ c.if-is_cut.false) walk.1)

pub returns-in-Record : goal.returns-in-Record
returns-in-Record c =
    let a = c.args in
    c.shown.ensures
    ∙ record_fed a.self a.part.now a.at c.requires.held (sym c.is_cut.ensures ∙ c.if-is_cut.false) _ _
    (walked a.part.now a.at (sym c.in-Record.is ∙ c.next_at.ensures))

pub returns-in-Cut : goal.returns-in-Cut
returns-in-Cut c =
    let a = c.args in
    c.waits.ensures
    ∙ cut_fed a.self a.part.now a.at c.requires.held (sym c.is_cut.ensures ∙ c.if-is_cut.false)
    (walked a.part.now a.at (sym c.in-Cut.is ∙ c.next_at.ensures)) c.begin.ensures

pub returns-in-End : goal.returns-in-End
returns-in-End c =
    let a = c.args in
    c.waits-in-End.ensures
    ∙ end_fed a.self a.part.now a.at c.requires.held (sym c.is_cut.ensures ∙ c.if-is_cut.false)
    (walked a.part.now a.at (sym c.in-End.is ∙ c.next_at.ensures))
