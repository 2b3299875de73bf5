-- Each arm is a case of what was found of the record that is held.
use Rattle.std.proofs.Common.{◌≡◌, length, ◌∙◌, arith, rules}
use Rattle.reassembly.specs.declared.Found.TheVariants as found
use Rattle.replay.proofs.Feeding.{found_told, held_within}
use Rattle.replay.proofs.parts.Stream.read_on.Goals as goal

pub slice_bounds-shown-count : goal.slice_bounds-shown-count
slice_bounds-shown-count c =
    let a = c.args in
    (held_within a.self.unfinished a.part.now a.at c.read_on-taken.result _ c.read_on-taken.ensures c.in-Held.is).0

pub slice_bounds-shown-start : goal.slice_bounds-shown-start
slice_bounds-shown-start c =
    let a = c.args in
    (held_within a.self.unfinished a.part.now a.at c.read_on-taken.result _ c.read_on-taken.ensures c.in-Held.is).0

pub slice_bounds-shown-end : goal.slice_bounds-shown-end
slice_bounds-shown-end c =
    let h : length c.read_on-taken.result.next.bytes ≡ 1026 = search rules in
    let a = c.args in
    let found = c.in-Held.is in
    omega (arith, h, (held_within a.self.unfinished a.part.now a.at c.read_on-taken.result _ c.read_on-taken.ensures found).1)

pub returns-in-Nothing : goal.returns-in-Nothing
returns-in-Nothing c =
    let a = c.args in
    c.waits.ensures ∙ found_told a.self a.part.now a.at c.read_on-taken.result found.Nothing c.read_on-taken.ensures c.in-Nothing.is

pub returns-in-Held : goal.returns-in-Held
returns-in-Held c =
    let a = c.args in
    c.shown.ensures ∙ found_told a.self a.part.now a.at c.read_on-taken.result _ c.read_on-taken.ensures c.in-Held.is

pub returns-in-TooLong : goal.returns-in-TooLong
returns-in-TooLong c =
    let a = c.args in
    c.skipped.ensures ∙ found_told a.self a.part.now a.at c.read_on-taken.result found.TooLong c.read_on-taken.ensures c.in-TooLong.is
