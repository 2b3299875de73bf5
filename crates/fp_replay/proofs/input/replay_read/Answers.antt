-- At the end, after an error and after an interruption nothing was read, and an empty part keeps the stream and the output.
use mathlib.Core.List.{[]}
use mathlib.Core.Path.{◌≡◌, refl, ap, sym, ◌∙◌}
use lib.ListN.{take}
use Rattle.fp_replay.proofs.Turns.{nothing_fed}
use Rattle.fp_replay.proofs.input.replay_read.Goals as goal
use Rattle.fp_replay.specs.Reading.{part_read}

pub returns-in-Ok-eq0-clause-fed : goal.returns-in-Ok-eq0-clause-fed
returns-in-Ok-eq0-clause-fed c =
    let a = c.args in
    let none : part_read a.read a.input.now ≡ [] =
    rw c.in-Ok-eq0.is (ap (λ n. take n a.input.now) (sym c.in-Ok-eq0.field-0-is ∙ c.in-Ok-eq0.field-0-test)) in
    nothing_fed a.stream.now a.out.now c.requires.ready.0 none

pub returns-in-Err-clause-fed : goal.returns-in-Err-clause-fed
returns-in-Err-clause-fed c =
    let a = c.args in
    let none : part_read a.read a.input.now ≡ [] = rw c.in-Err.is refl in
    nothing_fed a.stream.now a.out.now c.requires.ready.0 none

pub returns-in-Err-2-clause-fed : goal.returns-in-Err-2-clause-fed
returns-in-Err-2-clause-fed c =
    let a = c.args in
    let none : part_read a.read a.input.now ≡ [] = rw c.in-Err-2.is refl in
    nothing_fed a.stream.now a.out.now c.requires.ready.0 none
