-- Each test is a case of what is held: nothing to read, bytes to skip, one byte of a length field, or more.
use mathlib.Core.Path.{◌∙◌}
use native.Mathlib.Omega.{arith}
use Rattle.reassembly.proofs.Cases.{nothing_read, skips_on}
use Rattle.reassembly.proofs.Held.{hold_filling, skip_open}
use Rattle.reassembly.proofs.Unfinished.read_on.Goals as goal

pub returns-then-part-at : goal.returns-then-part-at
returns-then-part-at c =
    let a = c.args in nothing_read a.self a.part.now a.at c.requires.0 c.if-part-at.true

pub returns-then-self-ne0 : goal.returns-then-self-ne0
returns-then-self-ne0 c =
    let a = c.args in
    let skips = skip_open c.requires.0 c.if-self-ne0.true in
    c.skip_on.ensures ∙ skips_on a.self a.part.now a.at skips.some (omega (arith, c.if-part-at.false))

pub fill-requires : goal.fill-requires
fill-requires c =
    (hold_filling c.requires.0 c.requires.1 c.if-self-ne0.false c.if-self-eq1.false c.size.ensures.0, omega (arith, c.if-part-at.false))
