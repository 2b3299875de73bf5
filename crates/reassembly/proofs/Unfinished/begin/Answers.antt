-- Less than a length field, or less than it says: the rest is held, or counted if it says too much.
use mathlib.Core.Path.{◌∙◌}
use native.Mathlib.Omega.{arith}
use lib.ListN.{length-drop}
use Rattle.reassembly.proofs.Cases.{begin_long, begin_short, field_short}
use Rattle.reassembly.proofs.Unfinished.begin.Goals as goal

pub returns-then-left-lt2 : goal.returns-then-left-lt2
returns-then-left-lt2 c =
    let a = c.args in
    begin_short a.part.now a.at c.requires.0 (λ k. omega (arith, k, length-drop a.at a.part.now, c.if-left-lt2.true)) c.rest.ensures

pub returns-then-size-gt-LENGTH_MAX : goal.returns-then-size-gt-LENGTH_MAX
returns-then-size-gt-LENGTH_MAX c =
    let a = c.args in
    c.skipping.ensures
    ∙ begin_long a.part.now a.at c.requires.0 c.requires.1 c.size-size.ensures.0 c.if-left-lt2.false c.if-size-gt-LENGTH_MAX.true

pub returns : goal.returns
returns c =
    let a = c.args in
    begin_short a.part.now a.at c.requires.0 (field_short a.part.now a.at c.requires.0 c.size-size.ensures.0 c.if-size-gt-LENGTH_MAX.false) c.rest-2.ensures
