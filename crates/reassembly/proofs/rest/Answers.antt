-- The rest of the part is put behind nothing.
use mathlib.Core.Path.{◌∙◌}
use Rattle.laws.proofs.Lists.{take_drop_rest}
use Rattle.reassembly.specs.Parts.{longer}
use Rattle.reassembly.proofs.rest.Goals as goal

pub returns : goal.returns
returns c =
    let a = c.args in
    c.with.ensures ∙ (λ i. longer (c.skipping.ensures i) (take_drop_rest a.at a.part.now i))
