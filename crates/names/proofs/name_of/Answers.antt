-- The text is copied to the front of zeros.
use mathlib.Core.List.{[]}
use mathlib.Core.Path.{refl, ◌∙◌}
use Rattle.laws.proofs.Padded.{paste_padded}
use Rattle.names.proofs.name_of.Goals as goal

pub returns : goal.returns
returns c =
    rw (c.copy.ensures ∙ paste_padded 64 0 [] c.args.text.now 0 refl)
