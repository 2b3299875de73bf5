-- The key is copied to the front of zeros.
use Rattle.std.proofs.Common.{[], refl, ◌∙◌}
use Rattle.laws.proofs.Padded.{paste_padded}
use Rattle.vectors.proofs.hmac.filled.Goals as goal

pub returns : goal.returns
returns c =
    c.copy.ensures ∙ paste_padded 64 0 [] c.args.key.now 0 refl
