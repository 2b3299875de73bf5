-- The block is hashed first, and the message is what is left.
use Rattle.std.proofs.Common.{◌∙◌, rules}
use Rattle.sha256.proofs.Laws.{sha256_after}
use Rattle.sha256.proofs.digest_after.Goals as goal

pub returns : goal.returns
returns c =
    c.digest_rest.ensures
    ∙ sha256_after c.args.block c.args.msg.now (search rules)
    (rw (c.absorb-h.ensures, c.initial.ensures))
