-- The whole blocks and then the last blocks are the blocks of what is left and its padding.
use Rattle.std.proofs.Common.{ap, ◌∙◌}
use Rattle.sha256.specs.Hash.{joined}
use Rattle.sha256.specs.Steps.{last_blocks}
use Rattle.sha256.proofs.Laws.{digest_two_parts}
use Rattle.sha256.proofs.digest_rest.Goals as goal

pub returns : goal.returns
returns c =
    c.to_bytes.ensures ∙ ap joined c.absorb.ensures
    ∙ digest_two_parts c.args.rest.now c.args.n c.requires
    (c.last_blocks-last.ensures ∙ ap (λ l. last_blocks l c.args.n) (c.remainder.ensures ∙ c.chunks_exact.ensures.remainder))
    c.args.h c.absorb-s.ensures
