-- Bytes are held, or some are still to be skipped: either way something stands before the next part.
use borrow.Author.Tests.{ne_eqb}
use Rattle.reassembly.proofs.Held.{cut_holds, cut_skips}
use Rattle.reassembly.proofs.Unfinished.is_cut.Goals as goal

pub returns-then-self-ne0 : goal.returns-then-self-ne0
returns-then-self-ne0 c =
    rw (ne_eqb c.args.self.skip 0 c.if-self-ne0.true) (cut_skips c.args.self c.if-self-ne0.true)

pub returns-else-self-ne0 : goal.returns-else-self-ne0
returns-else-self-ne0 c =
    cut_holds c.args.self c.requires c.if-self-ne0.false
