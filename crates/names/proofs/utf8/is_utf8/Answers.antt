-- No byte is left.
use Rattle.names.proofs.Continues.{continues_all}
use Rattle.names.proofs.utf8.is_utf8.Goals as goal

pub returns : goal.returns
returns c =
    continues_all c.args.text.now c.loop-byte.byte-index c.loop-byte.expected c.loop-byte.invariant c.loop-byte-test.false
