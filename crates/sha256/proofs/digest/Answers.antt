-- Nothing is hashed before the message: all of it is left.
use Rattle.sha256.specs.Hash.{sha256}
use Rattle.sha256.specs.Padding.{pad}
use Rattle.sha256.proofs.digest.Goals as goal

pub returns : goal.returns
unfolding sha256 pad
returns c = rw (c.digest_rest.ensures, c.initial.ensures)
