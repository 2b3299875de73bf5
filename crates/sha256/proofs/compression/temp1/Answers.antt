-- Each call gives the term of the definition.
use Rattle.sha256.specs.Compression.{T₁}
use Rattle.sha256.proofs.compression.temp1.Goals as goal

pub returns : goal.returns
unfolding T₁
returns c = rw (c.ch.ensures, c.big_sigma1.ensures)
