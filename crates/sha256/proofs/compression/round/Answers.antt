-- Each call gives the term of the definition.
use Rattle.sha256.specs.Compression.{round, T₂}
use Rattle.sha256.proofs.compression.round.Goals as goal

pub returns : goal.returns
unfolding round T₂
returns c = rw (c.maj.ensures, c.big_sigma0.ensures, c.temp1-t1.ensures)
