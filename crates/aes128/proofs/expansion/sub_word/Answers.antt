-- SBOX at each byte.
-- Assumes nothing.
use Rattle.aes128.specs.Steps.{substituted}
use Rattle.aes128.proofs.expansion.sub_word.Goals as goal

pub returns : goal.returns
unfolding substituted
returns c = c.substitute.ensures
