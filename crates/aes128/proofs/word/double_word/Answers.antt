-- The law of doubling, over plain variables.
-- Assumes nothing.
use Rattle.aes128.proofs.Doubling.{double_bytes}
use Rattle.aes128.proofs.word.double_word.Goals as goal

pub returns : goal.returns
returns c = double_bytes c.args.w
