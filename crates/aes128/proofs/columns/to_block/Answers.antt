-- The bytes of each word.
-- Assumes nothing.
use borrow.Author.Rules.{rules}
use Rattle.aes128.specs.Words.{block_of}
use Rattle.aes128.proofs.columns.to_block.Goals as goal

pub returns : goal.returns
unfolding block_of
returns c = search rules
