-- Column by column.
-- Assumes nothing.
use Rattle.aes128.proofs.Blocks.{block_columns}
use borrow.Author.Rules.{rules}
use Rattle.aes128.proofs.columns.to_columns.Goals as goal

pub returns : goal.returns
returns c =
    block_columns _ c.args.b (search rules) c.column.ensures c.column-2.ensures
    c.column-3.ensures c.column-4.ensures
