-- Column by column.
-- Assumes nothing.
use lib.Dec.{lit<}
use Rattle.aes128.specs.Rounds.{inv_mix_matrix, inv_mix_columns}
use Rattle.aes128.proofs.Blocks.{mix_by_made}
use Rattle.aes128.proofs.columns.inv_mix_columns.Goals as goal

pub returns : goal.returns
unfolding inv_mix_columns
returns c =
    let each = c.map.ensures.items.at in
    mix_by_made inv_mix_matrix c.args.s _ (each 0 0 0 (lit< tt)).2.met (each 1 0 0 (lit< tt)).2.met
    (each 2 0 0 (lit< tt)).2.met (each 3 0 0 (lit< tt)).2.met
