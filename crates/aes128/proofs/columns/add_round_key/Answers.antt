-- Word by word.
-- Assumes nothing.
use Rattle.aes128.proofs.Blocks.{add_round_key_made}
use Rattle.aes128.proofs.columns.add_round_key.Goals as goal

pub returns : goal.returns
returns c =
    add_round_key_made c.args.s c.args.k
