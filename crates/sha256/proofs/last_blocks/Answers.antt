-- The stores leave the rest of the message, the bit "1", zeros and the length, and zeros behind them.
use Rattle.std.proofs.Common.{◌∙◌}
use Rattle.std.specs.Int.{w64}
use Rattle.laws.proofs.BigEndian.{be_bytes}
use Rattle.sha256.proofs.Laws.{last_blocks_lem}
use Rattle.sha256.proofs.last_blocks.Goals as goal

pub returns : goal.returns
returns c =
    last_blocks_lem c.args.rest.now c.args.n c.requires c.copy_from_slice.ensures.after
    (c.copy_from_slice-2.ensures.after ∙ c.to_be_bytes.ensures ∙ be_bytes w64 _) c.next_multiple_of-end.ensures.value
