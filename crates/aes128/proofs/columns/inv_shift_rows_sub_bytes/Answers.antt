-- INVSBOX at each byte.
-- Assumes nothing.
use Rattle.aes128.specs.Rounds.{inv_sub_bytes}
use Rattle.aes128.specs.SBox.{inv_s_box}
use Rattle.aes128.proofs.Lookups.{shifted_back_by}
use Rattle.aes128.proofs.columns.inv_shift_rows_sub_bytes.Goals as goal

pub returns : goal.returns
unfolding inv_sub_bytes
returns c =
    shifted_back_by inv_s_box c.args.s _ c.substitute.ensures c.substitute-2.ensures c.substitute-3.ensures c.substitute-4.ensures
