-- SBOX at each byte.
-- Assumes nothing.
use Rattle.aes128.specs.Rounds.{sub_bytes}
use Rattle.aes128.specs.SBox.{s_box}
use Rattle.aes128.proofs.Lookups.{shifted_by}
use Rattle.aes128.proofs.columns.sub_bytes_shift_rows.Goals as goal

pub returns : goal.returns
unfolding sub_bytes
returns c =
    shifted_by s_box c.args.s _ c.substitute.ensures c.substitute-2.ensures c.substitute-3.ensures c.substitute-4.ensures
