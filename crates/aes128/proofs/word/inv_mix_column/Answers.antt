-- The first factor of the matrix, and then MIXCOLUMNS.
-- Assumes nothing.
use Rattle.aes128.proofs.Mixing.{inv_mix_made}
use Rattle.aes128.proofs.word.inv_mix_column.Goals as goal

pub returns : goal.returns
returns c =
    inv_mix_made c.args.w c.rot_word.result c.rot_word-2.result c.double_word.result
    c.double_word-2.result c.mix_column.result c.rot_word.ensures c.rot_word-2.ensures
    c.double_word.ensures c.double_word-2.ensures c.mix_column.ensures
