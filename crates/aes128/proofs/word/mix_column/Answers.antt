-- The steps are those of the law.
-- Assumes nothing.
use Rattle.aes128.proofs.Mixing.{mix_made}
use Rattle.aes128.proofs.word.mix_column.Goals as goal

pub returns : goal.returns
returns c =
    mix_made c.args.w c.rot_word-next.result c.double_word.result c.rot_word.result
    c.rot_word-2.result c.rot_word-next.ensures c.double_word.ensures c.rot_word.ensures
    c.rot_word-2.ensures
