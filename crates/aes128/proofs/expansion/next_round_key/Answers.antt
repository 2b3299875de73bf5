-- Each word is made as the definition says.
-- Assumes nothing.
use Rattle.aes128.proofs.RoundKeys.{next_round_key_made}
use Rattle.aes128.proofs.expansion.next_round_key.Goals as goal

pub returns : goal.returns
returns c =
    let given = c.args in
    next_round_key_made given.k given.rcon c.rot_word.result c.sub_word.result
    c.rot_word.ensures c.sub_word.ensures
