-- Each byte is looked up.
-- Assumes nothing.
use borrow.Author.Rules.{rules}
use Rattle.aes128.proofs.Lookups.{substituted_made}
use Rattle.aes128.proofs.Words.{join_bytes}
use Rattle.aes128.proofs.word.substitute.Goals as goal

pub returns : goal.returns
returns g c =
    let given = c.args in
    substituted_made g.B.SubstitutionBox.image given.w given.x given.y given.z c.to_be_bytes.ensures c.to_be_bytes-2.ensures
    c.to_be_bytes-3.ensures c.to_be_bytes-4.ensures c.look_up.ensures c.look_up-2.ensures c.look_up-3.ensures c.look_up-4.ensures
    (join_bytes _ _ _ _ (search rules) (search rules) (search rules) (search rules) c.from_be_bytes.ensures)
