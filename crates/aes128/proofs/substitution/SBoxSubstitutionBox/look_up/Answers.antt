-- The table has SBOX at each byte.
-- Assumes nothing.
use borrow.Author.Rules.{rules}
use Rattle.aes128.specs.SBox.{s_box}
use Rattle.aes128.specs.Tables.{s_box_table}
use Rattle.aes128.proofs.Lookups.{by-table}
use Rattle.aes128.proofs.SBox.{follow_the_rule}
use Rattle.aes128.proofs.substitution.SBoxSubstitutionBox.look_up.Goals as goal

pub returns : goal.returns
returns c =
    let given = c.args in
    by-table s_box_table s_box follow_the_rule.first given.self.table.now given.self.entries given.byte (search rules)
