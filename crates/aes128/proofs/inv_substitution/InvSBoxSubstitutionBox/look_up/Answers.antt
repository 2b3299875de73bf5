-- The table has INVSBOX at each byte.
-- Assumes nothing.
use borrow.Author.Rules.{rules}
use Rattle.aes128.specs.SBox.{inv_s_box}
use Rattle.aes128.specs.Tables.{inv_s_box_table}
use Rattle.aes128.proofs.Lookups.{by-table}
use Rattle.aes128.proofs.SBox.{follow_the_rule}
use Rattle.aes128.proofs.inv_substitution.InvSBoxSubstitutionBox.look_up.Goals as goal

pub returns : goal.returns
returns c =
    let given = c.args in
    by-table inv_s_box_table inv_s_box follow_the_rule.second given.self.table.now given.self.entries given.byte (search rules)
