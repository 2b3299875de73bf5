-- A rotation by eight bits.
-- Assumes nothing.
use mathlib.Core.Path.{◌∙◌, ap}
use Rattle.laws.specs.BigEndian.{bytes}
use Rattle.aes128.proofs.Words.{rot_bytes}
use borrow.Author.Rules.{rules}
use Rattle.aes128.proofs.word.rot_word.Goals as goal

pub returns : goal.returns
returns c = ap (bytes 4) c.rotate_left.ensures ∙ rot_bytes c.args.w (search rules)
