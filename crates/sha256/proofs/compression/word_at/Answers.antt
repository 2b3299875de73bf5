-- The number of the four bytes is the definition's.
use Rattle.std.proofs.Common.{◌∙◌}
use Rattle.laws.proofs.BigEndian.{be_number4}
use Rattle.sha256.specs.Padding.{word}
use Rattle.sha256.proofs.compression.word_at.Goals as goal

pub returns : goal.returns
unfolding word
returns c = c.from_be_bytes.ensures ∙ be_number4 _ _ _ _
