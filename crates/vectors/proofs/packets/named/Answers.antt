-- What is read is valid.
use Rattle.std.proofs.Common.{◌≡◌, ℕ, List, sym}
use Rattle.std.specs.Prelude.{Option, Some, None, IfSome}
use Rattle.names.proofs.ValidNames.{reading_valid}
use Rattle.names.specs.Name.{reading, Valid}
use Rattle.names.specs.declared.Name.{Name}
use Rattle.vectors.proofs.packets.named.Goals as goal

read_valid : (text : List ℕ) (r : Option Name) → r ≡ reading text → IfSome r Valid
read_valid text None e = tt
read_valid text (Some n) e = reading_valid text (sym e)

pub returns-then-n-text-clause-valid : goal.returns-then-n-text-clause-valid
returns-then-n-text-clause-valid c = read_valid _ c.read.result c.read.ensures
