-- The rest of the text decides, by what is to come of the character that was begun.
use mathlib.Core.Path.{◌≡◌}
use lib.ListN.{drop}
use Rattle.names.specs.Expected.{to_come}
use Rattle.names.specs.Utf8.{continues, is_utf8}
use Rattle.names.proofs.utf8.is_utf8.Given as goal

abbrev pub invariant-loop-byte : goal.invariant-loop-byte
invariant-loop-byte l = continues (to_come l.expected) (drop l.byte-index l.text) ≡ is_utf8 l.text
