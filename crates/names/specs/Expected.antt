-- What is still to come of a character, as the code keeps it.
-- Assumes nothing.
use Rattle.std.specs.Prelude.{Bool, false, List, [], ◌∷◌, ℕ, zero, suc, replicate, Option, None, Some}
use Rattle.names.specs.Utf8.{Range, ◌to◌, tail}
use Rattle.names.specs.declared.utf8.Expected.{Expected}

-- `more` bytes: the first within r, and each other a tail
abbrev pub ranges_of : ℕ → Range → List Range
ranges_of zero r = []
ranges_of (suc n) r = r ∷ replicate n tail

abbrev pub to_come : Expected → List Range
to_come e = ranges_of e.more (e.low to e.high)

-- no character has the byte, or `rest` decides by what is still to come
abbrev pub decides : Option Expected → (List Range → Bool) → Bool
decides None rest = false
decides (Some e) rest = rest (to_come e)
