-- Tests joined.
-- Assumes nothing.
use Rattle.std.specs.Prelude.{Bool, true, false}

infixr 30 ◌and◌
infixr 25 ◌or◌
abbrev pub ◌and◌ : Bool → Bool → Bool
true and b = b
false and b = false

abbrev pub ◌or◌ : Bool → Bool → Bool
true or b = true
false or b = b
