-- Lists of bytes: when two are the same, and a part of one from a place.
-- Assumes nothing.
use Rattle.std.specs.Prelude.{Bool, true, false, List, [], ◌∷◌, ℕ, eqb, take, drop}
use Rattle.laws.specs.Choice.{◌and◌}

-- two byte strings are equal if their lengths and bytes are
abbrev pub same : List ℕ → List ℕ → Bool
same [] [] = true
same [] (y ∷ ys) = false
same (x ∷ xs) [] = false
same (x ∷ xs) (y ∷ ys) = eqb x y and same xs ys

-- the n bytes from a place on
abbrev pub part : ℕ → ℕ → List ℕ → List ℕ
part n at l = take n (drop at l)
