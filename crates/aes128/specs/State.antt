-- FIPS 197 §3.4: the state, four rows of four columns; in a block of 16 bytes, s[r, c] is byte r + 4c.
-- Assumes nothing.
use Rattle.std.specs.Prelude.{List, [], ◌∷◌, ℕ, ◌+◌, ◌*◌, ◌/◌, ◌%◌, get_or}
use Rattle.laws.specs.Tabulate.{tabulate}

-- s[r, c]
abbrev pub at : List ℕ → ℕ → ℕ → ℕ
at s r c = get_or s (r + 4 * c) 0

-- the state with f r c in row r, column c
abbrev pub state : (ℕ → ℕ → ℕ) → List ℕ
state f = tabulate 16 (λ i. f (i % 4) (i / 4))

-- the word that is column c
abbrev pub column_of : List ℕ → ℕ → List ℕ
column_of s c = tabulate 4 (λ r. at s r c)

-- the state of four columns
abbrev pub columns : List ℕ → List ℕ → List ℕ → List ℕ → List ℕ
columns w x y z = state (λ r c. get_or (get_or (w ∷ x ∷ y ∷ z ∷ []) c []) r 0)
