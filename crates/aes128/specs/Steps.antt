-- What the private functions of src/ return: parts of the standard's steps, in the shape that the code computes them. Words are lists
-- of their four bytes; `substituted` takes them as numbers.
-- Assumes nothing.
use Rattle.std.specs.Prelude.{List, [], ◌∷◌, ℕ, get_or}
use Rattle.laws.specs.BigEndian.{bytes}
use Rattle.laws.specs.Tabulate.{tabulate}
use Rattle.aes128.specs.Field.{x_times}
use Rattle.aes128.specs.KeyExpansion.{rot_word, sub_word, xor_word}
use Rattle.aes128.specs.Rounds.{times}
use Rattle.aes128.specs.State.{column_of, columns}

-- the values of f, SBOX or INVSBOX, at the first byte of w, the second of x, the third of y and the fourth of z
unfoldable pub substituted : (ℕ → ℕ) → ℕ → ℕ → ℕ → ℕ → List ℕ
substituted f w x y z =
    f (get_or (bytes 4 w) 0 0) ∷
    f (get_or (bytes 4 x) 1 0) ∷
    f (get_or (bytes 4 y) 2 0) ∷
    f (get_or (bytes 4 z) 3 0) ∷ []

-- each byte doubled
abbrev pub doubled : List ℕ → List ℕ
doubled w = tabulate 4 (λ r. x_times (get_or w r 0))

-- §4.3: a column multiplied by a matrix
unfoldable pub multiplied : List (List ℕ) → List ℕ → List ℕ
multiplied m w = tabulate 4 (λ r. times (get_or m r []) (λ j. get_or w j 0))

-- the round key after k, where x is the round's Rcon: proofs/Schedule.antt ties it to w[i]
unfoldable pub next_round_key : List ℕ → List ℕ → List ℕ
next_round_key k x =
    let a : List ℕ = xor_word (column_of k 0) (xor_word (sub_word (rot_word (column_of k 3))) x) in
    let b : List ℕ = xor_word (column_of k 1) a in
    let c : List ℕ = xor_word (column_of k 2) b in
    columns a b c (xor_word (column_of k 3) c)
