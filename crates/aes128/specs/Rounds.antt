-- FIPS 197 §5.1 and §5.3: the steps of a round, and their inverses.
-- Assumes nothing.
use Rattle.std.specs.Prelude.{List, [], ◌∷◌, ℕ, ◌+◌, ◌-◌, ◌%◌, get_or}
use Rattle.aes128.specs.Field.{◌⊕◌, ◌•◌}
use Rattle.aes128.specs.SBox.{s_box, inv_s_box}
use Rattle.aes128.specs.State.{at, state}

-- §5.1.1, SUBBYTES: SBOX at each byte
unfoldable pub sub_bytes : List ℕ → List ℕ
sub_bytes s = state (λ r c. s_box (at s r c))

-- §5.1.2, SHIFTROWS: s'[r, c] = s[r, (c + r) mod 4]
abbrev pub shift_rows : List ℕ → List ℕ
shift_rows s = state (λ r c. at s r ((c + r) % 4))

-- the products of a row's coefficients and a column's bytes, added
abbrev pub times : List ℕ → (ℕ → ℕ) → ℕ
times m x = get_or m 0 0 • x 0 ⊕ get_or m 1 0 • x 1 ⊕ get_or m 2 0 • x 2 ⊕ get_or m 3 0 • x 3

-- §4.3: each column of the state, multiplied by a matrix
unfoldable pub mix_by : List (List ℕ) → List ℕ → List ℕ
mix_by m s = state (λ r c. times (get_or m r []) (λ j. at s j c))

-- §5.1.3, MIXCOLUMNS
abbrev pub mix_matrix : List (List ℕ)
mix_matrix =
    (0x02 ∷ 0x03 ∷ 0x01 ∷ 0x01 ∷ []) ∷
    (0x01 ∷ 0x02 ∷ 0x03 ∷ 0x01 ∷ []) ∷
    (0x01 ∷ 0x01 ∷ 0x02 ∷ 0x03 ∷ []) ∷
    (0x03 ∷ 0x01 ∷ 0x01 ∷ 0x02 ∷ []) ∷ []

unfoldable pub mix_columns : List ℕ → List ℕ
mix_columns s = mix_by mix_matrix s

-- §5.1.4, ADDROUNDKEY: each byte, and the round key's byte in its place, added
unfoldable pub add_round_key : List ℕ → List ℕ → List ℕ
add_round_key s k = state (λ r c. at s r c ⊕ at k r c)

-- §5.3.1, INVSHIFTROWS: s'[r, c] = s[r, (c - r) mod 4]
abbrev pub inv_shift_rows : List ℕ → List ℕ
inv_shift_rows s = state (λ r c. at s r ((c + 4 - r) % 4))

-- §5.3.2, INVSUBBYTES: INVSBOX at each byte
unfoldable pub inv_sub_bytes : List ℕ → List ℕ
inv_sub_bytes s = state (λ r c. inv_s_box (at s r c))

-- §5.3.3, INVMIXCOLUMNS
abbrev pub inv_mix_matrix : List (List ℕ)
inv_mix_matrix =
    (0x0e ∷ 0x0b ∷ 0x0d ∷ 0x09 ∷ []) ∷
    (0x09 ∷ 0x0e ∷ 0x0b ∷ 0x0d ∷ []) ∷
    (0x0d ∷ 0x09 ∷ 0x0e ∷ 0x0b ∷ []) ∷
    (0x0b ∷ 0x0d ∷ 0x09 ∷ 0x0e ∷ []) ∷ []

unfoldable pub inv_mix_columns : List ℕ → List ℕ
inv_mix_columns s = mix_by inv_mix_matrix s
