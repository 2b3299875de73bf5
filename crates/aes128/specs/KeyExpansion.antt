-- FIPS 197 §5.2, KEYEXPANSION: the words w[0], w[1], .. that a key gives, each a list of four bytes.
-- Assumes nothing.
use Rattle.std.specs.Prelude.{List, [], ◌∷◌, ℕ, zero, suc, ◌+◌, ◌*◌, ◌-◌, ◌/◌, ◌%◌, get_or}
use Rattle.laws.specs.Tabulate.{tabulate}
use Rattle.aes128.specs.Field.{◌⊕◌, x_times}
use Rattle.aes128.specs.SBox.{s_box}
use Rattle.aes128.specs.State.{column_of, columns}

-- "ROTWORD([a0, a1, a2, a3]) = [a1, a2, a3, a0]"
abbrev pub rot_word : List ℕ → List ℕ
rot_word a = tabulate 4 (λ i. get_or a ((i + 1) % 4) 0)

-- "SUBWORD([a0, .., a3]) = [SBOX(a0), .., SBOX(a3)]"
abbrev pub sub_word : List ℕ → List ℕ
sub_word a = tabulate 4 (λ i. s_box (get_or a i 0))

abbrev pub xor_word : List ℕ → List ℕ → List ℕ
xor_word a b = tabulate 4 (λ i. get_or a i 0 ⊕ get_or b i 0)

-- x^n: {01}, {02}, {04}, ..
unfoldable pub x_power : ℕ → ℕ
x_power zero = 1
x_power (suc n) = x_times (x_power n)

-- "Rcon[j] = [x^(j-1), {00}, {00}, {00}]"
abbrev pub rcon : ℕ → List ℕ
rcon j = x_power (j - 1) ∷ 0 ∷ 0 ∷ 0 ∷ []

-- what is added to w[i - 4]: w[i - 1], which passes through ROTWORD, SUBWORD and Rcon[i / 4] where i mod 4 = 0
abbrev pub temp : ℕ → ℕ → List ℕ → List ℕ
temp zero j t = xor_word (sub_word (rot_word t)) (rcon j)
temp (suc m) j t = t

-- w[i]: the key's own words, then "w[i] = w[i - 4] ⊕ temp"
unfoldable pub word : List ℕ → ℕ → List ℕ
word key zero = column_of key 0
word key (suc zero) = column_of key 1
word key (suc (suc zero)) = column_of key 2
word key (suc (suc (suc zero))) = column_of key 3
word key (suc (suc (suc (suc i)))) =
    xor_word (word key i) (temp ((4 + i) % 4) ((4 + i) / 4) (word key (suc (suc (suc i)))))

-- §5.1.4: the words w[4n], .., w[4n + 3] of round n, as a state's columns
unfoldable pub round_key : List ℕ → ℕ → List ℕ
round_key key n = columns (word key (4 * n)) (word key (4 * n + 1)) (word key (4 * n + 2)) (word key (4 * n + 3))
