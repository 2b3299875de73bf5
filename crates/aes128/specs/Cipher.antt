-- FIPS 197 §5.1 and §5.3 for AES-128, where Nr = 10. The key schedule w is a list of round keys, of four words each.
-- Assumes nothing.
use Rattle.std.specs.Prelude.{List, [], ℕ, zero, suc, get_or}
use Rattle.laws.specs.Tabulate.{tabulate}
use Rattle.aes128.specs.KeyExpansion.{round_key}
use Rattle.aes128.specs.Rounds.{sub_bytes, shift_rows, mix_columns, add_round_key}
use Rattle.aes128.specs.Rounds.{inv_sub_bytes, inv_shift_rows, inv_mix_columns}

-- §5.2, KEYEXPANSION: the words w[0] to w[43]
abbrev pub key_expansion : List ℕ → List (List ℕ)
key_expansion key = tabulate 11 (round_key key)

-- the state s after the rounds 1 to n
unfoldable pub rounds : List (List ℕ) → List ℕ → ℕ → List ℕ
rounds w s zero = s
rounds w s (suc n) = add_round_key (mix_columns (shift_rows (sub_bytes (rounds w s n)))) (get_or w (suc n) [])

-- §5.1, CIPHER: nine rounds, and a last one with no MIXCOLUMNS
unfoldable pub cipher_by : List (List ℕ) → List ℕ → List ℕ
cipher_by w block =
    add_round_key (shift_rows (sub_bytes (rounds w (add_round_key block (get_or w 0 [])) 9))) (get_or w 10 [])

-- the state s after the rounds n down to 1 of INVCIPHER
unfoldable pub inv_rounds : List (List ℕ) → ℕ → List ℕ → List ℕ
inv_rounds w zero s = s
inv_rounds w (suc n) s = inv_rounds w n (inv_mix_columns (add_round_key (inv_sub_bytes (inv_shift_rows s)) (get_or w (suc n) [])))

-- §5.3, INVCIPHER
unfoldable pub inv_cipher_by : List (List ℕ) → List ℕ → List ℕ
inv_cipher_by w block =
    add_round_key (inv_sub_bytes (inv_shift_rows (inv_rounds w 9 (add_round_key block (get_or w 10 []))))) (get_or w 0 [])

-- "AES-128(in, key) = CIPHER(in, 10, KEYEXPANSION(key))", and its inverse
unfoldable pub cipher : List ℕ → List ℕ → List ℕ
cipher key block = cipher_by (key_expansion key) block

unfoldable pub inv_cipher : List ℕ → List ℕ → List ℕ
inv_cipher key block = inv_cipher_by (key_expansion key) block
