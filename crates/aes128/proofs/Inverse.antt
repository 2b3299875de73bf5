-- Decryption undoes encryption: each step of INVCIPHER undoes one of CIPHER, from the last round back to the first.
-- Assumes nothing.
use mathlib.Core.Path.{◌≡◌, refl, ◌∙◌, ap}
use mathlib.Core.List.{List, []}
use Prim.Native.Nat.{ℕ, zero, suc, ◌+◌, ◌*◌, ◌%◌, ◌<◌}
use lib.Dec.{lit<}
use lib.ListN.{length, get_or}
use lib.Bits.{xor_lt}
use Rattle.laws.proofs.Filled.{tabulate_all}
use Rattle.laws.proofs.Xor.{xor_cancel}
use Rattle.aes128.specs.Cipher.{key_expansion, rounds, cipher_by, cipher, inv_rounds, inv_cipher_by, inv_cipher}
use Rattle.aes128.specs.Field.{◌⊕◌, ◌•◌}
use Rattle.aes128.specs.Inverse.{Block, Undoes}
use Rattle.aes128.specs.KeyExpansion.{round_key}
use Rattle.aes128.specs.Rounds.{times, mix_matrix, mix_by, sub_bytes, shift_rows, mix_columns, add_round_key}
use Rattle.aes128.specs.Rounds.{inv_sub_bytes, inv_shift_rows, inv_mix_columns}
use Rattle.aes128.specs.SBox.{s_box, inv_s_box}
use Rattle.aes128.specs.State.{at}
use Rattle.aes128.proofs.Field.{mul_lt}
use Rattle.aes128.proofs.Matrix.{inv_mix_columns_mix_columns}
use Rattle.aes128.proofs.SBox.{s_box_lt, inv_s_box_s_box}
use Rattle.aes128.proofs.Schedule.{Bytes, round_key_lt}
use Rattle.aes128.proofs.State.{state_ext, at_state, state_at, state_lt}

-- ---- each step gives a block

add_round_key_block : {s : List ℕ} (k : List ℕ) → Block s → Bytes k → Block (add_round_key s k)
unfolding add_round_key
add_round_key_block {s} k p q =
    record {
      long = refl;
      bytes = state_lt (λ r c. at s r c ⊕ at k r c)
          (λ r c. xor_lt 8 (at s r c) (at k r c) (p.bytes (r + 4 * c)) (q (r + 4 * c)));
    }

sub_bytes_block : {s : List ℕ} → Block s → Block (sub_bytes s)
unfolding sub_bytes
sub_bytes_block {s} p =
    record { long = refl; bytes = state_lt (λ r c. s_box (at s r c)) (λ r c. s_box_lt (at s r c) (p.bytes (r + 4 * c))) }

shift_rows_block : {s : List ℕ} → Block s → Block (shift_rows s)
shift_rows_block {s} p =
    record { long = refl; bytes = state_lt (λ r c. at s r ((c + r) % 4)) (λ r c. p.bytes (r + 4 * ((c + r) % 4))) }

times_lt : (m : List ℕ) (x : ℕ → ℕ) → ((j : ℕ) → x j < 256) → times m x < 256
times_lt m x h =
    xor_lt 8 (get_or m 0 0 • x 0 ⊕ get_or m 1 0 • x 1 ⊕ get_or m 2 0 • x 2) (get_or m 3 0 • x 3)
    (xor_lt 8 (get_or m 0 0 • x 0 ⊕ get_or m 1 0 • x 1) (get_or m 2 0 • x 2)
    (xor_lt 8 (get_or m 0 0 • x 0) (get_or m 1 0 • x 1) (term 0) (term 1)) (term 2)) (term 3)
  where
    term : (j : ℕ) → get_or m j 0 • x j < 256
    term j = mul_lt (get_or m j 0) (x j) (h j)

mix_columns_block : {s : List ℕ} → Block s → Block (mix_columns s)
unfolding mix_columns mix_by
mix_columns_block {s} p =
    record {
      long = refl;
      bytes = state_lt (λ r c. times (get_or mix_matrix r []) (λ j. at s j c))
          (λ r c. times_lt (get_or mix_matrix r []) (λ j. at s j c) (λ j. p.bytes (j + 4 * c)));
    }

-- ---- each step is undone

add_round_key_twice : (s k : List ℕ) → length s ≡ 16 → add_round_key (add_round_key s k) k ≡ s
unfolding add_round_key
add_round_key_twice s k long =
    state_ext (λ r c. at (add_round_key s k) r c ⊕ at k r c) (at s)
    (λ r c hr hc. rw (at_state (λ r c. at s r c ⊕ at k r c) r c hr hc) (xor_cancel (at s r c) (at k r c)))
    ∙ state_at s long

inv_shift_rows_shift_rows : (s : List ℕ) → length s ≡ 16 → inv_shift_rows (shift_rows s) ≡ s
inv_shift_rows_shift_rows s long = state_at s long

inv_sub_bytes_sub_bytes : (s : List ℕ) → Block s → inv_sub_bytes (sub_bytes s) ≡ s
unfolding inv_sub_bytes sub_bytes
inv_sub_bytes_sub_bytes s p =
    state_ext (λ r c. inv_s_box (at (sub_bytes s) r c)) (at s)
    (λ r c hr hc. rw (at_state (λ r c. s_box (at s r c)) r c hr hc) (inv_s_box_s_box (at s r c) (p.bytes (r + 4 * c))))
    ∙ state_at s p.long

-- SHIFTROWS after SUBBYTES, as both directions pass between rounds
abbrev shift_sub : List ℕ → List ℕ
shift_sub s = shift_rows (sub_bytes s)

shift_sub_block : {s : List ℕ} → Block s → Block (shift_sub s)
shift_sub_block p = shift_rows_block (sub_bytes_block p)

shift_sub_back : (s : List ℕ) → Block s → inv_sub_bytes (inv_shift_rows (shift_sub s)) ≡ s
shift_sub_back s p = ap inv_sub_bytes (inv_shift_rows_shift_rows (sub_bytes s) (sub_bytes_block p).long) ∙ inv_sub_bytes_sub_bytes s p

module _ (w : List (List ℕ)) (block : List ℕ) (hw : (n : ℕ) → Bytes (get_or w n [])) (hb : Block block) where
  rounds-block : (n : ℕ) → Block (rounds w block n)
  unfolding rounds
  rounds-block zero = hb
  rounds-block (suc n) = add_round_key_block (get_or w (suc n) []) (mix_columns_block (shift_sub_block (rounds-block n)))
      (hw (suc n))

  addRoundKey-back : (n : ℕ) → add_round_key (rounds w block (suc n)) (get_or w (suc n) []) ≡ mix_columns
      (shift_sub (rounds w block n))
  unfolding rounds
  addRoundKey-back n =
      add_round_key_twice (mix_columns (shift_sub (rounds w block n))) (get_or w (suc n) [])
      (mix_columns_block (shift_sub_block (rounds-block n))).long

  round-back : (n : ℕ)
      → inv_mix_columns (add_round_key (inv_sub_bytes (inv_shift_rows (shift_sub (rounds w block (suc n))))) (get_or w (suc n) []))
      ≡ shift_sub (rounds w block n)
  round-back n =
      ap (λ s. inv_mix_columns (add_round_key s (get_or w (suc n) [])))
      (shift_sub_back (rounds w block (suc n)) (rounds-block (suc n)))
      ∙ ap inv_mix_columns (addRoundKey-back n)
      ∙ inv_mix_columns_mix_columns (shift_sub (rounds w block n)) (shift_sub_block (rounds-block n))

  rounds-back : (n : ℕ) → inv_rounds w n (shift_sub (rounds w block n)) ≡ shift_sub (rounds w block 0)
  unfolding inv_rounds
  rounds-back zero = refl
  rounds-back (suc n) = ap (inv_rounds w n) (round-back n) ∙ rounds-back n

-- for every key schedule
inv_cipher_by_cipher_by : (w : List (List ℕ)) (block : List ℕ) → ((n : ℕ) → Bytes (get_or w n [])) → Block block
    → inv_cipher_by w (cipher_by w block) ≡ block
unfolding inv_cipher_by cipher_by rounds
inv_cipher_by_cipher_by w block hw hb =
    ap (λ t. add_round_key (inv_sub_bytes (inv_shift_rows (inv_rounds w 9 t))) (get_or w 0 []))
    (add_round_key_twice (shift_sub (rounds w s 9)) (get_or w 10 []) (shift_sub_block (rounds-block w s hw hs 9)).long)
    ∙ ap (λ t. add_round_key (inv_sub_bytes (inv_shift_rows t)) (get_or w 0 [])) (rounds-back w s hw hs 9)
    ∙ ap (λ t. add_round_key t (get_or w 0 [])) (shift_sub_back s hs)
    ∙ add_round_key_twice block (get_or w 0 []) hb.long
  where
    s : List ℕ
    s = add_round_key block (get_or w 0 [])

    hs : Block s
    hs = add_round_key_block (get_or w 0 []) hb (hw 0)

-- For every key and block of 16 bytes, INVCIPHER gives back what CIPHER was given.
pub decrypt_undoes_encrypt : Undoes
unfolding cipher inv_cipher
decrypt_undoes_encrypt key block hk hb =
    inv_cipher_by_cipher_by (key_expansion key) block
    (tabulate_all Bytes 11 (round_key key) [] (λ i. lit< tt) (round_key_lt key hk.bytes)) hb
