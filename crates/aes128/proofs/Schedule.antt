-- The round keys, four words at a time, are the standard's words w[i]; and they are bytes if the key is.
-- Assumes nothing.
use mathlib.Core.Path.{◌≡◌}
use mathlib.Core.List.{List, [], ◌∷◌}
use Prim.Native.Nat.{ℕ, zero, suc, ◌+◌, ◌*◌, ◌-◌, ◌/◌, ◌%◌, ◌<◌}
use native.Mathlib.Omega.{arith}
use lib.Dec.{lit<}
use lib.ListN.{get_or}
use lib.Bits.{xor_lt}
use Rattle.laws.proofs.Filled.{tabulate_all}
use Rattle.aes128.specs.Field.{◌⊕◌}
use Rattle.aes128.specs.SBox.{s_box}
use Rattle.aes128.specs.State.{column_of, columns}
use Rattle.aes128.specs.KeyExpansion.{rot_word, sub_word, xor_word, x_power, rcon, temp, word, round_key}
use Rattle.aes128.specs.Steps.{next_round_key}
use Rattle.aes128.proofs.Field.{x_times_lt}
use Rattle.aes128.proofs.SBox.{s_box_lt}
use Rattle.aes128.proofs.State.{state_lt}

word_step : (key : List ℕ) (i h k m j : ℕ) → h ≡ suc (suc (suc i)) → k ≡ suc h → (4 + i) % 4 ≡ m → (4 + i) / 4 ≡ j
    → word key k ≡ xor_word (word key i) (temp m j (word key h))
unfolding word
word_step key i h k m j p q r s = rw (q, p) (rw (r, s))

next_round_key_columns : (w x y z a b c d e : List ℕ) → a ≡ xor_word w (xor_word (sub_word (rot_word z)) e)
    → b ≡ xor_word x a → c ≡ xor_word y b → d ≡ xor_word z c → columns a b c d ≡ next_round_key (columns w x y z) e
unfolding next_round_key
next_round_key_columns w x y z a b c d e p q r s = rw (s, r, q, p)

-- each round key follows from the one before
pub round_key_next : (key : List ℕ) (n : ℕ) → round_key key (suc n) ≡ next_round_key (round_key key n) (rcon (suc n))
unfolding round_key
round_key_next key n =
    next_round_key_columns (word key (4 * n)) (word key (4 * n + 1)) (word key (4 * n + 2)) (word key (4 * n + 3))
    (word key (4 * suc n)) (word key (4 * suc n + 1)) (word key (4 * suc n + 2)) (word key (4 * suc n + 3))
    (rcon (suc n))
    (word_step key (4 * n) (4 * n + 3) (4 * suc n) 0 (suc n) (omega arith) (omega arith) (omega arith) (omega arith))
    (word_step key (4 * n + 1) (4 * suc n) (4 * suc n + 1) 1 (suc n) (omega arith) (omega arith) (omega arith) (omega arith))
    (word_step key (4 * n + 2) (4 * suc n + 1) (4 * suc n + 2) 2 (suc n) (omega arith) (omega arith) (omega arith)
    (omega arith))
    (word_step key (4 * n + 3) (4 * suc n + 2) (4 * suc n + 3) 3 (suc n) (omega arith) (omega arith) (omega arith)
    (omega arith))

-- a list of bytes
abbrev pub Bytes : List ℕ → Type 0
Bytes l = (i : ℕ) → get_or l i 0 < 256

xor_word_lt : (a b : List ℕ) → Bytes a → Bytes b → Bytes (xor_word a b)
xor_word_lt a b p q =
    tabulate_all (λ x. x < 256) 4 (λ i. get_or a i 0 ⊕ get_or b i 0) 0 (lit< tt)
    (λ i. xor_lt 8 (get_or a i 0) (get_or b i 0) (p i) (q i))

sub_rot_lt : (a : List ℕ) → Bytes a → Bytes (sub_word (rot_word a))
sub_rot_lt a p =
    tabulate_all (λ x. x < 256) 4 (λ i. s_box (get_or (rot_word a) i 0)) 0 (lit< tt)
    (λ i. s_box_lt (get_or (rot_word a) i 0) (rotated i))
  where
    rotated : Bytes (rot_word a)
    rotated = tabulate_all (λ x. x < 256) 4 (λ i. get_or a ((i + 1) % 4) 0) 0 (lit< tt) (λ i. p ((i + 1) % 4))

x_power_lt : (n : ℕ) → x_power n < 256
unfolding x_power
x_power_lt zero = lit< tt
x_power_lt (suc n) = x_times_lt (x_power n)

rcon_lt : (j : ℕ) → Bytes (rcon j)
rcon_lt j zero = x_power_lt (j - 1)
rcon_lt j (suc zero) = lit< tt
rcon_lt j (suc (suc zero)) = lit< tt
rcon_lt j (suc (suc (suc i))) = tabulate_all (λ x. x < 256) 1 (λ i. 0) 0 (lit< tt) (λ i. lit< tt) i

temp_lt : (m j : ℕ) (t : List ℕ) → Bytes t → Bytes (temp m j t)
temp_lt zero j t p = xor_word_lt (sub_word (rot_word t)) (rcon j) (sub_rot_lt t p) (rcon_lt j)
temp_lt (suc m) j t p = p

column_lt : (s : List ℕ) (c : ℕ) → Bytes s → Bytes (column_of s c)
column_lt s c p = tabulate_all (λ x. x < 256) 4 (λ r. get_or s (r + 4 * c) 0) 0 (lit< tt) (λ r. p (r + 4 * c))

word_lt : (key : List ℕ) → Bytes key → (i : ℕ) → Bytes (word key i)
unfolding word
word_lt key p zero = column_lt key 0 p
word_lt key p (suc zero) = column_lt key 1 p
word_lt key p (suc (suc zero)) = column_lt key 2 p
word_lt key p (suc (suc (suc zero))) = column_lt key 3 p
word_lt key p (suc (suc (suc (suc i)))) =
    xor_word_lt (word key i) (temp ((4 + i) % 4) ((4 + i) / 4) (word key (suc (suc (suc i))))) (word_lt key p i)
    (temp_lt ((4 + i) % 4) ((4 + i) / 4) (word key (suc (suc (suc i)))) (word_lt key p (suc (suc (suc i)))))

columns_lt : (w x y z : List ℕ) → Bytes w → Bytes x → Bytes y → Bytes z → Bytes (columns w x y z)
columns_lt w x y z p q r s = state_lt (λ r c. get_or (get_or (w ∷ x ∷ y ∷ z ∷ []) c []) r 0) go
  where
    go : (i c : ℕ) → get_or (get_or (w ∷ x ∷ y ∷ z ∷ []) c []) i 0 < 256
    go i zero = p i
    go i (suc zero) = q i
    go i (suc (suc zero)) = r i
    go i (suc (suc (suc zero))) = s i
    go i (suc (suc (suc (suc c)))) = lit< tt

pub round_key_lt : (key : List ℕ) → Bytes key → (n : ℕ) → Bytes (round_key key n)
unfolding round_key
round_key_lt key p n =
    columns_lt (word key (4 * n)) (word key (4 * n + 1)) (word key (4 * n + 2)) (word key (4 * n + 3))
    (word_lt key p (4 * n)) (word_lt key p (4 * n + 1)) (word_lt key p (4 * n + 2)) (word_lt key p (4 * n + 3))
