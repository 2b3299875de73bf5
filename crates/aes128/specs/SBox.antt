-- FIPS 197 §5.1.1 and §5.3.2: the two substitutions of a byte.
-- Assumes nothing.
use Rattle.std.specs.Prelude.{cond, ℕ, zero, suc, ◌+◌, ◌*◌, ◌%◌, eqb}
use Rattle.aes128.specs.Field.{bit, ◌•◌}

-- b² · b⁴ · .. · b^(2^n)
unfoldable pub squares : ℕ → ℕ → ℕ
squares zero b = 1
squares (suc n) b = let s : ℕ = b • b in s • squares n s

-- §4.4: the multiplicative inverse of b is b^254, and {00} goes to itself
unfoldable pub inverse : ℕ → ℕ
inverse b = squares 7 b

-- §5.1.1: b'i = bi ⊕ b(i+4 mod 8) ⊕ b(i+5 mod 8) ⊕ b(i+6 mod 8) ⊕ b(i+7 mod 8) ⊕ ci, where c is {63}
unfoldable pub affine_bit : ℕ → ℕ → ℕ
affine_bit b i =
    (bit b i + bit b ((i + 4) % 8) + bit b ((i + 5) % 8) + bit b ((i + 6) % 8) + bit b ((i + 7) % 8) + bit 0x63 i) % 2

-- the number whose bits from i on, n of them, are those of f
unfoldable pub from_bits : (ℕ → ℕ) → ℕ → ℕ → ℕ
from_bits f zero i = 0
from_bits f (suc n) i = f i + 2 * from_bits f n (suc i)

-- §5.1.1: the affine transformation
unfoldable pub affine : ℕ → ℕ
affine b = from_bits (affine_bit b) 8 0

-- §5.1.1, SBOX: the multiplicative inverse, then the affine transformation
unfoldable pub s_box : ℕ → ℕ
s_box b = affine (inverse b)

-- the number below n that f takes to b; 0 if there is none
unfoldable pub preimage : (ℕ → ℕ) → ℕ → ℕ → ℕ
preimage f zero b = 0
preimage f (suc n) b = cond (eqb (f n) b) n (preimage f n b)

-- §5.3.2, INVSBOX: "the inverse of SBOX": the byte that SBOX takes to b
unfoldable pub inv_s_box : ℕ → ℕ
inv_s_box b = preimage s_box 256 b
