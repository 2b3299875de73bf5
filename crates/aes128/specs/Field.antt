-- FIPS 197 §4: a byte is an element of GF(2^8), and its bit i the coefficient of x^i. The signs ⊕ and • are the standard's.
-- Assumes nothing.
use Rattle.std.specs.Prelude.{ℕ, zero, suc, ◌*◌, ◌/◌, ◌%◌, ◌^◌}
use Rattle.std.specs.Int.Bits.{bit_xor}

infixl 60 ◌⊕◌
infixl 70 ◌•◌
-- §4.1, addition: "performed with the XOR operation"
abbrev pub ◌⊕◌ : ℕ → ℕ → ℕ
◌⊕◌ = bit_xor

-- bit i of b
abbrev pub bit : ℕ → ℕ → ℕ
bit b i = b / 2 ^ i % 2

-- b added to the sum, if the bit is set
abbrev pub plus_if : ℕ → ℕ → ℕ → ℕ
plus_if zero b sum = sum
plus_if (suc bit) b sum = sum ⊕ b

-- §4.2, XTIMES: shifted left by one, and xor with {1b} if b7 = 1
unfoldable pub x_times : ℕ → ℕ
x_times b = plus_if (bit b 7) 0x1b (b * 2 % 256)

-- the sum of b, x·b, x²·b, .., one for each of the n lowest bits that is set in c
unfoldable pub product : ℕ → ℕ → ℕ → ℕ
product zero c b = 0
product (suc n) c b = plus_if (c % 2) b (product n (c / 2) (x_times b))

-- §4.2, multiplication: "by repeated application of XTIMES", and adding
unfoldable pub ◌•◌ : ℕ → ℕ → ℕ
unfolding product
c • b = product 8 c b
