-- FIPS 180-4, §2.2.2, §3.2 and §4.1.2: operations on 32-bit words, and the six functions of SHA-256.
-- Assumes nothing.
use Rattle.std.specs.Prelude.{ℕ, ◌+◌, ◌-◌, ◌*◌, ◌/◌, ◌%◌, ◌^◌, bit_and, bit_or, bit_xor}

infixl 65 ◌⊞◌
-- §3.2 "The operation x + y is defined as .. z = (x + y) mod 2^w", at w = 32
abbrev pub ◌⊞◌ : ℕ → ℕ → ℕ
x ⊞ y = (x + y) % 2 ^ 32

-- §2.2.2 "Bitwise complement operation"
abbrev pub complement : ℕ → ℕ
complement x = (2 ^ 32 - 1) - x

-- §3.2 "SHR^n(x) = x >> n"
abbrev pub shr : ℕ → ℕ → ℕ
shr n x = x / 2 ^ n

-- §3.2 "ROTR^n(x) = (x >> n) ∨ (x << w - n)"
abbrev pub rotr : ℕ → ℕ → ℕ
rotr n x = bit_or (x / 2 ^ n) (x * 2 ^ (32 - n) % 2 ^ 32)

-- (4.2) "Ch(x, y, z) = (x ∧ y) ⊕ (¬x ∧ z)"
abbrev pub Ch : ℕ → ℕ → ℕ → ℕ
Ch x y z = bit_xor (bit_and x y) (bit_and (complement x) z)

-- (4.3) "Maj(x, y, z) = (x ∧ y) ⊕ (x ∧ z) ⊕ (y ∧ z)"
abbrev pub Maj : ℕ → ℕ → ℕ → ℕ
Maj x y z = bit_xor (bit_xor (bit_and x y) (bit_and x z)) (bit_and y z)

-- (4.4) "Σ0(x) = ROTR^2(x) ⊕ ROTR^13(x) ⊕ ROTR^22(x)"
abbrev pub Σ₀ : ℕ → ℕ
Σ₀ x = bit_xor (bit_xor (rotr 2 x) (rotr 13 x)) (rotr 22 x)

-- (4.5) "Σ1(x) = ROTR^6(x) ⊕ ROTR^11(x) ⊕ ROTR^25(x)"
abbrev pub Σ₁ : ℕ → ℕ
Σ₁ x = bit_xor (bit_xor (rotr 6 x) (rotr 11 x)) (rotr 25 x)

-- (4.6) "σ0(x) = ROTR^7(x) ⊕ ROTR^18(x) ⊕ SHR^3(x)"
abbrev pub σ₀ : ℕ → ℕ
σ₀ x = bit_xor (bit_xor (rotr 7 x) (rotr 18 x)) (shr 3 x)

-- (4.7) "σ1(x) = ROTR^17(x) ⊕ ROTR^19(x) ⊕ SHR^10(x)"
abbrev pub σ₁ : ℕ → ℕ
σ₁ x = bit_xor (bit_xor (rotr 17 x) (rotr 19 x)) (shr 10 x)
