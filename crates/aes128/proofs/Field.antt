-- Multiplication in the field is additive, and its results are bytes.
-- Assumes nothing.
use mathlib.Core.Path.{◌≡◌, refl, sym, ◌∙◌, ap}
use Prim.Native.Nat.{ℕ, zero, suc, ◌*◌, ◌/◌, ◌%◌, ◌^◌, ◌<◌}
use native.Mathlib.Nat.{mod-lt, zero-mul, one-mul}
use lib.Dec.{lit<}
use lib.Bits.{xor_lt, xor_shr, xor_mod, xor_zero_r}
use Rattle.laws.proofs.Additive.{Additive}
use Rattle.laws.proofs.Bitwise.{by_bit, by_bits}
use Rattle.laws.proofs.Xor.{xor_exchange, xor_shl}
use Rattle.aes128.specs.Field.{◌⊕◌, ◌•◌, bit, x_times, plus_if, product}

shifted : (a b : ℕ) → (a ⊕ b) * 2 % 256 ≡ a * 2 % 256 ⊕ b * 2 % 256
shifted a b = ap (λ n. n % 256) (sym (xor_shl a b 1)) ∙ xor_mod (a * 2) (b * 2) 8

pub bit_lt : (b i : ℕ) → bit b i < 2
bit_lt b i = mod-lt (b / 2 ^ i) (lit< tt)

reduced : (a b : ℕ) → bit (a ⊕ b) 7 * 27 ≡ bit a 7 * 27 ⊕ bit b 7 * 27
reduced a b =
    rw (xor_shr a b 7, xor_mod (a / 2 ^ 7) (b / 2 ^ 7) 1)
    (by_bits (λ m n. (m ⊕ n) * 27 ≡ m * 27 ⊕ n * 27) refl refl refl refl (bit a 7) (bit b 7) (bit_lt a 7) (bit_lt b 7))

-- a bit is set or not, and adds as much as it is times b
plus_if_times : (d b sum : ℕ) → d < 2 → plus_if d b sum ≡ sum ⊕ d * b
plus_if_times d b sum =
    by_bit (λ d. plus_if d b sum ≡ sum ⊕ d * b) (rw zero-mul (sym (xor_zero_r sum))) (rw one-mul) d

pub x_times_is : (b : ℕ) → x_times b ≡ b * 2 % 256 ⊕ bit b 7 * 27
unfolding x_times
x_times_is b = plus_if_times (bit b 7) 27 (b * 2 % 256) (bit_lt b 7)

pub x_times_add : (a b : ℕ) → x_times (a ⊕ b) ≡ x_times a ⊕ x_times b
x_times_add a b =
    rw (x_times_is (a ⊕ b), x_times_is a, x_times_is b, shifted a b, reduced a b)
    (xor_exchange (a * 2 % 256) (b * 2 % 256) (bit a 7 * 27) (bit b 7 * 27))

plus_if_add : (d a b p q : ℕ) → plus_if d (a ⊕ b) (p ⊕ q) ≡ plus_if d a p ⊕ plus_if d b q
plus_if_add zero a b p q = refl
plus_if_add (suc d) a b p q = xor_exchange p q a b

product_add : (n c a b : ℕ) → product n c (a ⊕ b) ≡ product n c a ⊕ product n c b
unfolding product
product_add zero c a b = refl
product_add (suc n) c a b =
    rw (x_times_add, product_add n (c / 2) (x_times a) (x_times b))
    (plus_if_add (c % 2) a b (product n (c / 2) (x_times a)) (product n (c / 2) (x_times b)))

pub mul_additive : (c : ℕ) → Additive (λ b. c • b)
unfolding ◌•◌
mul_additive c = record { adds = product_add 8 c }

plus_if_lt : (d b p : ℕ) → b < 256 → p < 256 → plus_if d b p < 256
plus_if_lt zero b p h k = k
plus_if_lt (suc d) b p h k = xor_lt 8 p b k h

pub x_times_lt : (b : ℕ) → x_times b < 256
unfolding x_times
x_times_lt b = plus_if_lt (bit b 7) 27 (b * 2 % 256) (lit< tt) (mod-lt (b * 2) (lit< tt))

product_lt : (n c b : ℕ) → b < 256 → product n c b < 256
unfolding product
product_lt zero c b h = lit< tt
product_lt (suc n) c b h =
    plus_if_lt (c % 2) b (product n (c / 2) (x_times b)) h (product_lt n (c / 2) (x_times b) (x_times_lt b))

pub mul_lt : (c b : ℕ) → b < 256 → c • b < 256
unfolding ◌•◌
mul_lt c b h = product_lt 8 c b h
