-- Functions that keep exclusive or: two of them agree on all numbers of n bits if they agree on the n powers of two.
-- Assumes nothing.
use mathlib.Core.Path.{◌≡◌, sym, ◌∙◌}
use Prim.Native.Nat.{ℕ, zero, suc, ◌*◌, ◌/◌, ◌%◌, ◌^◌, ◌<◌}
use native.Mathlib.Nat.{mod-lt, zero-mul, one-mul, add_comm}
use native.Mathlib.Numerals.{add-one}
use native.Mathlib.Omega.{arith}
use lib.Arith.{lt-one}
use lib.Bits.{bit_xor, xor_self, xor_shifted}
use lib.Pow.{pow_pos, shr_lt, split}
use Rattle.laws.proofs.Bitwise.{by_bit}

pub record Additive (f : ℕ → ℕ) : Type 0 where
  pub adds : (a b : ℕ) → f (bit_xor a b) ≡ bit_xor (f a) (f b)

pub additive_zero : {f : ℕ → ℕ} → Additive f → f 0 ≡ 0
additive_zero {f} p = p.adds 0 0 ∙ xor_self (f 0)

pub additive_agree : {f g : ℕ → ℕ} → Additive f → Additive g
    → (n : ℕ) → ((k : ℕ) → k < n → f (2 ^ k) ≡ g (2 ^ k)) → (x : ℕ) → x < 2 ^ n → f x ≡ g x
additive_agree p q zero e x h = rw (lt-one h) (additive_zero p ∙ sym (additive_zero q))
additive_agree {f} {g} p q (suc n) e x h =
    rw (sym whole) (p.adds high low ∙ rw (
      top,
      additive_agree p q n (λ k l. e k (omega arith)) low
          (mod-lt x (pow_pos n)),
    ) (sym (q.adds high low)))
  where
    high : ℕ
    high = x / 2 ^ n * 2 ^ n

    low : ℕ
    low = x % 2 ^ n

    whole : bit_xor high low ≡ x
    whole = xor_shifted (x / 2 ^ n) n low (mod-lt x (pow_pos n)) ∙ split x n

    top : f high ≡ g high
    top =
        by_bit (λ b. f (b * 2 ^ n) ≡ g (b * 2 ^ n)) (rw zero-mul (additive_zero p ∙ sym (additive_zero q)))
        (rw one-mul (e n (omega arith))) (x / 2 ^ n) (shr_lt 1 n (rw (add_comm 1 n, add-one) h))
