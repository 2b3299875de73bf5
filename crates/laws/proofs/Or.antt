-- Laws of or that the prover's library lacks: its order is free, and a bit that is set stays set.
-- Assumes nothing.
use mathlib.Core.List.{List, [], ◌∷◌}
use mathlib.Core.Path.{◌≡◌, refl, sym, ◌∙◌, ap}
use Prim.Native.Nat.{ℕ, zero, suc, ◌/◌, ◌%◌, ◌^◌, max}
use native.Mathlib.Nat.{mod-lt, div_self}
use lib.Bits.{bit_or, or_step, or_shr, or_mod, or_comm}
use lib.Dec.{lit<}
use lib.ListN.{get_or, set}
use lib.Pow.{pow_pos}
use Rattle.laws.proofs.Bitwise.{by_bit, by_bits, by_three, bitwise_assoc}

pub or_assoc : (a b c : ℕ) → bit_or (bit_or a b) c ≡ bit_or a (bit_or b c)
or_assoc =
    bitwise_assoc bit_or max or_step (λ a b. or_shr a b 1) (λ a b. or_mod a b 1) (λ b c. refl)
    (by_three (λ p q r. max (bit_or p q) r ≡ max p (bit_or q r))
    (by_bits (λ q r. max (bit_or 0 q) r ≡ max 0 (bit_or q r)) refl refl refl refl)
    (by_bits (λ q r. max (bit_or 1 q) r ≡ max 1 (bit_or q r)) refl refl refl refl))

-- which of two comes first is free
pub or_right_comm : (a b c : ℕ) → bit_or (bit_or a b) c ≡ bit_or (bit_or a c) b
or_right_comm a b c = or_assoc a b c ∙ ap (bit_or a) (or_comm b c) ∙ sym (or_assoc a c b)

-- bit k of a number
abbrev bit : ℕ → ℕ → ℕ
bit x k = x / 2 ^ k % 2

or_bit : (a b k : ℕ) → bit (bit_or a b) k ≡ bit_or (bit a k) (bit b k)
or_bit a b k = rw (or_shr a b k, or_mod (a / 2 ^ k) (b / 2 ^ k) 1)

-- a bit that is set stays set
pub or_keeps_bit : (a b k : ℕ) → bit a k ≡ 1 → bit (bit_or a b) k ≡ 1
or_keeps_bit a b k e =
    or_bit a b k ∙ rw e (by_bit (λ n. bit_or 1 n ≡ 1) refl refl (bit b k) (mod-lt (b / 2 ^ k) (lit< tt)))

-- the power's own bit is set
pub or_sets_bit : (a k : ℕ) → bit (bit_or a (2 ^ k)) k ≡ 1
or_sets_bit a k =
    or_bit a (2 ^ k) k
    ∙ rw (div_self (pow_pos k)) (by_bit (λ n. bit_or n 1 ≡ 1) refl refl (bit a k) (mod-lt (a / 2 ^ k) (lit< tt)))

-- the same in a list of numbers: v is joined to the one at i
pub set_or_keeps_bit : (l : List ℕ) (i j v k : ℕ) → bit (get_or l j 0) k ≡ 1 → bit
    (get_or (set l i (bit_or (get_or l i 0) v)) j 0) k ≡ 1
set_or_keeps_bit [] i j v k h = h
set_or_keeps_bit (x ∷ xs) zero zero v k h = or_keeps_bit x v k h
set_or_keeps_bit (x ∷ xs) zero (suc j) v k h = h
set_or_keeps_bit (x ∷ xs) (suc i) zero v k h = h
set_or_keeps_bit (x ∷ xs) (suc i) (suc j) v k h = set_or_keeps_bit xs i j v k h

pub set_or_comm : (l : List ℕ) (i j v w : ℕ)
    → set (set l i (bit_or (get_or l i 0) v)) j (bit_or (get_or (set l i (bit_or (get_or l i 0) v)) j 0) w)
    ≡ set (set l j (bit_or (get_or l j 0) w)) i (bit_or (get_or (set l j (bit_or (get_or l j 0) w)) i 0) v)
set_or_comm [] i j v w = refl
set_or_comm (x ∷ xs) zero zero v w = ap (λ (y : ℕ). y ∷ xs) (or_right_comm x v w)
set_or_comm (x ∷ xs) zero (suc j) v w = refl
set_or_comm (x ∷ xs) (suc i) zero v w = refl
set_or_comm (x ∷ xs) (suc i) (suc j) v w = ap (λ (l : List ℕ). x ∷ l) (set_or_comm xs i j v w)
