-- Laws of exclusive or that the prover's library lacks: it is associative, so sums of it can be regrouped.
-- Assumes nothing.
use mathlib.Core.Path.{◌≡◌, refl, sym, ◌∙◌, ap}
use Prim.Native.Nat.{ℕ, ◌*◌, ◌^◌}
use native.Mathlib.Nat.{add-zero}
use lib.Bits.{bit_xor, differ, xor_step, xor_shr, xor_mod, xor_comm, xor_self, xor_zero_r, xor_block}
use lib.Pow.{pow_pos}
use Rattle.laws.proofs.Bitwise.{by_bits, by_three, bitwise_assoc}

pub xor_assoc : (a b c : ℕ) → bit_xor (bit_xor a b) c ≡ bit_xor a (bit_xor b c)
xor_assoc =
    bitwise_assoc bit_xor differ xor_step (λ a b. xor_shr a b 1) (λ a b. xor_mod a b 1) (λ b c. refl)
    (by_three (λ p q r. differ (bit_xor p q) r ≡ differ p (bit_xor q r))
    (by_bits (λ q r. differ (bit_xor 0 q) r ≡ differ 0 (bit_xor q r)) refl refl refl refl)
    (by_bits (λ q r. differ (bit_xor 1 q) r ≡ differ 1 (bit_xor q r)) refl refl refl refl))

pub xor_exchange : (a b c d : ℕ) → bit_xor (bit_xor a b) (bit_xor c d) ≡ bit_xor (bit_xor a c) (bit_xor b d)
xor_exchange a b c d =
    xor_assoc a b (bit_xor c d)
    ∙ ap (bit_xor a) (sym (xor_assoc b c d) ∙ ap (λ (x : ℕ). bit_xor x d) (xor_comm b c) ∙ xor_assoc c b d)
    ∙ sym (xor_assoc a c (bit_xor b d))

pub xor_cancel : (a b : ℕ) → bit_xor (bit_xor a b) b ≡ a
xor_cancel a b = xor_assoc a b b ∙ ap (bit_xor a) (xor_self b) ∙ xor_zero_r a

pub xor_shl : (a b k : ℕ) → bit_xor (a * 2 ^ k) (b * 2 ^ k) ≡ bit_xor a b * 2 ^ k
xor_shl a b k = simp add-zero at (xor_block k a b 0 0 (pow_pos k) (pow_pos k))

pub xor_assoc4 : (a b c d : ℕ) → bit_xor a (bit_xor b (bit_xor c d)) ≡ bit_xor (bit_xor (bit_xor a b) c) d
xor_assoc4 a b c d = sym (xor_assoc (bit_xor a b) c d ∙ xor_assoc a b (bit_xor c d))

-- the last of four comes first
pub xor_rotate4 : (a b c d : ℕ) → bit_xor (bit_xor (bit_xor a b) c) d ≡ bit_xor (bit_xor (bit_xor d a) b) c
xor_rotate4 a b c d =
    xor_comm (bit_xor (bit_xor a b) c) d
    ∙ sym (xor_assoc d (bit_xor a b) c)
    ∙ ap (λ (x : ℕ). bit_xor x c) (sym (xor_assoc d a b))
