-- Laws of operations that work bit by bit.
-- Assumes nothing.
use mathlib.Core.Path.{◌≡◌, sym, ◌∙◌}
use Prim.Native.Nat.{ℕ, zero, suc, ◌+◌, ◌*◌, ◌/◌, ◌%◌, ◌<◌}
use native.Mathlib.Nat.{mod-lt}
use native.Mathlib.Omega.{arith}
use lib.Arith.{bin_ind}
use lib.Dec.{lit<}

-- what holds of 0 and of 1 holds of a bit
pub by_bit : (P : ℕ → Type 0) → P 0 → P 1 → (n : ℕ) → n < 2 → P n
by_bit P z o zero h = z
by_bit P z o (suc zero) h = o
by_bit P z o (suc (suc n)) h = absurd (omega arith)

pub by_bits : (P : ℕ → ℕ → Type 0) → P 0 0 → P 0 1 → P 1 0 → P 1 1 → (m n : ℕ) → m < 2 → n < 2 → P m n
by_bits P zz zo oz oo m n hm hn = by_bit (λ m. P m n) (by_bit (P 0) zz zo n hn) (by_bit (P 1) oz oo n hn) m hm

pub by_three : (P : ℕ → ℕ → ℕ → Type 0) → ((m n : ℕ) → m < 2 → n < 2 → P 0 m n)
    → ((m n : ℕ) → m < 2 → n < 2 → P 1 m n) → (k m n : ℕ) → k < 2 → m < 2 → n < 2 → P k m n
by_three P z o k m n hk hm hn = by_bit (λ k. P k m n) (z m n hm hn) (o m n hm hn) k hk

-- an operation that is `bit` on each bit is associative if it is so on bits
pub bitwise_assoc : (op bit : ℕ → ℕ → ℕ) → ((a b : ℕ) → op a b ≡ op (a / 2) (b / 2) * 2 + bit (a % 2) (b % 2))
    → ((a b : ℕ) → op a b / 2 ≡ op (a / 2) (b / 2)) → ((a b : ℕ) → op a b % 2 ≡ op (a % 2) (b % 2))
    → ((b c : ℕ) → op (op 0 b) c ≡ op 0 (op b c))
    → ((p q r : ℕ) → p < 2 → q < 2 → r < 2 → bit (op p q) r ≡ bit p (op q r))
    → (a b c : ℕ) → op (op a b) c ≡ op a (op b c)
bitwise_assoc op bit step half low none bits a =
    bin_ind (λ (n : ℕ). (b c : ℕ) → op (op n b) c ≡ op n (op b c)) none
    (λ n ih b c.
    step (op n b) c
    ∙ rw (
      half n b,
      low n b,
      ih (b / 2) (c / 2),
      bits (n % 2) (b % 2) (c % 2) (mod-lt n (lit< tt))
          (mod-lt b (lit< tt)) (mod-lt c (lit< tt)),
      ← half b c,
      ← low b c,
    )
    (sym (step n (op b c)))) a
