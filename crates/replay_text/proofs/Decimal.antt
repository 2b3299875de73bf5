-- The fewest digits that hold a number of 64 bits are its decimal text.
-- Assumes nothing.
use mathlib.Core.List.{List}
use mathlib.Core.Path.{◌≡◌, ◌∙◌}
use Prim.Native.Nat.{ℕ, zero, suc, ◌-◌, ◌*◌, ◌/◌, ◌%◌, ◌^◌, ◌≤◌, ◌<◌}
use native.Mathlib.Nat.{not-suc-le-zero, one-le-pow, pow-le-pow_right, lt_of_not-le}
use native.Mathlib.Numerals.{unary_clauses}
use native.Mathlib.Omega.{arith}
use lib.ListN.{length}
use borrow.Author.Tests.{lt-ltb, le-ltb}
use Rattle.io.specs.Digits.{last_digits, IsDigitCount}
use Rattle.replay_text.specs.Text.{decimal, decimal_within}

-- a number with more than one digit is one with a digit less, and a last digit
shorter : (k n : ℕ) → IsDigitCount 10 1 n (suc (suc k)) → (10 ≤ n) × IsDigitCount 10 1 (n / 10) (suc k)
shorter k n f =
    let positive = one-le-pow k 10 (omega arith) in
    let least : 10 ^ k * 10 ≤ n = simp unary_clauses at (f.2 (omega arith)) in
    let most : n < 10 ^ k * 10 * 10 = simp unary_clauses at f.1 in
    (omega arith, (omega arith, simp unary_clauses (omega arith), λ l. simp unary_clauses (omega arith)))

within : (k places n : ℕ) → k ≤ places → IsDigitCount 10 1 n k → last_digits 10 k n ≡ decimal_within places n
unfolding decimal_within
within zero places n h f = absurd (not-suc-le-zero f.0)
within (suc k) zero n h f = absurd (not-suc-le-zero h)
within (suc zero) (suc places) n h f = rw (lt-ltb n 10 f.1, lt-ltb (n % 10) 10 (omega arith))
within (suc (suc k)) (suc places) n h f =
    let s = shorter k n f in
    rw (le-ltb n 10 s.0, lt-ltb (n % 10) 10 (omega arith), within (suc k) places (n / 10) (omega arith) s.1)

-- no number of 64 bits has more than 20 digits
at_most_20 : (n k : ℕ) → n < 2 ^ 64 → IsDigitCount 10 1 n k → k ≤ 20
at_most_20 n k h f =
    let no_more : 21 ≤ k → ⊥ =
    λ l.
    let least : 10 ^ 20 ≤ 10 ^ (k - 1) = pow-le-pow_right (omega arith) {i = 20} {j = k - 1} (omega arith) in
    let held : 10 ^ (k - 1) ≤ n = f.2 (omega arith) in
    omega arith
    in
    omega (arith, lt_of_not-le no_more)

pub decimal_text : (n k : ℕ) {t : List ℕ} → n < 2 ^ 64 → IsDigitCount 10 1 n k → t ≡ last_digits 10 k n → k ≡ length t
    → (t ≡ decimal n) × (length t ≤ 20)
decimal_text n k h f e l =
    let few = at_most_20 n k h f in
    (e ∙ within k 20 n few f, omega arith)
