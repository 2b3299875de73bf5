-- Substitution by SBOX or INVSBOX, here f, and each byte in the column that its row is shifted to.
-- Assumes nothing.
use mathlib.Core.Path.{◌≡◌, ◌∙◌, ap}
use mathlib.Core.List.{List, [], ◌∷◌}
use Prim.Native.Nat.{ℕ, ◌/◌, ◌^◌, ◌<◌}
use native.Mathlib.Omega.{arith}
use lib.ListN.{get_or}
use Rattle.std.specs.Int.{w32, to_be_bytes}
use Rattle.laws.specs.BigEndian.{bytes}
use Rattle.aes128.specs.Rounds.{shift_rows, inv_shift_rows}
use Rattle.aes128.specs.State.{at, state}
use Rattle.aes128.specs.Steps.{substituted}
use Rattle.aes128.specs.Words.{block_of}
use Rattle.aes128.proofs.Blocks.{block_made}

-- a byte looked up in a list t that is a table with the values of f
pub by-table : (table : List ℕ) (f : ℕ → ℕ) → ((b : ℕ) → b < 256 → get_or table b 0 ≡ f b) → (t : List ℕ) → t ≡ table
    → (b : ℕ) → b < 256 → get_or t b 0 ≡ f b
by-table table f right t same b h = ap (λ (l : List ℕ). get_or l b 0) same ∙ right b h

-- four bytes looked up
pub substituted_made : (f : ℕ → ℕ) (w x y z : ℕ) {p q r s l : List ℕ} {a b c d : ℕ} → p ≡ to_be_bytes w32 w
    → q ≡ to_be_bytes w32 x → r ≡ to_be_bytes w32 y → s ≡ to_be_bytes w32 z → a ≡ f (get_or p 0 0) → b ≡ f (get_or q 1 0)
    → c ≡ f (get_or r 2 0) → d ≡ f (get_or s 3 0) → l ≡ a ∷ b ∷ c ∷ d ∷ [] → l ≡ substituted f w x y z
unfolding substituted
substituted_made f w x y z p q r s t u v o e =
    let lowest : z ≡ z / 2 ^ 0 = omega arith in e ∙ rw (t, u, v, o, p, q, r, s, ← lowest)

pub shifted_by : (f : ℕ → ℕ) (s r : List ℕ)
    → bytes 4 (get_or r 0 0) ≡ substituted f (get_or s 0 0) (get_or s 1 0) (get_or s 2 0) (get_or s 3 0)
    → bytes 4 (get_or r 1 0) ≡ substituted f (get_or s 1 0) (get_or s 2 0) (get_or s 3 0) (get_or s 0 0)
    → bytes 4 (get_or r 2 0) ≡ substituted f (get_or s 2 0) (get_or s 3 0) (get_or s 0 0) (get_or s 1 0)
    → bytes 4 (get_or r 3 0) ≡ substituted f (get_or s 3 0) (get_or s 0 0) (get_or s 1 0) (get_or s 2 0)
    → block_of r ≡ shift_rows (state (λ r c. f (at (block_of s) r c)))
unfolding block_of substituted
shifted_by f s r p q u v = block_made r p q u v

pub shifted_back_by : (f : ℕ → ℕ) (s r : List ℕ)
    → bytes 4 (get_or r 0 0) ≡ substituted f (get_or s 0 0) (get_or s 3 0) (get_or s 2 0) (get_or s 1 0)
    → bytes 4 (get_or r 1 0) ≡ substituted f (get_or s 1 0) (get_or s 0 0) (get_or s 3 0) (get_or s 2 0)
    → bytes 4 (get_or r 2 0) ≡ substituted f (get_or s 2 0) (get_or s 1 0) (get_or s 0 0) (get_or s 3 0)
    → bytes 4 (get_or r 3 0) ≡ substituted f (get_or s 3 0) (get_or s 2 0) (get_or s 1 0) (get_or s 0 0)
    → block_of r ≡ state (λ r c. f (at (inv_shift_rows (block_of s)) r c))
unfolding block_of substituted
shifted_back_by f s r p q u v = block_made r p q u v
