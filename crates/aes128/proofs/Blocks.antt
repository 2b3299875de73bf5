-- A block as four words: what each word has, the block has in its columns.
-- Assumes nothing.
use mathlib.Core.Path.{◌≡◌, ◌∙◌}
use mathlib.Core.List.{List, [], ◌∷◌}
use Prim.Native.Nat.{ℕ}
use lib.ListN.{length, get_or}
use Rattle.laws.specs.BigEndian.{bytes}
use Rattle.aes128.specs.Field.{◌⊕◌}
use Rattle.aes128.specs.Rounds.{mix_by, add_round_key}
use Rattle.aes128.specs.State.{column_of, columns}
use Rattle.aes128.specs.Steps.{multiplied}
use Rattle.aes128.specs.Words.{block_of}
use Rattle.aes128.proofs.State.{state_at}
use Rattle.aes128.proofs.Words.{xor_bytes}

pub block_made : (s : List ℕ) {w x y z : List ℕ} → bytes 4 (get_or s 0 0) ≡ w → bytes 4 (get_or s 1 0) ≡ x → bytes 4 (get_or s 2 0) ≡ y
    → bytes 4 (get_or s 3 0) ≡ z → block_of s ≡ columns w x y z
unfolding block_of
block_made s p q r t = λ i. columns (p i) (q i) (r i) (t i)

pub add_round_key_made : (s k : List ℕ)
    → block_of ((get_or s 0 0 ⊕ get_or k 0 0) ∷ (get_or s 1 0 ⊕ get_or k 1 0) ∷ (get_or s 2 0 ⊕ get_or k 2 0) ∷ (get_or s 3 0 ⊕ get_or k 3 0) ∷ [])
    ≡ add_round_key (block_of s) (block_of k)
unfolding block_of add_round_key
add_round_key_made s k =
    block_made ((get_or s 0 0 ⊕ get_or k 0 0) ∷ (get_or s 1 0 ⊕ get_or k 1 0) ∷ (get_or s 2 0 ⊕ get_or k 2 0) ∷ (get_or s 3 0 ⊕ get_or k 3 0) ∷ [])
    (xor_bytes (get_or s 0 0) (get_or k 0 0)) (xor_bytes (get_or s 1 0) (get_or k 1 0)) (xor_bytes (get_or s 2 0) (get_or k 2 0)) (xor_bytes (get_or s 3 0) (get_or k 3 0))

-- each column multiplied by a matrix
pub mix_by_made : (m : List (List ℕ)) (s r : List ℕ) → bytes 4 (get_or r 0 0) ≡ multiplied m (bytes 4 (get_or s 0 0))
    → bytes 4 (get_or r 1 0) ≡ multiplied m (bytes 4 (get_or s 1 0)) → bytes 4 (get_or r 2 0) ≡ multiplied m (bytes 4 (get_or s 2 0))
    → bytes 4 (get_or r 3 0) ≡ multiplied m (bytes 4 (get_or s 3 0)) → block_of r ≡ mix_by m (block_of s)
unfolding block_of mix_by multiplied
mix_by_made m s r p q t u = block_made r p q t u

-- the four columns of a block
pub block_columns : (s : List ℕ) (b : List ℕ) → length b ≡ 16 → bytes 4 (get_or s 0 0) ≡ column_of b 0 → bytes 4 (get_or s 1 0) ≡ column_of b 1
    → bytes 4 (get_or s 2 0) ≡ column_of b 2 → bytes 4 (get_or s 3 0) ≡ column_of b 3 → block_of s ≡ b
block_columns s b h p q r t = block_made s p q r t ∙ state_at b h
