-- A column mixed as one word, forward and inverse, is the column multiplied by the standard's matrix.
-- Assumes nothing.
use mathlib.Core.Path.{◌≡◌, sym, ◌∙◌, ap, ap₂}
use mathlib.Core.List.{List, [], ◌∷◌}
use Prim.Native.Nat.{ℕ}
use lib.Bits.{xor_comm, xor_zero_r}
use lib.ListN.{get_or}
use Rattle.laws.specs.BigEndian.{bytes}
use Rattle.laws.proofs.Numbers.{bytes_lt}
use Rattle.laws.proofs.Xor.{xor_assoc, xor_rotate4}
use Rattle.aes128.specs.Field.{◌⊕◌, ◌•◌, x_times, product}
use Rattle.aes128.specs.KeyExpansion.{rot_word, xor_word}
use Rattle.aes128.specs.Rounds.{mix_matrix, inv_mix_matrix}
use Rattle.aes128.specs.Steps.{doubled, multiplied}
use Rattle.aes128.proofs.Field.{x_times_add}
use Rattle.aes128.proofs.Matrix.{first_factor, multiplied_factors}
use Rattle.aes128.proofs.Words.{xor_bytes}

-- ---- MIXCOLUMNS; a, b, c and d are the bytes in a row and in those after it

row_mixed : (a b c d : ℕ) → x_times (a ⊕ b) ⊕ b ⊕ (c ⊕ d) ≡ x_times a ⊕ (x_times b ⊕ b) ⊕ c ⊕ d
row_mixed a b c d =
    rw (x_times_add a b, xor_assoc (x_times a) (x_times b) b) (sym (xor_assoc (x_times a ⊕ (x_times b ⊕ b)) c d))

list4 : {a b c d e f g h : ℕ} → a ≡ e → b ≡ f → c ≡ g → d ≡ h → a ∷ b ∷ c ∷ d ∷ [] ≡ e ∷ f ∷ g ∷ h ∷ []
list4 p q r s = rw (p, q, r, s)

column_mixed : (a b c d : ℕ) → let w : List ℕ = a ∷ b ∷ c ∷ d ∷ [] in let p : List ℕ = xor_word w (rot_word w) in
    xor_word (xor_word (doubled p) (rot_word w)) (rot_word (rot_word p)) ≡ multiplied mix_matrix w
unfolding multiplied ◌•◌ product
column_mixed a b c d =
    list4 (row_mixed a b c d)
    (row_mixed b c d a ∙ xor_rotate4 (x_times b) (x_times c ⊕ c) d a)
    (row_mixed c d a b ∙ xor_rotate4 (x_times c) (x_times d ⊕ d) a b ∙ xor_rotate4 b (x_times c) (x_times d ⊕ d) a)
    (row_mixed d a b c ∙ sym (xor_rotate4 (x_times a ⊕ a) b c (x_times d)))

-- the code's steps, a word each
pub mix_made : (w n d r t : ℕ) → bytes 4 n ≡ rot_word (bytes 4 w) → bytes 4 d ≡ doubled (bytes 4 (w ⊕ n))
    → bytes 4 r ≡ rot_word (bytes 4 (w ⊕ n)) → bytes 4 t ≡ rot_word (bytes 4 r)
    → bytes 4 (d ⊕ n ⊕ t) ≡ multiplied mix_matrix (bytes 4 w)
mix_made w n d r t en ed er et =
    xor_bytes (d ⊕ n) t
    ∙ ap₂ xor_word (xor_bytes d n ∙ ap₂ xor_word (ed ∙ ap doubled pair) en) (et ∙ ap rot_word (er ∙ ap rot_word pair))
    ∙ column_mixed (get_or (bytes 4 w) 0 0) (get_or (bytes 4 w) 1 0) (get_or (bytes 4 w) 2 0) (get_or (bytes 4 w) 3 0)
  where
    pair : bytes 4 (w ⊕ n) ≡ xor_word (bytes 4 w) (rot_word (bytes 4 w))
    pair = xor_bytes w n ∙ ap (xor_word (bytes 4 w)) en

-- ---- INVMIXCOLUMNS: the first factor, and then MIXCOLUMNS

-- of a byte and the one two rows on
row_factor : (a c : ℕ) → a ⊕ x_times (x_times (a ⊕ c)) ≡ x_times (x_times a) ⊕ a ⊕ x_times (x_times c)
row_factor a c =
    rw (x_times_add a c, x_times_add (x_times a) (x_times c))
    (sym (xor_assoc a (x_times (x_times a)) (x_times (x_times c))) ∙ rw (xor_comm a (x_times (x_times a))))

row_factor_back : (a c : ℕ) → a ⊕ x_times (x_times (a ⊕ c)) ≡ x_times (x_times c) ⊕ (x_times (x_times a) ⊕ a)
row_factor_back a c = row_factor a c ∙ xor_comm (x_times (x_times a) ⊕ a) (x_times (x_times c))

-- the coefficients {00} add nothing
between_zeros : (p q : ℕ) → p ⊕ q ≡ p ⊕ 0 ⊕ q
between_zeros p q = rw (xor_zero_r p)

with_zeros : (p q : ℕ) → p ⊕ q ≡ p ⊕ 0 ⊕ q ⊕ 0
with_zeros p q = between_zeros p q ∙ sym (xor_zero_r (p ⊕ 0 ⊕ q))

column_factor : (a b c d : ℕ) → let w : List ℕ = a ∷ b ∷ c ∷ d ∷ [] in
    xor_word w (doubled (doubled (xor_word w (rot_word (rot_word w))))) ≡ multiplied first_factor w
unfolding multiplied ◌•◌ product
column_factor a b c d =
    list4 (row_factor a c ∙ with_zeros (x_times (x_times a) ⊕ a) (x_times (x_times c)))
    (row_factor b d ∙ between_zeros (x_times (x_times b) ⊕ b) (x_times (x_times d)))
    (row_factor_back c a ∙ with_zeros (x_times (x_times a)) (x_times (x_times c) ⊕ c))
    (row_factor_back d b ∙ between_zeros (x_times (x_times b)) (x_times (x_times d) ⊕ d))

pub inv_mix_made : (w r t d e m : ℕ) → bytes 4 r ≡ rot_word (bytes 4 w) → bytes 4 t ≡ rot_word (bytes 4 r)
    → bytes 4 d ≡ doubled (bytes 4 (w ⊕ t)) → bytes 4 e ≡ doubled (bytes 4 d)
    → bytes 4 m ≡ multiplied mix_matrix (bytes 4 (w ⊕ e)) → bytes 4 m ≡ multiplied inv_mix_matrix (bytes 4 w)
inv_mix_made w r t d e m er et ed ee em =
    em
    ∙ ap (multiplied mix_matrix)
    (xor_bytes w e ∙ ap (xor_word (bytes 4 w)) (ee ∙ ap doubled (ed ∙ ap doubled pair))
    ∙ column_factor (get_or (bytes 4 w) 0 0) (get_or (bytes 4 w) 1 0) (get_or (bytes 4 w) 2 0) (get_or (bytes 4 w) 3 0))
    ∙ multiplied_factors (bytes 4 w) (bytes_lt 4 w)
  where
    pair : bytes 4 (w ⊕ t) ≡ xor_word (bytes 4 w) (rot_word (rot_word (bytes 4 w)))
    pair = xor_bytes w t ∙ ap (xor_word (bytes 4 w)) (et ∙ ap rot_word er)
