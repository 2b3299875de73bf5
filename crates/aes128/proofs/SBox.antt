-- Both tables of src/ follow from the rule of §5.1.1: one test, computed at each of the 256 bytes, and what it shows.
-- Assumes nothing.
use mathlib.Core.Path.{◌≡◌, refl, sym, ◌∙◌, ap}
use mathlib.Core.Bool.{Bool, true, false, cond}
use mathlib.Core.List.{List, [], ◌∷◌}
use mathlib.Core.Logic.{⊎_elim}
use Prim.Native.Nat.{ℕ, zero, suc, ◌<◌}
use native.Mathlib.Nat.{eq-or-lt_of_le, le_of_suc-le-suc, not-suc-le-zero}
use native.Mathlib.Omega.{arith}
use lib.Dec.{T, eqb, eqb→eq, eqb-suc-zero, ltb, ltb→lt}
use lib.ListN.{get_or}
use borrow.Author.Tests.{eqb-true, eqb-false}
use Rattle.laws.proofs.Several.{all, all_at}
use Rattle.laws.proofs.Table.{every, every_at}
use Rattle.aes128.specs.Field.{x_times, product, ◌•◌}
use Rattle.aes128.specs.SBox.{squares, inverse, affine_bit, from_bits, affine, s_box, preimage, inv_s_box}
use Rattle.aes128.specs.Tables.{s_box_table, inv_s_box_table, FollowTheRule, SecondUndoesFirst, InverseInverts}

-- Of a byte b with the entries x and z of the two tables, and its inverse i.
abbrev tests : ℕ → ℕ → ℕ → ℕ → List Bool
tests b x z i =
    eqb x (affine i) ∷
    eqb (b • i) (cond (eqb b 0) 0 1) ∷
    eqb (get_or inv_s_box_table x 0) b ∷
    eqb (get_or s_box_table z 0) b ∷
    ltb x 256 ∷
    ltb z 256 ∷ []

right : ℕ → ℕ → Bool
right b x = all (tests b x (get_or inv_s_box_table b 0) (inverse b))

tested : T (every right 0 s_box_table)
unfolding right affine from_bits affine_bit inverse squares ◌•◌ product x_times
tested = tt

passed : (b : ℕ) → b < 256 → (k : ℕ) → T (get_or (tests b (get_or s_box_table b 0) (get_or inv_s_box_table b 0) (inverse b)) k true)
unfolding right
passed b h k = all_at (tests b (get_or s_box_table b 0) (get_or inv_s_box_table b 0) (inverse b))
    (every_at right s_box_table tested b h) k

-- the first table has SBOX
s_box_table_lem : (b : ℕ) → b < 256 → get_or s_box_table b 0 ≡ s_box b
unfolding s_box
s_box_table_lem b h = eqb→eq (get_or s_box_table b 0) (affine (inverse b)) (passed b h 0)

pub inverse_inverts : InverseInverts
inverse_inverts zero p h = absurd (not-suc-le-zero p)
inverse_inverts (suc b) p h =
    eqb→eq (suc b • inverse (suc b)) (cond (eqb (suc b) 0) 0 1) (passed (suc b) h 1) ∙ ap (λ t. cond t 0 1) (eqb-suc-zero b)

pub second_undoes_first : SecondUndoesFirst
second_undoes_first b h = eqb→eq (get_or inv_s_box_table (get_or s_box_table b 0) 0) b (passed b h 2)

first_undoes_second : (b : ℕ) → b < 256 → get_or s_box_table (get_or inv_s_box_table b 0) 0 ≡ b
first_undoes_second b h = eqb→eq (get_or s_box_table (get_or inv_s_box_table b 0) 0) b (passed b h 3)

inv_lt : (b : ℕ) → b < 256 → get_or inv_s_box_table b 0 < 256
inv_lt b h = ltb→lt (get_or inv_s_box_table b 0) 256 (passed b h 5)

pub s_box_lt : (b : ℕ) → b < 256 → s_box b < 256
s_box_lt b h = rw (s_box_table_lem b h) at (ltb→lt (get_or s_box_table b 0) 256 (passed b h 4))

-- the one number below n that f takes to b is its preimage
preimage_is : (f : ℕ → ℕ) (n b x : ℕ) → x < n → f x ≡ b → ((y : ℕ) → y < n → f y ≡ b → y ≡ x) → preimage f n b ≡ x
unfolding preimage
preimage_is f zero b x h e one = absurd (not-suc-le-zero h)
preimage_is f (suc n) b x h e one = go (eqb (f n) b) refl (preimage_is f n b x)
  where
    go : (t : Bool) → eqb (f n) b ≡ t → (x < n → f x ≡ b → ((y : ℕ) → y < n → f y ≡ b → y ≡ x) → preimage f n b ≡ x)
        → cond (eqb (f n) b) n (preimage f n b) ≡ x
    go true p ih = rw p (one n (omega arith) (eqb-true (f n) b p))
    go false p ih =
        rw p
        (ih (⊎_elim (λ q. absurd (eqb-false (f n) b p (ap f (sym q) ∙ e))) (λ lt. lt) (eq-or-lt_of_le (le_of_suc-le-suc h)))
        e (λ y k. one y (omega arith)))

-- the second table has INVSBOX
inv_s_box_table_lem : (b : ℕ) → b < 256 → get_or inv_s_box_table b 0 ≡ inv_s_box b
unfolding inv_s_box
inv_s_box_table_lem b h =
    sym
    (preimage_is s_box 256 b (get_or inv_s_box_table b 0) (inv_lt b h)
    (sym (s_box_table_lem (get_or inv_s_box_table b 0) (inv_lt b h)) ∙ first_undoes_second b h)
    (λ y k e. sym (second_undoes_first y k) ∙ ap (λ x. get_or inv_s_box_table x 0) (s_box_table_lem y k ∙ e)))

pub follow_the_rule : FollowTheRule
follow_the_rule = record { entries = (refl, refl); first = s_box_table_lem; second = inv_s_box_table_lem }

-- INVSBOX undoes SBOX
pub inv_s_box_s_box : (b : ℕ) → b < 256 → inv_s_box (s_box b) ≡ b
inv_s_box_s_box b h =
    sym (inv_s_box_table_lem (s_box b) (s_box_lt b h)) ∙ ap (λ x. get_or inv_s_box_table x 0) (sym (s_box_table_lem b h)) ∙
    second_undoes_first b h
