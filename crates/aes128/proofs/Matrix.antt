-- Products of the matrices that a column is multiplied by. A product is tested with the powers of two in each row of a column: all
-- is additive, so they are enough.
-- Assumes nothing.
use mathlib.Core.Path.{◌≡◌, refl, sym, ◌∙◌, ap}
use mathlib.Core.Bool.{Bool}
use mathlib.Core.List.{List, [], ◌∷◌}
use Prim.Native.Nat.{ℕ, ◌+◌, ◌*◌, ◌^◌, ◌<◌}
use lib.Dec.{T, eqb, eqb→eq, ltb, lit<}
use lib.ListN.{get_or, replicate}
use lib.Bits.{xor_zero_r}
use Rattle.laws.proofs.Additive.{Additive, additive_agree}
use Rattle.laws.proofs.Filled.{tabulate_ext}
use Rattle.laws.proofs.Table as table
use Rattle.laws.proofs.Xor.{xor_exchange}
use Rattle.aes128.specs.Field.{◌⊕◌, ◌•◌, x_times, product}
use Rattle.aes128.specs.Inverse.{Block}
use Rattle.aes128.specs.Rounds.{times, mix_by, mix_matrix, inv_mix_matrix, mix_columns, inv_mix_columns}
use Rattle.aes128.specs.State.{at}
use Rattle.aes128.specs.Steps.{multiplied}
use Rattle.aes128.proofs.Field.{mul_additive}
use Rattle.aes128.proofs.State.{state_ext, at_state, state_at, by_row}

abbrev sum4 : ℕ → ℕ → ℕ → ℕ → ℕ
sum4 a b c d = a ⊕ b ⊕ c ⊕ d

sum4_add : (a b c d e f g h : ℕ) → sum4 (a ⊕ e) (b ⊕ f) (c ⊕ g) (d ⊕ h) ≡ sum4 a b c d ⊕ sum4 e f g h
sum4_add a b c d e f g h =
    rw (xor_exchange a e b f, xor_exchange (a ⊕ b) (e ⊕ f) c g) (xor_exchange (a ⊕ b ⊕ c) (e ⊕ f ⊕ g) d h)

-- the sum of four sums, by rows and by columns
sum4_transpose : (a b c d : ℕ → ℕ)
    → sum4 (sum4 (a 0) (a 1) (a 2) (a 3)) (sum4 (b 0) (b 1) (b 2) (b 3))
    (sum4 (c 0) (c 1) (c 2) (c 3)) (sum4 (d 0) (d 1) (d 2) (d 3))
    ≡ sum4 (sum4 (a 0) (b 0) (c 0) (d 0)) (sum4 (a 1) (b 1) (c 1) (d 1))
    (sum4 (a 2) (b 2) (c 2) (d 2)) (sum4 (a 3) (b 3) (c 3) (d 3))
sum4_transpose a b c d =
    sym
    (add (λ k. a k ⊕ b k ⊕ c k) d
    ∙ ap (λ x. x ⊕ sum4 (d 0) (d 1) (d 2) (d 3))
    (add (λ k. a k ⊕ b k) c ∙ ap (λ x. x ⊕ sum4 (c 0) (c 1) (c 2) (c 3)) (add a b)))
  where
    add : (f g : ℕ → ℕ) → sum4 (f 0 ⊕ g 0) (f 1 ⊕ g 1) (f 2 ⊕ g 2) (f 3 ⊕ g 3) ≡ sum4 (f 0) (f 1) (f 2) (f 3) ⊕ sum4
        (g 0) (g 1) (g 2) (g 3)
    add f g = sum4_add (f 0) (f 1) (f 2) (f 3) (g 0) (g 1) (g 2) (g 3)

mul_sum4 : (n a b c d : ℕ) → n • sum4 a b c d ≡ sum4 (n • a) (n • b) (n • c) (n • d)
mul_sum4 n a b c d =
    (mul_additive n).adds (a ⊕ b ⊕ c) d
    ∙ ap (λ x. x ⊕ n • d) ((mul_additive n).adds (a ⊕ b) c ∙ ap (λ x. x ⊕ n • c) ((mul_additive n).adds a b))

sum4_eq : {a b c d e f g h : ℕ} → a ≡ e → b ≡ f → c ≡ g → d ≡ h → sum4 a b c d ≡ sum4 e f g h
sum4_eq p q r s = rw (p, q, r, s)

-- the coefficient in row r, column c
abbrev entry : List (List ℕ) → ℕ → ℕ → ℕ
entry m r c = get_or (get_or m r []) c 0

module _ (m n p : List (List ℕ)) where
  -- what the byte x in row k of a column adds to row r by way of row j between m and n
  abbrev term : ℕ → ℕ → ℕ → ℕ → ℕ
  term r k j x = entry m r j • (entry n j k • x)

  term-add : (r k j a b : ℕ) → term r k j (a ⊕ b) ≡ term r k j a ⊕ term r k j b
  term-add r k j a b =
      ap (λ x. entry m r j • x) ((mul_additive (entry n j k)).adds a b)
      ∙ (mul_additive (entry m r j)).adds (entry n j k • a) (entry n j k • b)

  -- and what it adds in all
  added : ℕ → ℕ → ℕ → ℕ
  added r k x = sum4 (term r k 0 x) (term r k 1 x) (term r k 2 x) (term r k 3 x)

  added-additive : (r k : ℕ) → Additive (added r k)
  unfolding added
  added-additive r k =
      record {
        adds = λ a b.
            sum4_eq (term-add r k 0 a b) (term-add r k 1 a b) (term-add r k 2 a b) (term-add r k 3 a b)
            ∙ sum4_add (term r k 0 a) (term r k 1 a) (term r k 2 a) (term r k 3 a) (term r k 0 b) (term r k 1 b)
            (term r k 2 b) (term r k 3 b);
      }

  -- the test, at row r of what a power of two in row k gives
  power : ℕ → ℕ → ℕ → ℕ → Bool
  power r k i x = eqb (added r k (2 ^ i)) (entry p r k • 2 ^ i)

  powers : ℕ → ℕ → ℕ → Bool
  powers r k x = table.every (power r k) 0 (replicate 8 0)

  rows : ℕ → ℕ → Bool
  rows r x = table.every (powers r) 0 (replicate 4 0)

  -- p is the product of m and n
  isProduct : Bool
  isProduct = table.every rows 0 (replicate 4 0)

  module _ (tested : T isProduct) where
    added_is : (r k x : ℕ) → r < 4 → k < 4 → x < 256 → added r k x ≡ entry p r k • x
    unfolding isProduct rows powers power
    added_is r k x hr hk hx =
        additive_agree (added-additive r k) (mul_additive (entry p r k)) 8
        (λ i hi. eqb→eq (added r k (2 ^ i)) (entry p r k • 2 ^ i) (table.every_at (power r k) (replicate 8 0) place i hi)) x hx
      where
        place : T (table.every (power r k) 0 (replicate 8 0))
        place = table.every_at (powers r) (replicate 4 0) (table.every_at rows (replicate 4 0) tested r hr) k hk

    -- row r of a column x that passed through both matrices
    row-product : (r : ℕ) → r < 4 → (x : ℕ → ℕ) → ((k : ℕ) → x k < 256)
        → times (get_or m r []) (λ j. times (get_or n j []) x) ≡ times (get_or p r []) x
    unfolding added
    row-product r hr x hx =
        sum4_eq (part 0) (part 1) (part 2) (part 3)
        ∙ sum4_transpose (λ k. term r k 0 (x k)) (λ k. term r k 1 (x k)) (λ k. term r k 2 (x k)) (λ k. term r k 3 (x k))
        ∙ sum4_eq (whole 0 tt) (whole 1 tt) (whole 2 tt) (whole 3 tt)
      where
        part : (j : ℕ) → entry m r j • times (get_or n j []) x ≡ sum4 (term r 0 j (x 0)) (term r 1 j (x 1))
            (term r 2 j (x 2)) (term r 3 j (x 3))
        part j = mul_sum4 (entry m r j) (entry n j 0 • x 0) (entry n j 1 • x 1) (entry n j 2 • x 2) (entry n j 3 • x 3)

        whole : (k : ℕ) → T (ltb k 4) → added r k (x k) ≡ entry p r k • x k
        whole k h = added_is r k (x k) hr (lit< h) (hx k)

-- ---- the inverse matrix has the other as a factor

-- what a column passes through before MIXCOLUMNS, so that both together are INVMIXCOLUMNS
abbrev pub first_factor : List (List ℕ)
first_factor = (5 ∷ 0 ∷ 4 ∷ 0 ∷ []) ∷ (0 ∷ 5 ∷ 0 ∷ 4 ∷ []) ∷ (4 ∷ 0 ∷ 5 ∷ 0 ∷ []) ∷ (0 ∷ 4 ∷ 0 ∷ 5 ∷ []) ∷ []

factored : T (isProduct mix_matrix first_factor inv_mix_matrix)
unfolding isProduct rows powers power added ◌•◌ product x_times
factored = tt

pub multiplied_factors : (w : List ℕ) → ((i : ℕ) → get_or w i 0 < 256)
    → multiplied mix_matrix (multiplied first_factor w) ≡ multiplied inv_mix_matrix w
unfolding multiplied
multiplied_factors w h =
    tabulate_ext 4 (λ r. times (get_or mix_matrix r []) (λ j. get_or (multiplied first_factor w) j 0))
    (λ r. times (get_or inv_mix_matrix r []) (λ j. get_or w j 0))
    (λ r hr. row-product mix_matrix first_factor inv_mix_matrix factored r hr (λ k. get_or w k 0) h)

-- ---- INVMIXCOLUMNS undoes MIXCOLUMNS

abbrev unit_matrix : List (List ℕ)
unit_matrix = (1 ∷ 0 ∷ 0 ∷ 0 ∷ []) ∷ (0 ∷ 1 ∷ 0 ∷ 0 ∷ []) ∷ (0 ∷ 0 ∷ 1 ∷ 0 ∷ []) ∷ (0 ∷ 0 ∷ 0 ∷ 1 ∷ []) ∷ []

undone : T (isProduct inv_mix_matrix mix_matrix unit_matrix)
unfolding isProduct rows powers power added ◌•◌ product x_times
undone = tt

row_unit : (x : ℕ → ℕ) (r : ℕ) → r < 4 → times (get_or unit_matrix r []) x ≡ x r
unfolding ◌•◌ product
row_unit x =
    by_row (λ r. times (get_or unit_matrix r []) x ≡ x r) (ap (λ y. y ⊕ 0 ⊕ 0) (xor_zero_r (x 0)) ∙ alone (x 0)) (alone (x 1))
    (xor_zero_r (x 2)) refl
  where
    alone : (a : ℕ) → a ⊕ 0 ⊕ 0 ≡ a
    alone a = ap (λ y. y ⊕ 0) (xor_zero_r a) ∙ xor_zero_r a

pub inv_mix_columns_mix_columns : (s : List ℕ) → Block s → inv_mix_columns (mix_columns s) ≡ s
unfolding inv_mix_columns mix_columns mix_by
inv_mix_columns_mix_columns s p =
    state_ext (λ r c. times (get_or inv_mix_matrix r []) (λ j. at (mix_columns s) j c)) (at s)
    (λ r c hr hc.
    rw (mixed 0 c (lit< tt) hc, mixed 1 c (lit< tt) hc, mixed 2 c (lit< tt) hc, mixed 3 c (lit< tt) hc)
    (row-product inv_mix_matrix mix_matrix unit_matrix undone r hr (λ k. at s k c) (λ k. p.bytes (k + 4 * c))
    ∙ row_unit (λ k. at s k c) r hr))
    ∙ state_at s p.long
  where
    mixed : (j c : ℕ) → j < 4 → c < 4 → at (mix_columns s) j c ≡ times (get_or mix_matrix j []) (λ k. at s k c)
    mixed = at_state (λ r c. times (get_or mix_matrix r []) (λ k. at s k c))
