-- What is ahead: its first record is whole, or none is.
-- Assumes nothing.
use mathlib.Core.Bool.{Bool, true, false}
use mathlib.Core.List.{List, [], ◌∷◌}
use mathlib.Core.Path.{◌≡◌, refl, sym, ap, ◌∙◌}
use Prim.Native.Nat.{ℕ, ◌+◌, ◌-◌, ◌<◌, ◌≤◌}
use native.Mathlib.Omega.{arith}
use lib.Dec.{ltb, leb}
use lib.ListN.{length, take, drop, length-drop}
use lib.Seq.{length-take-le}
use borrow.Author.Tests.{leb-true}
use Rattle.std.specs.Prelude.{if◌then◌else◌}
use Rattle.recording.proofs.Divisions.{ended_first, open_first}
use Rattle.recording.specs.Reading.{Division, divide, size_in}
use Rattle.reassembly.specs.Parts.{holding, none, unfinished, waiting, ahead, behind_part, none_ends, one_ends, taken_of, taken}
use Rattle.reassembly.specs.declared.Found.TheVariants.{Nothing, Held, TooLong}
use Rattle.reassembly.specs.declared.Unfinished.{Unfinished}

-- ---- what is ahead

module _ (u : Unfinished) (bs : List ℕ) (at : ℕ) {l : List ℕ} (e : ahead u bs at ≡ l) where
  pub taken_ended : 2 + size_in l ≤ length l → taken u bs at ≡ one_ends l (length (waiting u)) at (size_in l)
  unfolding taken
  taken_ended h =
      let within : size_in l ≤ length (drop 2 l) = rw (length-drop 2 l) (omega (arith, h)) in
      ap (λ (m : List ℕ). taken_of m (length (waiting u)) bs at (divide m).whole) e
      ∙ ap (λ (d : Division). taken_of l (length (waiting u)) bs at d.whole) (ended_first l h)
      ∙ ap (one_ends l (length (waiting u)) at) (length-take-le (size_in l) (drop 2 l) within)

  pub taken_open : length l < 2 + size_in l → taken u bs at ≡ none_ends l bs at
  unfolding taken
  taken_open h =
      ap (λ (m : List ℕ). taken_of m (length (waiting u)) bs at (divide m).whole) e
      ∙ ap (λ (d : Division). taken_of l (length (waiting u)) bs at d.whole) (open_first l h)

pub behind_part_lem : (bs : List ℕ) (at : ℕ) → at ≤ length bs → behind_part bs at ≡ length bs
behind_part_lem bs at h = by-test (leb (length bs) at) refl
  where
    by-test : (t : Bool) → leb (length bs) at ≡ t → (if t then at else length bs) ≡ length bs
    by-test true e = omega (arith, h, leb-true (length bs) at e)
    by-test false e = refl

-- two ways to the same bytes: some stand before the part, or in it
pub taken_moved : (u v : Unfinished) (bs : List ℕ) (at to : ℕ) {l : List ℕ} → ahead u bs at ≡ l → ahead v bs to ≡ l
    → at ≤ length bs → to ≤ length bs
    → ((n : ℕ) → at + (2 + n - length (waiting u)) ≡ to + (2 + n - length (waiting v)))
    → taken u bs at ≡ taken v bs to
unfolding taken
taken_moved u v bs at to {l} p q h k place =
    ap (λ (m : List ℕ). taken_of m (length (waiting u)) bs at (divide m).whole) p
    ∙ by_whole (divide l).whole
    ∙ ap (λ (m : List ℕ). taken_of m (length (waiting v)) bs to (divide m).whole) (sym q)
  where
    by_length : (n : ℕ) → one_ends l (length (waiting u)) at n ≡ one_ends l (length (waiting v)) to n
    by_length n =
        λ i. if ltb 1024 n then record { next = none; at = place n i; found = TooLong } else
        record { next = holding (take (2 + n) l); at = place n i; found = Held (2 + n) }

    by_whole : (rs : List (List ℕ)) → taken_of l (length (waiting u)) bs at rs ≡ taken_of l (length (waiting v)) bs to rs
    by_whole [] = λ i. record { next = unfinished l; at = (behind_part_lem bs at h ∙ sym (behind_part_lem bs to k)) i; found = Nothing }
    by_whole (r ∷ rs) = by_length (length r)
