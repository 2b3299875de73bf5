-- What stands at a place of a recording, by how much of the recording is left there.
-- Assumes nothing.
use mathlib.Core.List.{List}
use mathlib.Core.Logic.{◌⊎◌}
use mathlib.Core.Path.{◌≡◌, sym, ap, ◌∙◌}
use Prim.Native.Nat.{ℕ, ◌+◌, ◌-◌, ◌<◌, ◌≤◌}
use native.Mathlib.Omega.{arith}
use lib.ListN.{length, take, drop, get_or, length-drop}
use borrow.Author.Tests.{le-leb, lt-leb, le-ltb, lt-ltb}
use Rattle.laws.proofs.Lists.{take_drop_rest}
use Rattle.laws.specs.BigEndian.{number2}
use Rattle.std.proofs.lemmas.List.{get_or-drop}
use Rattle.std.specs.List.{slice_range}
use Rattle.recording.specs.Reading.{next_at}
use Rattle.recording.specs.declared.reader.Next.TheVariants.{Record, Cut, End}

module _ (l : List ℕ) (at : ℕ) where
  at_end : length l ≤ at → End ≡ next_at l at
  unfolding next_at
  at_end h = rw (le-leb (length l) at h)

  pub next_none : (length l < at) ⊎ (length l < length l) → End ≡ next_at l at
  next_none h = at_end (omega (arith, h))

  -- what is left, as `get` hands it out
  abbrev IsLeft : List ℕ → Type 0
  IsLeft f =
      (at ≤ length l) × (length l ≤ length l) × (f ≡ slice_range l at (length l)) × (length f + at ≡ length l)

  module _ {f : List ℕ} (is : IsLeft f) where
    pub next_end : length f < 1 → End ≡ next_at l at
    next_end h = at_end (omega arith)

    -- the length field itself is cut
    pub next_cut_length : 1 ≤ length f → length f < 2 → Cut ≡ next_at l at
    unfolding next_at
    next_cut_length h k =
        rw (lt-leb (length l) at (omega arith), lt-ltb (length l) (at + 2) (omega arith))

    byte_left : (i to : ℕ) → to ≡ at + i → get_or f i 0 ≡ get_or l to 0
    byte_left i to p =
        ap (λ (x : List ℕ). get_or x i 0) (is.2 ∙ take_drop_rest at l) ∙ get_or-drop at l i 0
        ∙ ap (λ (j : ℕ). get_or l j 0) (sym p)

    length_behind : length (take (length f - 2) (drop 2 f)) ≡ length f - 2
    length_behind = rw (take_drop_rest 2 f) (length-drop 2 f)

    module _ (long : 2 ≤ length f) {n : ℕ} (field : n ≡ number2 (get_or f 0 0) (get_or f 1 0)) where
      size_here : n ≡ number2 (get_or l at 0) (get_or l (at + 1) 0)
      size_here =
          field ∙ (λ i. number2 (byte_left 0 at (omega arith) i) (byte_left 1 (at + 1) (omega arith) i))

      pub next_cut : length (take (length f - 2) (drop 2 f)) < n → Cut ≡ next_at l at
      unfolding next_at
      next_cut h =
          rw (
            lt-leb (length l) at (omega arith),
            le-ltb (length l) (at + 2) (omega arith),
            ← size_here,
            lt-ltb (length l) (at + 2 + n) (omega (arith, length_behind)),
          )

      pub next_record : n ≤ length (take (length f - 2) (drop 2 f)) → Record (at + 2) (at + 2 + n) ≡ next_at l at
      unfolding next_at
      next_record h =
          rw (
            lt-leb (length l) at (omega arith),
            le-ltb (length l) (at + 2) (omega arith),
            ← size_here,
            le-ltb (length l) (at + 2 + n) (omega (arith, length_behind)),
          )
