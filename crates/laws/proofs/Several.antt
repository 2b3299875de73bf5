-- Several tests in one list, which pass together and are taken apart by place.
-- Assumes nothing.
use mathlib.Core.Bool.{Bool, true}
use mathlib.Core.List.{List, [], ◌∷◌}
use Prim.Native.Nat.{ℕ, zero, suc}
use lib.Dec.{T}
use lib.ListN.{get_or}
use Rattle.laws.specs.Choice.{◌and◌}
use Rattle.laws.proofs.Choice.{passes_left, passes_right}

abbrev pub all : List Bool → Bool
all [] = true
all (b ∷ bs) = b and all bs

pub all_at : (bs : List Bool) → T (all bs) → (k : ℕ) → T (get_or bs k true)
all_at [] t k = tt
all_at (b ∷ bs) t zero = passes_left b (all bs) t
all_at (b ∷ bs) t (suc k) = all_at bs (passes_right b (all bs) t) k
