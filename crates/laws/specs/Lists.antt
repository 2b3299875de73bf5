-- Lists of a fixed room, and what holds of each element.
-- Assumes nothing.
use Rattle.std.specs.Prelude.{List, [], ◌∷◌, ◌++◌, ℕ, ◌-◌, length, replicate}

-- a list in a room of n places, the unused ones holding z
abbrev pub padded {ℓ} : {A : Type ℓ} → ℕ → A → List A → List A
padded n z l = l ++ replicate (n - length l) z

abbrev pub All {ℓ} : {A : Type ℓ} → (A → Type 0) → List A → Type 0
All P [] = Unit
All P (x ∷ xs) = P x × All P xs
