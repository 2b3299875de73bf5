-- Numbers and their bytes, the most significant byte first.
-- Assumes nothing.
use Rattle.std.specs.Prelude.{List, [], ◌∷◌, length, ℕ, zero, suc, ◌+◌, ◌*◌, ◌/◌, ◌%◌, ◌^◌}

-- the n lowest bytes of x
abbrev pub bytes : ℕ → ℕ → List ℕ
bytes zero x = []
bytes (suc n) x = x / 2 ^ (n * 8) % 2 ^ 8 ∷ bytes n x

-- the number that bytes stand for
abbrev pub number : List ℕ → ℕ
number [] = 0
number (b ∷ bs) = b * 2 ^ (length bs * 8) + number bs

-- the number that two bytes stand for
abbrev pub number2 : ℕ → ℕ → ℕ
number2 a b = a * 2 ^ 8 + b

-- the number that three bytes stand for
abbrev pub number3 : ℕ → ℕ → ℕ → ℕ
number3 a b c = a * 2 ^ 16 + b * 2 ^ 8 + c

-- the number that four bytes stand for
abbrev pub number4 : ℕ → ℕ → ℕ → ℕ → ℕ
number4 a b c d = a * 2 ^ 24 + b * 2 ^ 16 + c * 2 ^ 8 + d
