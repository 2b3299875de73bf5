-- RFC 3629, section 4: which byte strings are UTF-8.
-- Assumes nothing.
use Rattle.std.specs.Prelude.{Bool, true, false, List, [], ◌∷◌, ℕ, leb, if◌then◌else◌}
use Rattle.laws.specs.Choice.{◌and◌}

-- the bytes from `low` to `high`
pub record Range : Type 0 where
  pub low : ℕ
  pub high : ℕ

infixr 70 ◌to◌
abbrev pub ◌to◌ : ℕ → ℕ → Range
a to b = record { low = a; high = b }

abbrev pub within : Range → ℕ → Bool
within r b = leb r.low b and leb b r.high

-- "UTF8-tail = %x80-BF"
abbrev pub tail : Range
tail = 0x80 to 0xBF

-- "UTF8-char = UTF8-1 / UTF8-2 / UTF8-3 / UTF8-4": the bytes of a character, a row for each alternative
abbrev pub characters : List (List Range)
characters =
    -- "UTF8-1 = %x00-7F"
    (0x00 to 0x7F ∷ [])
    -- "UTF8-2 = %xC2-DF UTF8-tail"
    ∷ (0xC2 to 0xDF ∷ tail ∷ [])
    -- "UTF8-3 = %xE0 %xA0-BF UTF8-tail / %xE1-EC 2( UTF8-tail ) / %xED %x80-9F UTF8-tail / %xEE-EF 2( UTF8-tail )"
    ∷ (0xE0 to 0xE0 ∷ 0xA0 to 0xBF ∷ tail ∷ [])
    ∷ (0xE1 to 0xEC ∷ tail ∷ tail ∷ [])
    ∷ (0xED to 0xED ∷ 0x80 to 0x9F ∷ tail ∷ [])
    ∷ (0xEE to 0xEF ∷ tail ∷ tail ∷ [])
    -- "UTF8-4 = %xF0 %x90-BF 2( UTF8-tail ) / %xF1-F3 3( UTF8-tail ) / %xF4 %x80-8F 2( UTF8-tail )"
    ∷ (0xF0 to 0xF0 ∷ 0x90 to 0xBF ∷ tail ∷ tail ∷ [])
    ∷ (0xF1 to 0xF3 ∷ tail ∷ tail ∷ tail ∷ [])
    ∷ (0xF4 to 0xF4 ∷ 0x80 to 0x8F ∷ tail ∷ tail ∷ [])
    ∷ []

-- byte b begins a character of one of the rows, and `rest` holds of what is to follow it there
abbrev pub begins : List (List Range) → ℕ → (List Range → Bool) → Bool
begins [] b rest = false
begins ([] ∷ rows) b rest = begins rows b rest
begins ((r ∷ rs) ∷ rows) b rest = if within r b then rest rs else begins rows b rest

-- "UTF8-octets = *( UTF8-char )", where bytes within the ranges are still to come of the character that was begun
unfoldable pub continues : List Range → List ℕ → Bool
continues [] [] = true
continues (r ∷ rs) [] = false
continues [] (b ∷ l) = begins characters b (λ rest. continues rest l)
continues (r ∷ rs) (b ∷ l) = within r b and continues rs l

abbrev pub is_utf8 : List ℕ → Bool
is_utf8 l = continues [] l
