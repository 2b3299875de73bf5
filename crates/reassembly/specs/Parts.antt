-- Document 02 (viii): a recording arrives in parts, and "at most one unfinished record is held".
-- Assumes nothing.
use Rattle.std.specs.Prelude.{Bool, not, List, [], ◌∷◌, ◌++◌, ◌⊎◌, ◌≡◌, ℕ, ◌+◌, ◌-◌, ◌<◌, ◌≤◌, eqb, ltb, leb, length, take, drop, Option, Some, None, if◌then◌else◌}
use Rattle.std.proofs.Math.Seq.{paste}
use Rattle.laws.specs.Choice.{◌and◌}
use Rattle.laws.specs.Lists.{padded}
use Rattle.recording.specs.Reading.{size_in, divide, zeros}
use Rattle.reassembly.specs.declared.Found.TheVariants.{Nothing, Held, TooLong}
use Rattle.reassembly.specs.declared.Taken.{Taken}
use Rattle.reassembly.specs.declared.Unfinished.{Unfinished}

-- ---- what is held between two parts

-- "a record longer than 1,024 bytes after its length field"
abbrev pub is_too_long : List ℕ → Bool
is_too_long bs = leb 2 (length bs) and ltb 1024 (size_in bs)

-- the bytes of a record, with its length field
abbrev pub holding : List ℕ → Unfinished
holding bs = record { bytes = padded 1026 0 bs; count = length bs; skip = 0 }

abbrev pub skipping : ℕ → Unfinished
skipping n = record { bytes = zeros 1026; count = 0; skip = n }

abbrev pub none : Unfinished
none = holding []

-- what is held of the bytes behind the last whole record: one that is too long "is skipped"
unfoldable pub unfinished : List ℕ → Unfinished
unfinished bs = if is_too_long bs then skipping (2 + size_in bs - length bs) else holding bs

-- what then stands before the next part. Of a record that is too long nobody knows more than how much of it is to come: 1,024 zeros
-- stand for what was skipped, and its length is the sum of both (the second number of its length field is then no byte)
unfoldable pub waiting : Unfinished → List ℕ
waiting u = if eqb u.skip 0 then take u.count u.bytes else 0 ∷ (1024 + u.skip) ∷ zeros 1024

-- whether a recording that ends here ends with a cut record
abbrev pub is_cut : Unfinished → Bool
is_cut u = not (eqb (length (waiting u)) 0)

-- ---- validity: nothing is held but one record that is not whole

-- of a record that is too long, how much is still to be skipped
pub record Skips (u : Unfinished) : Type 0 where
  pub empty : u ≡ skipping u.skip
  pub some : 0 < u.skip

-- of any other its bytes, and not the last of them
pub record Holds (u : Unfinished) : Type 0 where
  pub unskipped : u.skip ≡ 0
  pub whole : u ≡ holding (take u.count u.bytes)
  pub cut : u.count < 2 + size_in u.bytes
  pub short : 2 ≤ u.count → size_in u.bytes ≤ 1024

abbrev pub Open : Unfinished → Type 0
Open u = Skips u ⊎ Holds u

-- fields that may hold anything, read again: what they hold is one record that is not whole, or they are none
abbrev pub is_held : List ℕ → Bool
is_held bs = ltb (length bs) (2 + size_in bs) and not (is_too_long bs)

abbrev pub is_open : Unfinished → Bool
is_open u = if eqb u.skip 0 then leb u.count 1025 and is_held (take u.count u.bytes) else eqb u.count 0

-- bytes behind those that are held do not count
unfoldable pub read_again : Unfinished → Option Unfinished
read_again u = if is_open u then Some (unfinished (waiting u)) else None

-- ---- a part behind it, up to the end of one record

-- what is to be read: what is held, and the part from the place on
abbrev pub ahead : Unfinished → List ℕ → ℕ → List ℕ
ahead u part at = waiting u ++ drop at part

-- no record ends: all of the part is read
abbrev pub behind_part : List ℕ → ℕ → ℕ
behind_part part at = if leb (length part) at then at else length part

abbrev pub none_ends : List ℕ → List ℕ → ℕ → Taken
none_ends l part at = record { next = unfinished l; at = behind_part part at; found = Nothing }

-- a record with n bytes after its length field ends, of which this many were held before
abbrev pub one_ends : List ℕ → ℕ → ℕ → ℕ → Taken
one_ends l held at n =
    if ltb 1024 n then record { next = none; at = at + (2 + n - held); found = TooLong } else
    record { next = holding (take (2 + n) l); at = at + (2 + n - held); found = Held (2 + n) }

abbrev pub taken_of : List ℕ → ℕ → List ℕ → ℕ → List (List ℕ) → Taken
taken_of l held part at [] = none_ends l part at
taken_of l held part at (r ∷ rs) = one_ends l held at (length r)

-- the first record of a recording that begins with what is held
unfoldable pub taken : Unfinished → List ℕ → ℕ → Taken
taken u part at = taken_of (ahead u part at) (length (waiting u)) part at (divide (ahead u part at)).whole

-- ---- its cases, by what is held

-- a record that is too long: up to its end, or on to the end of the part
abbrev pub skipped : ℕ → List ℕ → ℕ → Taken
skipped n part at =
    if ltb (length part - at) n
    then record { next = skipping (n - (length part - at)); at = length part; found = Nothing }
    else record { next = none; at = at + n; found = TooLong }

-- more bytes behind those that are held
abbrev pub longer : Unfinished → List ℕ → Unfinished
longer u more = record { bytes = paste u.bytes u.count more (length more); count = u.count + length more; skip = 0 }

-- a record whose length field has come and says n; if that is 0, it is whole
pub record Filling (u : Unfinished) (n : ℕ) : Type 0 where
  pub unskipped : u.skip ≡ 0
  pub whole : u ≡ holding (take u.count u.bytes)
  pub size : n ≡ size_in u.bytes
  pub field : 2 ≤ u.count
  pub within : u.count ≤ 2 + n
  pub short : n ≤ 1024

-- no record of what is left of the part is whole
pub record Unended (l : List ℕ) : Type 0 where
  pub cut : length l < 2 + size_in l
