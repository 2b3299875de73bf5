-- Document 02 (i): "Names are 0 to 64 bytes of valid UTF-8".
-- Assumes nothing.
use Rattle.std.specs.Prelude.{Bool, true, List, [], ◌≡◌, ℕ, ◌≤◌, leb, length, take, if◌then◌else◌, Option, None, Some}
use Rattle.laws.specs.Choice.{◌and◌}
use Rattle.laws.specs.Lists.{padded}
use Rattle.names.specs.Utf8.{is_utf8}
use Rattle.names.specs.declared.Name.{Name}

-- "0 to 64 bytes of valid UTF-8"
unfoldable pub is_name : List ℕ → Bool
is_name text = leb (length text) 64 and is_utf8 text

-- the bytes of a name
abbrev pub text_of : Name → List ℕ
text_of n = take n.length n.bytes

-- the value that holds a text: its unused places are zero
abbrev pub name_of : List ℕ → Name
name_of text = record { length = length text; bytes = padded 64 0 text }

abbrev pub no_name : Name
no_name = name_of []

-- bytes are read as a name, or not at all
abbrev pub reading : List ℕ → Option Name
reading text = if is_name text then Some (name_of text) else None

-- a name whose fields may hold anything, read again
abbrev pub read_again : Name → Option Name
read_again n = if leb n.length 64 then reading (text_of n) else None

-- what holds of every name that was read
pub record Valid (n : Name) : Type 0 where
  pub few : n.length ≤ 64
  pub whole : n ≡ name_of (text_of n)
  pub text : is_utf8 (text_of n) ≡ true
