-- Document 01, "Stored list": how the account keys are written to memory that lasts, and read back; document 02 (vi): the list's two
-- versions.
-- Assumes nothing.
use Rattle.std.specs.Prelude.{Bool, List, [], ◌∷◌, ◌++◌, ℕ, zero, suc, ◌+◌, ◌-◌, ◌*◌, leb, eqb, length, get_or, if◌then◌else◌, Option, None, Some}
use Rattle.laws.specs.BigEndian.{bytes, number2}
use Rattle.laws.specs.Choice.{◌and◌}
use Rattle.account_keys.specs.Keys.{limit, kept, owned}
use Rattle.account_keys.specs.declared.AccountKey.{AccountKey}
use Rattle.account_keys.specs.declared.AccountKeys.{AccountKeys}
use Rattle.basics.specs.Bytes.{part}

-- "n keys of 16 bytes", one after the other
unfoldable pub key_bytes : List AccountKey → List ℕ
key_bytes [] = []
key_bytes (k ∷ ks) = k.bytes ++ key_bytes ks

-- "Two-byte big-endian length of what follows, version byte 0x01, count n, then n keys of 16 bytes. Length is 2 + 16n", for every
-- version
unfoldable pub writing_under : ℕ → List AccountKey → List ℕ
writing_under version l = bytes 2 (2 + 16 * length l) ++ (version ∷ length l ∷ key_bytes l)

-- document 02 (vi): "what we write is always 0x02"
abbrev pub writing : List AccountKey → List ℕ
writing l = writing_under 0x02 l

-- "Writing needs 4 + 16n bytes": the most bytes that a stored list has
abbrev pub stored_list_max : ℕ
stored_list_max = 4 + 16 * limit

-- key i of a stored list, counted from 0
abbrev pub key_at : List ℕ → ℕ → AccountKey
key_at b i = record { bytes = part 16 (4 + 16 * i) b }

-- its first n keys
unfoldable pub keys_in : List ℕ → ℕ → List AccountKey
keys_in b zero = []
keys_in b (suc n) = keys_in b n ++ (key_at b n ∷ [])

-- "Two-byte big-endian length of what follows", "version byte 0x01", "n above 5" is malformed, "Length is 2 + 16n", for every version
-- and the most keys that a list of it has
unfoldable pub well_sized : ℕ → ℕ → List ℕ → Bool
well_sized version most b =
    leb 4 (length b)
    and eqb (number2 (get_or b 0 0) (get_or b 1 0)) (length b - 2)
    and eqb (get_or b 2 0) version
    and leb (get_or b 3 0) most
    and eqb (length b) (4 + 16 * get_or b 3 0)

-- "a key not starting with 0x04, a key twice" is malformed
abbrev pub reading_of : List AccountKey → Option AccountKeys
reading_of l = if owned l then Some (kept l) else None

-- a list is read whole, or not at all
unfoldable pub reading_under : ℕ → ℕ → List ℕ → Option AccountKeys
reading_under version most b = if well_sized version most b then reading_of (keys_in b (get_or b 3 0)) else None

-- document 01's reader, and so that of firmware before request (vi)
abbrev pub older_reading : List ℕ → Option AccountKeys
older_reading b = reading_under 0x01 5 b

-- document 02 (vi): "Version 0x01 is still read, with at most 5"; "version 0x02, with count up to 10"
unfoldable pub reading : List ℕ → Option AccountKeys
reading b = if eqb (get_or b 2 0) 0x01 then older_reading b else reading_under 0x02 limit b
