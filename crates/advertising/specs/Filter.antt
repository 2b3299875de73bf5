-- Document 01, "Advertising": the account key filter; document 02 (v): as it is kept.
-- Assumes nothing.
use mathlib.Core.List.{List, ◌++◌, foldl}
use Rattle.std.specs.Prelude.{ℕ, ◌+◌, ◌*◌, ◌/◌, ◌%◌, ◌^◌, length, set, get_or, replicate}
use Rattle.std.specs.Int.Bits.{bit_or}
use Rattle.laws.specs.BigEndian.{number4}
use Rattle.laws.specs.Lists.{padded}
use Rattle.laws.specs.Tabulate.{tabulate}
use Rattle.account_keys.specs.Keys.{limit}
use Rattle.account_keys.specs.declared.AccountKey.{AccountKey}
use Rattle.sha256.specs.Hash.{sha256}

-- "s = 6n div 5, plus 3"
abbrev pub filter_size : ℕ → ℕ
filter_size n = 6 * n / 5 + 3

-- number i of a hash, counted from 0
abbrev pub number_at : List ℕ → ℕ → ℕ
number_at h i =
    number4 (get_or h (4 * i) 0) (get_or h (4 * i + 1) 0) (get_or h (4 * i + 2) 0) (get_or h (4 * i + 3) 0)

-- "cut into eight big-endian numbers X"
unfoldable pub numbers : List ℕ → List ℕ
numbers h = tabulate 8 (number_at h)

-- "M = X mod 8s"
abbrev pub place_of : ℕ → ℕ → ℕ
place_of s x = x % (8 * s)

-- "byte M div 8"
abbrev pub byte_of : ℕ → ℕ
byte_of m = m / 8

-- "bit M mod 8", "bit 0 lowest"
abbrev pub bit_of : ℕ → ℕ
bit_of m = m % 8

-- "sets bit M mod 8 of byte M div 8, bit 0 lowest"
unfoldable pub with_bit : List ℕ → ℕ → List ℕ
with_bit f m = set f (byte_of m) (bit_or (get_or f (byte_of m) 0) (2 ^ bit_of m))

-- "each sets bit M mod 8 of byte M div 8": one number of a key
abbrev pub with_number : ℕ → List ℕ → ℕ → List ℕ
with_number s f x = with_bit f (place_of s x)

-- "For each key, SHA-256 of key and salt is cut into eight big-endian numbers X"
unfoldable pub with_key : ℕ → List ℕ → List ℕ → AccountKey → List ℕ
with_key s salt f k = foldl (with_number s) f (numbers (sha256 (k.bytes ++ salt)))

-- "The filter starts as zeros. For each key, .."
unfoldable pub filter : List AccountKey → List ℕ → List ℕ
filter keys salt =
    let s = filter_size (length keys) in
    foldl (with_key s salt) (replicate s 0) keys

-- the most bytes that a filter has
abbrev pub filter_max : ℕ
filter_max = filter_size limit

-- document 02 (v): "Keep it in the state". "the filter built afresh from the list and salt", in a room for the longest one; the
-- unused bytes are zero
unfoldable pub kept_filter : List AccountKey → List ℕ → List ℕ
kept_filter keys salt = padded filter_max 0 (filter keys salt)
