-- What holds of the filter of every list of keys, with every salt, of the payload, and of the filter that is kept.
-- Assumes nothing.
use Rattle.std.specs.Prelude.{Bool, ◌≡◌, ℕ, ◌/◌, ◌%◌, ◌^◌, ◌≤◌, length, get_or, replicate}
use mathlib.Core.List.{List, [], ◌++◌, Permᴰ}
use Rattle.laws.specs.Lists.{All}
use Rattle.account_keys.specs.Keys.{limit}
use Rattle.account_keys.specs.declared.AccountKey.{AccountKey}
use Rattle.advertising.specs.Beacon.{Current, beacon_payload}
use Rattle.advertising.specs.Filter.{numbers, place_of, byte_of, bit_of, filter, filter_max, kept_filter}
use Rattle.advertising.specs.Payload.{payload}
use Rattle.advertising.specs.declared.Beacon.{Beacon}
use Rattle.advertising.specs.declared.Prompt.{Prompt}
use Rattle.sha256.specs.Hash.{sha256}

-- "bit M mod 8 of byte M div 8, bit 0 lowest" is one
abbrev pub HasBit : List ℕ → ℕ → Type 0
HasBit f m = get_or f (byte_of m) 0 / 2 ^ bit_of m % 2 ≡ 1

-- a phone's test: the filter, whose length is s, has the bits of all eight numbers of the phone's key
abbrev pub Finds : List ℕ → List ℕ → AccountKey → Type 0
Finds f salt k = All (λ x. HasBit f (place_of (length f) x)) (numbers (sha256 (k.bytes ++ salt)))

-- every owner's phone finds its key
abbrev pub EveryKeyIsFound : Type 0
EveryKeyIsFound = (keys : List AccountKey) (salt : List ℕ) → All (Finds (filter keys salt) salt) keys

-- the order of the keys changes no byte: `List.Permᴰ` is the library's "the same elements, in any order"
abbrev pub OrderIsFree : Type 0
OrderIsFree =
    (keys other : List AccountKey) (salt : List ℕ) → Permᴰ keys other → filter keys salt
    ≡ filter other salt

-- and so none of the payload
abbrev pub PayloadHidesOrder : Type 0
PayloadHidesOrder =
    (pairing : Bool) (model : List ℕ) (keys other : List AccountKey) (salt : List ℕ) (prompt : Prompt) → Permᴰ keys other
    → payload pairing model keys salt prompt ≡ payload pairing model other salt prompt

-- ---- document 02 (v): the filter is kept

-- "A change of order alone changes none of its bytes": a beacon that is current stays so
abbrev pub OrderKeepsCurrent : Type 0
OrderKeepsCurrent =
    (b : Beacon) (keys other : List AccountKey) → Permᴰ keys other → Current b keys → Current b other

-- "Payload bytes stay those of document 01"
abbrev pub PayloadStays : Type 0
PayloadStays =
    (b : Beacon) (model : List ℕ) (keys : List AccountKey) (prompt : Prompt) → Current b keys
    → beacon_payload b model (length keys) prompt ≡ payload b.pairing model keys b.salt prompt

-- of a list within the limit the filter has its room, with an empty list zeros
abbrev pub KeptWithinRoom : Type 0
KeptWithinRoom = (keys : List AccountKey) (salt : List ℕ) → length keys ≤ limit → length (kept_filter keys salt) ≡ filter_max

abbrev pub NoKeysNoBits : Type 0
NoKeysNoBits = (salt : List ℕ) → kept_filter [] salt ≡ replicate filter_max 0
