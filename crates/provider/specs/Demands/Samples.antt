-- Document 01, "Samples from the bench": all that are marked P, in one table, with those of document 02 (vi).
-- Assumes nothing.
use Rattle.std.specs.Prelude.{true, false, List, [], ◌∷◌, ◌++◌, map, ◌≡◌, ℕ, replicate, Option, Some, None}
use Rattle.laws.specs.BigEndian.{bytes}
use Rattle.laws.specs.Tabulate.{tabulate}
use Rattle.account_keys.specs.StoredList.{writing_under, writing, reading}
use Rattle.account_keys.specs.declared.AccountKey.{AccountKey}
use Rattle.account_keys.specs.declared.AccountKeys.{AccountKeys}
use Rattle.advertising.specs.declared.Prompt.TheVariants.{Show}
use Rattle.advertising.specs.Filter.{filter_size, place_of, byte_of, bit_of}
use Rattle.advertising.specs.Payload.{payload}
use Rattle.key_based.specs.Request.{salt_place}
use Rattle.pairing.specs.Pairing.{passkey_in}

-- byte and bit of a number X in a filter of s bytes
abbrev pub byte_and_bit : ℕ → ℕ → List ℕ
byte_and_bit s x = byte_of (place_of s x) ∷ bit_of (place_of s x) ∷ []

-- the number of keys that a stored list reads as; a malformed one has none to tell
abbrev pub count_of : Option AccountKeys → List ℕ
count_of (Some ks) = ks.count ∷ []
count_of None = []

abbrev pub count_read : List ℕ → List ℕ
count_read b = count_of (reading b)

-- n account keys, which differ in their last byte
abbrev pub keys : ℕ → List AccountKey
keys n = tabulate n (λ i. record { bytes = 0x04 ∷ replicate 14 0 ++ (i ∷ []) })

abbrev pub model : List ℕ
model = 0x12 ∷ 0x34 ∷ 0x56 ∷ []

-- these payloads show no salt: any will do
abbrev pub salt : List ℕ
salt = 0xC7 ∷ 0xC8 ∷ []

-- what the definitions give, and what the document prints
abbrev pub samples : List (List ℕ × List ℕ)
samples =
    -- "s for n = 1, 2, 3, 4, 5 is 4, 5, 6, 7, 9"
    (map filter_size (1 ∷ 2 ∷ 3 ∷ 4 ∷ 5 ∷ []), 4 ∷ 5 ∷ 6 ∷ 7 ∷ 9 ∷ [])
    -- and for n = 6, 7, 8, 9, 10; document 02 (vi): "Ten give a filter of 15 bytes, the most that the header can say"
    ∷ (map filter_size (6 ∷ 7 ∷ 8 ∷ 9 ∷ 10 ∷ []), 10 ∷ 11 ∷ 12 ∷ 13 ∷ 15 ∷ [])
    -- "X = 35, s = 4: byte 0, bit 3"
    ∷ (byte_and_bit 4 35, 0 ∷ 3 ∷ [])
    -- "X = 0xFFFFFFFF, s = 5: byte 1, bit 7; s = 9: byte 4, bit 7"
    ∷ (byte_and_bit 5 0xFFFFFFFF, 1 ∷ 7 ∷ [])
    ∷ (byte_and_bit 9 0xFFFFFFFF, 4 ∷ 7 ∷ [])
    -- "off, empty list: 05 16 2C FE 00 00, whole"
    ∷ (payload false model [] salt Show, 0x05 ∷ 0x16 ∷ 0x2C ∷ 0xFE ∷ 0x00 ∷ 0x00 ∷ [])
    -- "on, model 123456 hex: 06 16 2C FE 12 34 56, whole"
    ∷ (payload true model [] salt Show, 0x06 ∷ 0x16 ∷ 0x2C ∷ 0xFE ∷ 0x12 ∷ 0x34 ∷ 0x56 ∷ [])
    -- document 02 (vi): "the empty stored list: written it is now 00 02 02 00", whole
    ∷ (writing [], 0x00 ∷ 0x02 ∷ 0x02 ∷ 0x00 ∷ [])
    -- "and 00 02 01 00 is still read": both are
    ∷ (count_read (0x00 ∷ 0x02 ∷ 0x01 ∷ 0x00 ∷ []), 0 ∷ [])
    ∷ (count_read (0x00 ∷ 0x02 ∷ 0x02 ∷ 0x00 ∷ []), 0 ∷ [])
    -- "version 0x02, with count up to 10", and "0x01 is still read, with at most 5": from both sides
    ∷ (count_read (writing_under 0x02 (keys 10)), 10 ∷ [])
    ∷ (count_read (writing_under 0x02 (keys 11)), [])
    ∷ (count_read (writing_under 0x01 (keys 5)), 5 ∷ [])
    ∷ (count_read (writing_under 0x01 (keys 6)), [])
    -- "passkey 123456 is 01 E2 40"
    ∷ (bytes 3 123456, 0x01 ∷ 0xE2 ∷ 0x40 ∷ [])
    -- and read back from a block of type 0x02
    ∷ (passkey_in (0x02 ∷ 0x01 ∷ 0xE2 ∷ 0x40 ∷ []) ∷ [], 123456 ∷ [])
    -- "flags 0x80: salt from byte 8; 0x40 and 0x10: from byte 14"
    ∷ (salt_place 0x80 ∷ [], 8 ∷ [])
    ∷ (salt_place 0x40 ∷ [], 14 ∷ [])
    ∷ (salt_place 0x10 ∷ [], 14 ∷ [])
    ∷ []

-- both sides of every row are equal: the table's two columns are the same
abbrev pub SamplesAgree : Type 0
SamplesAgree = map (λ s. s.0) samples ≡ map (λ s. s.1) samples
