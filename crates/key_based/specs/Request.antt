-- Document 01, "Key-based write": the keys that are tried, the block as a key opens it, and the response. Which address it names is
-- `Named`'s.
-- Assumes nothing.
use Rattle.std.specs.Prelude.{Bool, not, List, [], ◌∷◌, ◌++◌, map, ℕ, ◌+◌, ◌-◌, eqb, length, take, drop, get_or, replicate, Option, Some, None, if◌then◌else◌}
use Rattle.std.specs.Int.Bits.{bit_and}
use Rattle.laws.specs.Choice.{◌or◌}
use Rattle.account_keys.specs.declared.AccountKey.{AccountKey}
use Rattle.aes128.specs.Cipher.{cipher, inv_cipher}
use Rattle.basics.specs.declared.Address.{Address}
use Rattle.request_guard.specs.declared.Salt.{Salt}
use Rattle.sha256.specs.Hash.{sha256}

-- "16 bytes, or 80 with a public key"
abbrev pub has_public_key : List ℕ → Bool
has_public_key request = eqb (length request) 80

abbrev pub sized : List ℕ → Bool
sized request = eqb (length request) 16 or has_public_key request

-- "With 80, the only candidate key is the first 16 bytes of SHA-256 of the element's secret; a rejected point gives no
-- candidate."
abbrev pub of_secret : Option (List ℕ) → List (List ℕ)
of_secret None = []
of_secret (Some secret) = take 16 (sha256 secret) ∷ []

-- "With 16, keys are tried in list order"
unfoldable pub candidates : List AccountKey → Option (List ℕ) → List ℕ → List (List ℕ)
candidates keys secret request =
    if has_public_key request then of_secret secret else map (λ k. k.bytes) keys

-- the encrypted request, its first 16 bytes, as a key decrypts it
abbrev pub opened : List ℕ → List ℕ → List ℕ
opened key request = inv_cipher key (take 16 request)

-- the first key that fits with its place, counted from 1, or the number of keys that were tried
pub data Place : Type 0 where
  found : ℕ → List ℕ → Place
  nothing : ℕ → Place

-- "trying stops at the first that fits", after n others
unfoldable pub search : (List ℕ → Bool) → ℕ → List (List ℕ) → Place
search test n [] = nothing n
search test n (k ∷ ks) = if test k then found (n + 1) k else search test (n + 1) ks

-- a flag is set
abbrev pub flagged : ℕ → ℕ → Bool
flagged flag flags = not (eqb (bit_and flags flag) 0)

-- "The salt is bytes 14 to 15 if flags 0x40 or 0x10 is set, else 8 to 15."
abbrev pub salt_place : ℕ → ℕ
salt_place flags = if flagged 0x50 flags then 14 else 8

abbrev pub salt_at : ℕ → List ℕ → Salt
salt_at place plain =
    record {
      length = length (drop place plain);
      bytes = drop place plain ++ replicate
          (8 - length (drop place plain)) 0;
    }

abbrev pub request_salt : List ℕ → Salt
request_salt plain = salt_at (salt_place (get_or plain 1 0)) plain

-- "Flag 0x40 also hands out the address in bytes 8 to 13 for bonding."
abbrev pub bond_asked : List ℕ → Option Address
bond_asked plain =
    if flagged 0x40 (get_or plain 1 0) then Some (record { bytes = take 6 (drop 8 plain) }) else None

-- document 02 (i): "Phones set request flag 0x20 and expect the name"
abbrev pub name_asked : List ℕ → Bool
name_asked plain = flagged 0x20 (get_or plain 1 0)

-- "the response is 0x01, public address (6), event salt (9), encrypted with K"
unfoldable pub response : List ℕ → Address → List ℕ → List ℕ
response key public salt = cipher key (0x01 ∷ public.bytes ++ salt)
