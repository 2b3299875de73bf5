-- RFC 2104 over SHA-256, for a key of one block: source document 004, table 3.1.
-- Assumes nothing.
use Rattle.std.specs.Prelude.{List, ◌++◌, map, ℕ}
use Rattle.std.specs.Int.Bits.{bit_xor}
use Rattle.sha256.specs.Hash.{sha256}

-- a key of 64 bytes, joined with a padding of 64 bytes of one value
abbrev pub key_pad : ℕ → List ℕ → List ℕ
key_pad value key = map (λ b. bit_xor b value) key

-- "sha256(concat((K ^ opad), sha256(concat((K ^ ipad), ..))))": "opad .. bytes with the value 0x5C", "ipad .. 0x36"
unfoldable pub hmac : List ℕ → List ℕ → List ℕ
hmac key message = sha256 (key_pad 0x5C key ++ sha256 (key_pad 0x36 key ++ message))
