-- Document 02 (i): the packet that carries a name.
-- Assumes nothing.
use Rattle.std.specs.Prelude.{Bool, List, ◌++◌, ℕ, ◌+◌, leb, length, take, drop, replicate, if◌then◌else◌, Option, None}
use Rattle.laws.specs.Choice.{◌and◌}
use Rattle.additional_data.specs.CounterMode.{counter_mode}
use Rattle.basics.specs.Bytes.{same}
use Rattle.hmac_sha256.specs.Hmac.{hmac}
use Rattle.names.specs.Name.{reading, text_of}
use Rattle.names.specs.declared.Name.{Name}

-- "The HMAC key is K and 48 zero bytes", "the first 8 bytes of HMAC-SHA256"
abbrev pub tag : List ℕ → List ℕ → List ℕ
tag key message = take 8 (hmac (key ++ replicate 48 0) message)

-- "the first 8 bytes of HMAC-SHA256 over nonce and ciphertext, an 8-byte nonce, then the data under the counter mode"
unfoldable pub sealed : List ℕ → List ℕ → List ℕ → List ℕ
sealed key nonce text =
    tag key (nonce ++ counter_mode key nonce text) ++ nonce ++ counter_mode key nonce text

-- "Any size but 16 to 80 gets 2"
abbrev pub packet_sized : List ℕ → Bool
packet_sized packet = leb 16 (length packet) and leb (length packet) 80

abbrev pub nonce_in : List ℕ → List ℕ
nonce_in packet = take 8 (drop 8 packet)

abbrev pub tag_fits : List ℕ → List ℕ → Bool
tag_fits key packet = same (take 8 packet) (tag key (drop 8 packet))

-- the name that a packet carries; "a wrong tag or bad UTF-8" carries none
unfoldable pub opened : List ℕ → List ℕ → Option Name
opened key packet =
    if packet_sized packet and tag_fits key packet
    then reading (counter_mode key (nonce_in packet) (drop 16 packet))
    else None

-- the packet of a name has 16 bytes more
abbrev pub packet_size : Name → ℕ
packet_size name = 16 + length (text_of name)
