-- Source document 004, the counter mode of additional data.
-- Assumes nothing.
use Rattle.std.specs.Prelude.{List, ◌++◌, ℕ, ◌/◌, ◌%◌, length, get_or, replicate}
use Rattle.std.specs.Int.Bits.{bit_xor}
use Rattle.laws.specs.BigEndian.{bytes}
use Rattle.laws.specs.Tabulate.{tabulate}
use Rattle.aes128.specs.Cipher.{cipher}

-- "AES(key, concat((uint8) i, 0x00000000000000, nonce))"
abbrev pub key_stream : List ℕ → List ℕ → ℕ → List ℕ
key_stream key nonce i = cipher key (bytes 1 i ++ replicate 7 0 ++ nonce)

-- "encryptedBlock[i] = clearBlock[i] ^ AES(..)", where a block is "the 16-byte block starting at data[i * 16]": byte j of the data
-- belongs to block j div 16
unfoldable pub counter_mode : List ℕ → List ℕ → List ℕ → List ℕ
counter_mode key nonce text =
    tabulate (length text) (λ j. bit_xor (get_or text j 0) (get_or (key_stream key nonce (j / 16)) (j % 16) 0))
