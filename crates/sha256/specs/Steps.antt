-- What the private functions of src/ return: parts of the standard's steps, in the room that the code has for them.
-- Assumes nothing.
use Rattle.std.specs.Prelude.{ℕ, ◌/◌, List, ◌++◌, length}
use Rattle.laws.specs.Lists.{padded}
use Rattle.sha256.specs.Hash.{hashed, joined}
use Rattle.sha256.specs.Padding.{padding, words}
use Rattle.sha256.specs.declared.Hash.{Hash}
use Rattle.sha256.specs.declared.LastBlocks.{LastBlocks}

-- a block's sixteen words, in the room of the whole schedule
abbrev pub message_words : List ℕ → List ℕ
message_words b = padded 64 0 (words b 16)

-- of a message of n bytes, those after its last whole block and the padding, in the room of two blocks
abbrev pub last_blocks : List ℕ → ℕ → LastBlocks
last_blocks rest n = record { bytes = padded 128 0 (rest ++ padding n); end = length (rest ++ padding n) }

-- the digest of a message of n bytes that ends with `rest`, from the hash value h of the whole blocks before it
abbrev pub digest_rest : Hash → List ℕ → ℕ → List ℕ
digest_rest h rest n = joined (hashed h (rest ++ padding n) (length (rest ++ padding n) / 64))
