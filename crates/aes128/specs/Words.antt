-- FIPS 197 §3.5: a column as a word of 32 bits. The code keeps a state and a round key as four such words, the byte of row 0 highest.
-- Assumes nothing.
use Rattle.std.specs.Prelude.{List, ℕ, get_or}
use Rattle.laws.specs.BigEndian.{bytes}
use Rattle.aes128.specs.State.{columns}

-- the 16 bytes of four words
unfoldable pub block_of : List ℕ → List ℕ
block_of s = columns (bytes 4 (get_or s 0 0)) (bytes 4 (get_or s 1 0)) (bytes 4 (get_or s 2 0)) (bytes 4 (get_or s 3 0))
