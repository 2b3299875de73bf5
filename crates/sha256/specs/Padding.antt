-- FIPS 180-4, §5.1.1 and §5.2.1: a message of whole bytes is padded to whole blocks of 64 bytes, and cut into them.
-- Assumes nothing.
use Rattle.std.specs.Prelude.{ℕ, zero, suc, ◌+◌, ◌-◌, ◌*◌, ◌%◌, ◌^◌, List, [], ◌∷◌, ◌++◌, length, take, drop, replicate, slice_index}
use Rattle.laws.specs.BigEndian.{bytes, number4}

-- §5.1.1, after n bytes: "Append the bit "1" to the end of the message, followed by k zero bits, where k is the smallest,
-- non-negative solution to the equation l + 1 + k ≡ 448 mod 512. Then append the 64-bit block that is equal to the number l"
unfoldable pub padding : ℕ → List ℕ
padding n = 0x80 ∷ (replicate ((119 - n % 64) % 64) 0 ++ bytes 8 (n * 8 % 2 ^ 64))

unfoldable pub pad : List ℕ → List ℕ
pad m = m ++ padding (length m)

-- §5.2.1 "parsed into N 512-bit blocks, M^(1), M^(2), .., M^(N)", counted from 0
unfoldable pub block : List ℕ → ℕ → List ℕ
block m i = take 64 (drop (i * 64) m)

-- §5.2.1 "Since the 512 bits of the input block may be expressed as sixteen 32-bit words", word j of the block
unfoldable pub word : List ℕ → ℕ → ℕ
word b j =
    number4 (slice_index b (j * 4)) (slice_index b (j * 4 + 1)) (slice_index b (j * 4 + 2)) (slice_index b (j * 4 + 3))

-- its first n words
unfoldable pub words : List ℕ → ℕ → List ℕ
words b zero = []
words b (suc n) = words b n ++ (word b n ∷ [])
