-- A word of 32 bits and its four bytes: joined, added, rotated.
-- Assumes nothing.
use mathlib.Core.Path.{◌≡◌, refl, sym, ◌∙◌, ap}
use mathlib.Core.List.{[], ◌∷◌}
use Prim.Native.Nat.{ℕ, ◌+◌, ◌*◌, ◌/◌, ◌%◌, ◌^◌, ◌<◌}
use native.Mathlib.Omega.{arith}
use lib.Bits.{bit_or, xor_shr, xor_mod}
use Rattle.laws.specs.BigEndian.{bytes, number}
use Rattle.laws.proofs.BigEndian.{or_add, be_number}
use Rattle.laws.proofs.Numbers.{number_read, bytes_number}
use Rattle.std.specs.Int.{w32, from_be_bytes}
use Rattle.aes128.specs.Field.{◌⊕◌}
use Rattle.aes128.specs.KeyExpansion.{rot_word, xor_word}

-- the byte of x whose lowest bit is bit k
abbrev pub byte : ℕ → ℕ → ℕ
byte x k = x / 2 ^ k % 2 ^ 8

-- the number of four bytes has these bytes
pub bytes_of : (x a b c d : ℕ) → a < 256 → b < 256 → c < 256 → d < 256
    → x ≡ number (a ∷ b ∷ c ∷ d ∷ []) → bytes 4 x ≡ a ∷ b ∷ c ∷ d ∷ []
bytes_of x a b c d ha hb hc hd e = ap (bytes 4) e ∙ bytes_number (a ∷ b ∷ c ∷ d ∷ []) (ha, (hb, (hc, (hd, tt))))

-- and a number is told by its bytes
pub word_of : (x : ℕ) → x < 2 ^ 32 → {a b c d : ℕ} → byte x 24 ≡ a → byte x 16 ≡ b → byte x 8 ≡ c → byte x 0 ≡ d
    → x ≡ number (a ∷ b ∷ c ∷ d ∷ [])
word_of x h p q r s = sym (number_read 4 x h) ∙ rw (p, q, r, s)

-- the word of four bytes has these bytes
pub join_bytes : (a b c d : ℕ) {x : ℕ} → a < 256 → b < 256 → c < 256 → d < 256
    → x ≡ from_be_bytes w32 (a ∷ b ∷ c ∷ d ∷ []) → bytes 4 x ≡ a ∷ b ∷ c ∷ d ∷ []
join_bytes a b c d {x} ha hb hc hd e =
    bytes_of x a b c d ha hb hc hd (e ∙ be_number w32 (a ∷ b ∷ c ∷ d ∷ []) refl)

xor_byte : (a b k : ℕ) → byte (a ⊕ b) k ≡ byte a k ⊕ byte b k
xor_byte a b k = rw (xor_shr a b k) (xor_mod (a / 2 ^ k) (b / 2 ^ k) 8)

pub xor_bytes : (a b : ℕ) → bytes 4 (a ⊕ b) ≡ xor_word (bytes 4 a) (bytes 4 b)
xor_bytes a b = rw (xor_byte a b 24, xor_byte a b 16, xor_byte a b 8, xor_byte a b 0)

-- ROTWORD is a rotation by eight bits
rot_number : (w a b c d : ℕ) → a < 256 → b < 256 → c < 256 → d < 256 → w ≡ number (a ∷ b ∷ c ∷ d ∷ [])
    → w * 2 ^ 8 % 2 ^ 32 + w / 2 ^ 24 ≡ number (b ∷ c ∷ d ∷ a ∷ [])
rot_number w a b c d ha hb hc hd e =
    let high : w / 2 ^ 24 ≡ a = omega arith in
    let low : w * 2 ^ 8 % 2 ^ 32 ≡ b * 2 ^ 24 + c * 2 ^ 16 + d * 2 ^ 8 = omega arith in
    rw (high, low) (omega arith)

pub rot_bytes : (w : ℕ) → w < 2 ^ 32 → bytes 4 (bit_or (w * 2 ^ 8 % 2 ^ 32) (w / 2 ^ 24)) ≡ rot_word (bytes 4 w)
rot_bytes w h =
    bytes_of (bit_or (w * 2 ^ 8 % 2 ^ 32) (w / 2 ^ 24)) (byte w 16) (byte w 8) (byte w 0) (byte w 24)
    (omega arith) (omega arith) (omega arith) (omega arith)
    (or_add 8 (w % 2 ^ 24) (omega arith) (omega arith)
    ∙ rot_number w (byte w 24) (byte w 16) (byte w 8) (byte w 0) (omega arith) (omega arith) (omega arith) (omega arith)
    (word_of w h refl refl refl refl))
