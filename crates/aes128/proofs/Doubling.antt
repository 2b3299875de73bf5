-- A word doubled as a whole: each byte of the result is XTIMES of that byte. No bit passes from one byte to the next.
-- Assumes nothing.
use mathlib.Core.Path.{◌≡◌, refl, sym, ◌∙◌, ap, ap₂}
use mathlib.Core.List.{[], ◌∷◌}
use Prim.Native.Nat.{ℕ, ◌-◌, ◌*◌, ◌/◌, ◌%◌, ◌^◌, ◌<◌}
use native.Mathlib.Nat.{lt_of_le_of_lt}
use native.Mathlib.Omega.{arith}
use lib.Bits.{bit_and, and_shr, and_mod, and_mask, and_high, and_le_r}
use lib.Dec.{lit<}
use lib.ListN.{get_or}
use Rattle.laws.specs.BigEndian.{bytes, number}
use Rattle.laws.specs.Tabulate.{tabulate}
use Rattle.laws.proofs.Bitwise.{by_bit}
use Rattle.aes128.specs.Field.{◌⊕◌, bit, x_times}
use Rattle.aes128.specs.KeyExpansion.{xor_word}
use Rattle.aes128.specs.Steps.{doubled}
use Rattle.aes128.proofs.Field.{bit_lt, x_times_is}
use Rattle.aes128.proofs.Words.{byte, bytes_of, word_of, xor_bytes}

and_byte : (a b k : ℕ) → byte (bit_and a b) k ≡ bit_and (byte a k) (byte b k)
and_byte a b k = rw (and_shr a b k) (and_mod (a / 2 ^ k) (b / 2 ^ k) 8)

-- the seven lower bits of a byte
low_byte : (w k : ℕ) → byte 0x7f7f7f7f k ≡ 0x7f → byte (bit_and w 0x7f7f7f7f) k ≡ byte w k % 128
low_byte w k e = and_byte w 0x7f7f7f7f k ∙ rw e (and_mask (byte w k) 7)

-- and its highest
high_byte : (w k : ℕ) → byte 0x80808080 k ≡ 0x80 → byte (bit_and w 0x80808080) k ≡ bit (byte w k) 7 * 128
high_byte w k e = and_byte w 0x80808080 k ∙ rw e (and_high (byte w k) 1 7)

-- bytes below 128 have room for a shift by one
shifted : (v a b c d : ℕ) → a < 128 → b < 128 → c < 128 → d < 128 → v ≡ number (a ∷ b ∷ c ∷ d ∷ [])
    → bytes 4 (v * 2 % 2 ^ 32) ≡ a * 2 ∷ b * 2 ∷ c * 2 ∷ d * 2 ∷ []
shifted v a b c d ha hb hc hd e =
    bytes_of (v * 2 % 2 ^ 32) (a * 2) (b * 2) (c * 2) (d * 2) (omega arith) (omega arith) (omega arith) (omega arith)
    (rw e (omega arith))

-- a set bit less the same seven places lower leaves these seven
masked : (h a b c d : ℕ) → a < 2 → b < 2 → c < 2 → d < 2 → h ≡ number (a * 128 ∷ b * 128 ∷ c * 128 ∷ d * 128 ∷ [])
    → bytes 4 (h - h / 2 ^ 7) ≡ a * 127 ∷ b * 127 ∷ c * 127 ∷ d * 127 ∷ []
masked h a b c d ha hb hc hd e =
    bytes_of (h - h / 2 ^ 7) (a * 127) (b * 127) (c * 127) (d * 127) (omega arith) (omega arith) (omega arith) (omega arith)
    (rw e (omega arith))

-- the mask lets {1b} through where the bit is set
reduced : (h : ℕ) → h < 2 → bit_and (h * 127) 27 ≡ h * 27
reduced = by_bit (λ h. bit_and (h * 127) 27 ≡ h * 27) refl refl

-- XTIMES of one byte, by its lower bits and its highest
x_times_parts : (b : ℕ) → b < 256 → b % 128 * 2 ⊕ bit_and (bit b 7 * 127) 27 ≡ x_times b
x_times_parts b h =
    let e : b % 128 * 2 ≡ b * 2 % 256 = omega arith in
    rw (e, reduced (bit b 7) (bit_lt b 7)) (sym (x_times_is b))

and_bytes : (a b : ℕ) → bytes 4 (bit_and a b) ≡ tabulate 4 (λ r. bit_and (get_or (bytes 4 a) r 0) (get_or (bytes 4 b) r 0))
and_bytes a b = rw (and_byte a b 24, and_byte a b 16, and_byte a b 8, and_byte a b 0)

-- v has the lower bits of each byte of w, h the highest
module _ (w : ℕ) where
  v : ℕ
  v = bit_and w 0x7f7f7f7f

  h : ℕ
  h = bit_and w 0x80808080

  low-bytes : bytes 4 (v * 2 % 2 ^ 32) ≡ tabulate 4 (λ r. get_or (bytes 4 w) r 0 % 128 * 2)
  unfolding v
  low-bytes =
      shifted v (byte w 24 % 128) (byte w 16 % 128) (byte w 8 % 128) (byte w 0 % 128) (omega arith) (omega arith) (omega arith)
      (omega arith)
      (word_of v (lt_of_le_of_lt (and_le_r w 0x7f7f7f7f) (lit< tt)) (low_byte w 24 refl) (low_byte w 16 refl) (low_byte w 8 refl)
      (low_byte w 0 refl))

  high-bytes : bytes 4 (h - h / 2 ^ 7) ≡ tabulate 4 (λ r. bit (get_or (bytes 4 w) r 0) 7 * 127)
  unfolding h
  high-bytes =
      masked h (bit (byte w 24) 7) (bit (byte w 16) 7) (bit (byte w 8) 7) (bit (byte w 0) 7)
      (bit_lt (byte w 24) 7) (bit_lt (byte w 16) 7) (bit_lt (byte w 8) 7) (bit_lt (byte w 0) 7)
      (word_of h (lt_of_le_of_lt (and_le_r w 0x80808080) (lit< tt)) (high_byte w 24 refl) (high_byte w 16 refl)
      (high_byte w 8 refl) (high_byte w 0 refl))

-- the code's doubling of a word, in the order of its operations
pub double_bytes : (w : ℕ)
    → bytes 4 (bit_and w 0x7f7f7f7f * 2 % 2 ^ 32 ⊕ bit_and (bit_and w 0x80808080 - bit_and w 0x80808080 / 2 ^ 7) 0x1b1b1b1b)
    ≡ doubled (bytes 4 w)
unfolding v h
double_bytes w =
    xor_bytes (v w * 2 % 2 ^ 32) (bit_and (h w - h w / 2 ^ 7) 0x1b1b1b1b)
    ∙ ap₂ xor_word (low-bytes w)
    (and_bytes (h w - h w / 2 ^ 7) 0x1b1b1b1b ∙ ap (λ l. tabulate 4 (λ r. bit_and (get_or l r 0) 0x1b)) (high-bytes w))
    ∙ rw (
      x_times_parts (byte w 24) (omega arith),
      x_times_parts (byte w 16) (omega arith),
      x_times_parts (byte w 8) (omega arith),
      x_times_parts (byte w 0) (omega arith),
    )
