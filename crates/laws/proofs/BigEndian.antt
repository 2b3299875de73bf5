-- The library's big-endian methods at each width, and numbers joined by or.
-- Assumes nothing.
use mathlib.Core.List.{List, [], ◌∷◌}
use mathlib.Core.Path.{◌≡◌, refl, ap₂, ◌∙◌}
use Prim.Native.Nat.{ℕ, zero, suc, ◌+◌, ◌-◌, ◌*◌, ◌/◌, ◌%◌, ◌^◌, ◌<◌}
use native.Mathlib.Nat.{suc-sub-suc, sub-zero, div-one, add_assoc, pow-suc}
use native.Mathlib.Omega.{arith}
use lib.Bits.{bit_or, or_shifted}
use lib.Pow.{pow-add}
use lib.ListN.{length, get_or}
use Rattle.std.specs.Int.{Width, w8, w16, w32, w64, w128, byte_len, byte_at, byte_worth, bytes_high_first, sum_through, to_be_bytes, from_be_bytes}
use Rattle.laws.specs.BigEndian.{bytes, number, number4}

power : (k : ℕ) → 256 ^ k ≡ 2 ^ (k * 8)
power zero = refl
power (suc k) =
    let next : suc k * 8 ≡ k * 8 + 8 = omega arith in rw (next, pow-add 2 (k * 8) 8, pow-suc 256 k, power k)

byte_is : (k x : ℕ) → byte_at k x ≡ x / 2 ^ (k * 8) % 2 ^ 8
byte_is zero x = rw div-one
byte_is (suc k) x = rw (power (suc k))

high_first : (k x : ℕ) → bytes_high_first k x ≡ bytes k x
high_first zero x = refl
high_first (suc k) x = ap₂ ◌∷◌ (byte_is k x) (high_first k x)

-- what `to_be_bytes` of an unsigned type gives
pub be_bytes : (w : Width) (x : ℕ) → to_be_bytes w x ≡ bytes (byte_len w) x
be_bytes w x = high_first (byte_len w) x

worth_is : (k b : ℕ) → byte_worth k b ≡ b * 2 ^ (k * 8)
worth_is zero b = omega arith
worth_is (suc k) b = rw (power (suc k))

sum_ext : (f g : ℕ → ℕ) → ((i : ℕ) → f i ≡ g i) → (k : ℕ) → sum_through f k ≡ sum_through g k
sum_ext f g e zero = e 0
sum_ext f g e (suc k) = ap₂ ◌+◌ (sum_ext f g e k) (e (suc k))

-- the first one apart
sum_front : (f : ℕ → ℕ) (k : ℕ) → sum_through f (suc k) ≡ f 0 + sum_through (λ i. f (suc i)) k
sum_front f zero = refl
sum_front f (suc k) = rw (sum_front f k) (add_assoc _ _ _)

joined : (k : ℕ) (l : List ℕ) → length l ≡ suc k
    → sum_through (λ i. byte_worth (k - i) (get_or l i 0)) k ≡ number l
joined k [] e = absurd (omega arith)
joined zero (x ∷ []) e = omega arith
joined zero (x ∷ y ∷ l) e = absurd (omega arith)
joined (suc k) (x ∷ l) e =
    let long : length l ≡ suc k = omega arith in
    sum_front (λ i. byte_worth (suc k - i) (get_or (x ∷ l) i 0)) k
    ∙ rw (
      long,
      sub-zero,
      worth_is (suc k) x,
      sum_ext (λ i. byte_worth (suc k - suc i) (get_or l i 0)) (λ i. byte_worth (k - i) (get_or l i 0))
          (λ i. rw suc-sub-suc) k,
      joined k l long,
    )

-- what `from_be_bytes` of an unsigned type makes of that many bytes
pub be_number : (w : Width) (l : List ℕ) → length l ≡ byte_len w → from_be_bytes w l ≡ number l
be_number w8 l e = joined 0 l e
be_number w16 l e = joined 1 l e
be_number w32 l e = joined 3 l e
be_number w64 l e = joined 7 l e
be_number w128 l e = joined 15 l e

-- a number whose k lowest bits are zero, and one of k bits
pub or_add : (k q : ℕ) {x y : ℕ} → x ≡ q * 2 ^ k → y < 2 ^ k → bit_or x y ≡ x + y
or_add k q {x} {y} e h = rw e (or_shifted q k y h)

-- the same of four bytes, written out
pub be_number4 : (a b c d : ℕ) → from_be_bytes w32 (a ∷ b ∷ c ∷ d ∷ []) ≡ number4 a b c d
be_number4 a b c d = be_number w32 (a ∷ b ∷ c ∷ d ∷ []) refl ∙ omega arith
