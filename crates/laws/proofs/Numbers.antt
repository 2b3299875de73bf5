-- Laws of numbers and their bytes, the most significant byte first.
-- Assumes nothing.
use mathlib.Core.List.{List, [], ◌∷◌, ◌++◌}
use mathlib.Core.Path.{◌≡◌, refl, sym, ap, ap₂, ◌∙◌}
use Prim.Native.Nat.{ℕ, zero, suc, ◌+◌, ◌*◌, ◌/◌, ◌%◌, ◌^◌, ◌≤◌, ◌<◌}
use native.Mathlib.Nat.{lt_of_lt_of_le, mod-lt, mod-one, mod-eq_of_lt, mul-add-mod_self_right}
use native.Mathlib.Numerals.{add-one}
use native.Mathlib.Omega.{arith}
use lib.Arith.{digits_lt}
use lib.Dec.{lit<}
use lib.ListN.{length, take, get_or, length-append}
use lib.Pow.{pow_mono, pow-add, mod-pow-add, mod-mod-pow, field, high}
use lib.Seq.{take-suc}
use Rattle.laws.specs.BigEndian.{bytes, number}
use Rattle.laws.specs.Lists.{All}

bits_more : (n : ℕ) → suc n * 8 ≡ 8 + n * 8
bits_more n = omega arith

-- ---- bytes of a number

pub length_bytes : (n x : ℕ) → length (bytes n x) ≡ n
length_bytes zero x = refl
length_bytes (suc n) x = ap suc (length_bytes n x)

pub bytes_lt : (n x i : ℕ) → get_or (bytes n x) i 0 < 256
bytes_lt zero x i = lit< tt
bytes_lt (suc n) x zero = mod-lt (x / 2 ^ (n * 8)) (lit< tt)
bytes_lt (suc n) x (suc i) = bytes_lt n x i

-- the n lowest bytes of a number are those of its lowest n * 8 bits
bytes_low : (n x y : ℕ) → x % 2 ^ (n * 8) ≡ y % 2 ^ (n * 8) → bytes n x ≡ bytes n y
bytes_low zero x y e = refl
bytes_low (suc n) x y e =
    let f : x % 2 ^ (8 + n * 8) ≡ y % 2 ^ (8 + n * 8) = rw (bits_more n) at e in
    ap₂ ◌∷◌ (sym (field x 8 (n * 8)) ∙ ap (λ (z : ℕ). z / 2 ^ (n * 8)) f ∙ field y 8 (n * 8))
    (bytes_low n x y (sym (mod-mod-pow x 8 (n * 8)) ∙ ap (λ (z : ℕ). z % 2 ^ (n * 8)) f ∙ mod-mod-pow y 8 (n * 8)))

-- ---- the number that bytes stand for

pub number_bytes : (n x : ℕ) → number (bytes n x) ≡ x % 2 ^ (n * 8)
number_bytes zero x = sym (mod-one x)
number_bytes (suc n) x = rw (length_bytes n x, number_bytes n x, bits_more n) (sym (mod-pow-add x 8 (n * 8)))

-- a number that the bytes can hold comes back
pub number_read : (n x : ℕ) → x < 2 ^ (n * 8) → number (bytes n x) ≡ x
number_read n x h = number_bytes n x ∙ mod-eq_of_lt h

pub number_below : (l : List ℕ) → All (λ b. b < 2 ^ 8) l → number l < 2 ^ (length l * 8)
number_below [] p = omega arith
number_below (b ∷ l) p =
    rw (bits_more (length l), pow-add 2 8 (length l * 8)) (digits_lt p.0 (number_below l p.1))

-- bytes are told by the number that they stand for, and their count
pub bytes_number : (l : List ℕ) → All (λ b. b < 2 ^ 8) l → bytes (length l) (number l) ≡ l
bytes_number [] p = refl
bytes_number (b ∷ l) p =
    let low : number l < 2 ^ (length l * 8) = number_below l p.1 in
    ap₂ ◌∷◌ (ap (λ (x : ℕ). x % 2 ^ 8) (high b (length l * 8) low) ∙ mod-eq_of_lt p.0)
    (bytes_low (length l) (b * 2 ^ (length l * 8) + number l) (number l)
    (mul-add-mod_self_right b (2 ^ (length l * 8)) (number l)) ∙ bytes_number l p.1)

-- one byte more at the end
pub number_snoc : (l : List ℕ) (b : ℕ) → number (l ++ (b ∷ [])) ≡ number l * 256 + b
number_snoc [] b = omega arith
number_snoc (x ∷ l) b =
    let long : length (l ++ (b ∷ [])) ≡ suc (length l) = simp length-append (omega arith) in
    rw (long, bits_more (length l), pow-add 2 8 (length l * 8), number_snoc l b) (omega arith)

-- a turn of a loop that reads a number
pub number_more : (l : List ℕ) (i : ℕ) → i < length l → number (take (i + 1) l) ≡ number (take i l) * 256 + get_or l i 0
number_more l i h = rw (add-one, take-suc l i 0 h) (number_snoc (take i l) (get_or l i 0))

-- what i bytes stand for, and one byte more
pub below_one_more : (i x b : ℕ) → x < 2 ^ (i * 8) → b < 2 ^ 8 → x * 256 + b < 2 ^ ((i + 1) * 8)
below_one_more i x b h k =
    let e : (i + 1) * 8 ≡ i * 8 + 8 = omega arith in
    rw (e, pow-add 2 (i * 8) 8) (digits_lt h k)

-- seven bytes leave room for one more in a number of eight
pub below_seven : (i x : ℕ) → i < 8 → x < 2 ^ (i * 8) → x < 2 ^ 56
below_seven i x h k =
    let few : i * 8 ≤ 56 = omega arith in
    lt_of_lt_of_le k (pow_mono few)
