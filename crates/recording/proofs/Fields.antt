-- The fields of a record, one behind the other: taken out of it, and put together again.
-- Assumes nothing.
use mathlib.Core.List.{List, [], ◌∷◌, ◌++◌}
use mathlib.Core.Path.{◌≡◌, sym, ap, ◌∙◌}
use Prim.Native.Nat.{ℕ, suc, ◌+◌, ◌<◌, ◌≤◌, ◌^◌}
use native.Mathlib.Omega.{arith}
use lib.ListN.{length, take, drop, get_or, length-drop, take-append-drop, drop_of_length-le}
use lib.Seq.{take_at, drop-append-add, get_or-append-add, drop-drop, drop-cons, length-take-le, take_all, take-append-le, drop-append-le}
use Rattle.laws.proofs.All.{all_take, all_drop}
use Rattle.laws.specs.BigEndian.{bytes}
use Rattle.laws.specs.Lists.{All}
use Rattle.laws.proofs.Numbers.{bytes_number}
use Rattle.recording.specs.Reading.{part, number_at}

-- ---- taken out

-- what stands behind x
pub part_behind : (x y : List ℕ) (at k n : ℕ) → at ≡ length x + k → part at n (x ++ y) ≡ part k n y
part_behind x y at k n e = rw (e, drop-append-add x y k)

pub part_here : (x y : List ℕ) (n : ℕ) → length x ≡ n → part 0 n (x ++ y) ≡ x
part_here x y n e = take_at x y n e

pub byte_behind : (x y : List ℕ) (at k : ℕ) → at ≡ length x + k → get_or (x ++ y) at 0 ≡ get_or y k 0
byte_behind x y at k e = rw (e, get_or-append-add x y k 0)

pub drop_behind : (x y : List ℕ) (at k : ℕ) → at ≡ length x + k → drop at (x ++ y) ≡ drop k y
drop_behind x y at k e = rw (e, drop-append-add x y k)

pub last_part : (x : List ℕ) (n : ℕ) → length x ≡ n → part 0 n x ≡ x
last_part x n e = take_all n x (omega (arith, e))

-- what stands in x, whatever is behind it
pub part_within : (x y : List ℕ) (at n : ℕ) → at + n ≤ length x → part at n (x ++ y) ≡ part at n x
part_within x y at n h =
    let fits : n ≤ length (drop at x) = rw (length-drop at x) (omega (arith, h)) in
    ap (take n) (drop-append-le at x y (omega (arith, h))) ∙ take-append-le n (drop at x) y fits

-- ---- put together again

-- n bytes from a place on, and what stands behind them
pub part_and_rest : (r : List ℕ) (at n end : ℕ) → end ≡ at + n → part at n r ++ drop end r ≡ drop at r
part_and_rest r at n end e = rw (e, sym (drop-drop n at r)) (take-append-drop n (drop at r))

pub byte_and_rest : (r : List ℕ) (at : ℕ) → at < length r → get_or r at 0 ∷ drop (suc at) r ≡ drop at r
byte_and_rest r at h = sym (drop-cons r at 0 h)

pub length_part : (r : List ℕ) (at n : ℕ) → at + n ≤ length r → length (part at n r) ≡ n
length_part r at n h = length-take-le n (drop at r) (rw (length-drop at r) (omega (arith, h)))

-- the bytes of the number in a field are the field
pub number_part : (r : List ℕ) (at n : ℕ) → at + n ≤ length r → All (λ b. b < 2 ^ 8) r → bytes n (number_at at n r) ≡ part at n r
number_part r at n h b =
    ap (λ m. bytes m (number_at at n r)) (sym (length_part r at n h))
    ∙ bytes_number (part at n r) (all_take _ n (drop at r) (all_drop _ at r b))

pub nothing_behind : (r : List ℕ) (n : ℕ) → length r ≡ n → drop n r ≡ []
nothing_behind r n e = drop_of_length-le r {i = n} (omega (arith, e))

-- a field that ends the record
pub last_field : (r : List ℕ) (at n : ℕ) → length r ≡ at + n → part at n r ≡ drop at r
last_field r at n e = take_all n (drop at r) (rw (length-drop at r) (omega (arith, e)))
