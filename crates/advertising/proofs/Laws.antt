-- Laws of the filter and the payload, as the functions that build them use them.
-- Assumes nothing.
use mathlib.Core.List.{List, ◌++◌, foldl}
use mathlib.Core.Path.{◌≡◌, refl, sym, ap, ◌∙◌}
use Prim.Native.Nat.{ℕ, ◌+◌, ◌*◌, ◌/◌, ◌%◌, ◌^◌, ◌≤◌, ◌<◌}
use native.Mathlib.Nat.{one-mul, mod-eq_of_lt, mod-lt}
use native.Mathlib.Omega.{arith}
use lib.Bits.{bit_or}
use lib.Dec.{lit<}
use lib.ListN.{length, take, drop, set, get_or, replicate, length-set, length-replicate}
use lib.Pow.{pow-lt}
use lib.Seq.{take-length}
use Rattle.laws.proofs.Filled.{get_d_tabulate}
use Rattle.laws.proofs.Folds.{fold_more, fold_keeps}
use Rattle.laws.proofs.Lists.{drop_replicate}
use Rattle.account_keys.specs.Keys.{Kept, limit, held}
use Rattle.account_keys.specs.declared.AccountKey.{AccountKey}
use Rattle.account_keys.specs.declared.AccountKeys.{AccountKeys}
use Rattle.advertising.specs.Filter.{filter_size, number_at, numbers, with_bit, place_of, byte_of, bit_of, with_number, with_key, filter, filter_max, kept_filter}
use Rattle.sha256.specs.Hash.{sha256}
use Rattle.account_keys.proofs.Laws.{absent_key, count_held}

-- a place is within the filter
pub place_within : (x s : ℕ) → 0 < s → x % (8 * s) / 8 < s
place_within x s h =
    let m : x % (8 * s) < 8 * s = mod-lt x (omega arith) in
    omega arith

-- a turn of the loop that sets bits
pub with_number_more : (s : ℕ) (f₀ h : List ℕ) (i : ℕ) {f : List ℕ} {x : ℕ} → i < 8
    → f ≡ foldl (with_number s) f₀ (take i (numbers h)) → x ≡ number_at h i
    → set f (x % (8 * s) / 8) (bit_or (get_or f (x % (8 * s) / 8) 0) (1 * 2 ^ (x % (8 * s) % 8) % 2 ^ 8))
    ≡ foldl (with_number s) f₀ (take (i + 1) (numbers h))
unfolding numbers with_bit
with_number_more s f₀ h i {f} {x} k e n =
    let low : x % (8 * s) % 8 < 8 = mod-lt (x % (8 * s)) (lit< tt) in
    let mask : 1 * 2 ^ (x % (8 * s) % 8) % 2 ^ 8 ≡ 2 ^ (x % (8 * s) % 8) = rw one-mul
    (mod-eq_of_lt (pow-lt low)) in
    let value : get_or (numbers h) i 0 ≡ x = get_d_tabulate 8 (number_at h) i 0 k ∙ sym n in
    rw mask (sym (fold_more (with_number s) f₀ (numbers h) i 0 k ∙ rw (← e, value)))

pub take_numbers : (h : List ℕ) → take 8 (numbers h) ≡ numbers h
unfolding numbers
take_numbers h = refl

-- a turn of the loop over the keys
pub with_key_more : (s : ℕ) (salt f₀ : List ℕ) (ks : List AccountKey) (i : ℕ) {f g hash : List ℕ} → i < length ks
    → f ≡ foldl (with_key s salt) f₀ (take i ks) → length f ≡ s
    → hash ≡ sha256 ((get_or ks i absent_key).bytes ++ salt) → g ≡ foldl (with_number (length f)) f (numbers hash)
    → g ≡ foldl (with_key s salt) f₀ (take (i + 1) ks)
unfolding with_key
with_key_more s salt f₀ ks i h e l m g =
    g ∙ rw (l, m) (sym (fold_more (with_key s salt) f₀ ks i absent_key h ∙ rw (← e)))

-- all keys
pub with_key_all : (ks : AccountKeys) → Kept ks → (salt : List ℕ)
    → foldl (with_key (filter_size ks.count) salt) (replicate (filter_size ks.count) 0)
    (take (length (held ks)) (held ks))
    ≡ filter (held ks) salt
unfolding filter
with_key_all ks v salt =
    rw (take-length (held ks))
    (ap (λ (n : ℕ). foldl (with_key (filter_size n) salt) (replicate (filter_size n) 0) (held ks))
    (count_held ks v))

-- ---- sizes

-- a bit that is set changes no length
pub length_with_number : (s n : ℕ) (f : List ℕ) (x : ℕ) → length f ≡ n → length (with_number s f x) ≡ n
unfolding with_bit
length_with_number s n f x e =
    length-set f (byte_of (place_of s x)) (bit_or (get_or f (byte_of (place_of s x)) 0) (2 ^ bit_of (place_of s x))) ∙ e

pub length_with_key : (s n : ℕ) (salt f : List ℕ) (k : AccountKey) → length f ≡ n → length (with_key s salt f k) ≡ n
unfolding with_key
length_with_key s n salt f k e =
    fold_keeps (with_number s) (λ g. length g ≡ n) (length_with_number s n) f (numbers (sha256 (k.bytes ++ salt))) e

pub length_filter : (keys : List AccountKey) (salt : List ℕ) → length (filter keys salt) ≡ filter_size
    (length keys)
unfolding filter
length_filter keys salt =
    let s : ℕ = filter_size (length keys) in
    fold_keeps (with_key s salt) (λ g. length g ≡ s) (λ f k. length_with_key s s salt f k) (replicate s 0) keys
    (length-replicate s 0)

-- the filter of a list within the limit has room
pub size_within : (n : ℕ) → n ≤ limit → filter_size n ≤ filter_max
size_within n h = omega arith

-- the filter built in front of a room of zeros
pub kept_built : (ks : AccountKeys) → Kept ks → (salt : List ℕ) {p : List ℕ} {s : ℕ} → s ≡ filter_size ks.count
    → p ≡ filter (held ks) salt → p ++ drop s (replicate filter_max 0) ≡ kept_filter (held ks) salt
unfolding kept_filter
kept_built ks v salt {p} {s} size e =
    let long : s ≡ length (filter (held ks) salt) = size ∙ ap filter_size (count_held ks v) ∙ sym
    (length_filter (held ks) salt) in
    rw (e, drop_replicate {A = ℕ} s filter_max 0, long)
