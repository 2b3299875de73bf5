-- The filter finds every key, the order of the keys is free, and a filter that is kept serves as well as one that is built.
-- Assumes nothing.
use mathlib.Core.List.{List, ◌++◌, foldl}
use mathlib.Core.Path.{◌≡◌, refl, sym, ap, subst, ◌∙◌}
use Prim.Native.Nat.{ℕ, ◌<◌, ◌^◌}
use native.Mathlib.Omega.{arith}
use lib.Bits.{bit_or}
use lib.ListN.{length, take, get_or, replicate, length-replicate}
use lib.Seq.{get_or-set_same}
use Rattle.laws.proofs.All.{all_implies}
use Rattle.laws.proofs.Folds.{fold_keeps, fold_all, fold_fold, fold_order}
use Rattle.laws.proofs.Or.{or_sets_bit, set_or_keeps_bit, set_or_comm}
use Rattle.laws.proofs.Padded.{take_padded, length_padded}
use Rattle.laws.proofs.Permuted.{length_permuted}
use Rattle.laws.specs.Lists.{All, padded}
use Rattle.account_keys.specs.declared.AccountKey.{AccountKey}
use Rattle.advertising.specs.Filter.{filter_size, numbers, place_of, byte_of, bit_of, with_bit, with_number, with_key, filter, filter_max, kept_filter}
use Rattle.advertising.specs.Payload.{payload_with, payload}
use Rattle.advertising.specs.Promises.{HasBit, EveryKeyIsFound, OrderIsFree, PayloadHidesOrder, OrderKeepsCurrent, PayloadStays, KeptWithinRoom, NoKeysNoBits}
use Rattle.sha256.specs.Hash.{sha256}
use Rattle.advertising.proofs.Laws.{place_within, length_with_number, length_with_key, length_filter, size_within}

-- ---- every key is found

module _ (s : ℕ) (some : 0 < s) where
  -- a number sets the bit at its place
  own-bit : (f : List ℕ) (x : ℕ) → length f ≡ s → HasBit (with_number s f x) (place_of s x)
  unfolding with_bit
  own-bit f x e =
      rw (get_or-set_same f (byte_of (place_of s x)) (bit_or (get_or f (byte_of (place_of s x)) 0)
      (2 ^ bit_of (place_of s x))) 0 (rw e (place_within x s some)))
      (or_sets_bit (get_or f (byte_of (place_of s x)) 0) (bit_of (place_of s x)))

  -- a bit that is set stays set
  number-keeps : (f : List ℕ) (m x : ℕ) → HasBit f m → HasBit (with_number s f x) m
  unfolding with_bit
  number-keeps f m x h = set_or_keeps_bit f (byte_of (place_of s x)) (byte_of m) (2 ^ bit_of (place_of s x)) (bit_of m) h

  module _ (salt : List ℕ) where
    -- the bits of a key's eight numbers
    abbrev HasKey : List ℕ → AccountKey → Type 0
    HasKey f k = All (λ x. HasBit f (place_of s x)) (numbers (sha256 (k.bytes ++ salt)))

    own_bits : (f : List ℕ) (k : AccountKey) → length f ≡ s → HasKey (with_key s salt f k) k
    unfolding with_key
    own_bits f k e =
        fold_all (with_number s) (λ g. length g ≡ s) (λ g x. HasBit g (place_of s x)) (length_with_number s s) own-bit
        (λ g x y. number-keeps g (place_of s x) y) f (numbers (sha256 (k.bytes ++ salt))) e

    key-keeps : (f : List ℕ) (k other : AccountKey) → HasKey f k → HasKey (with_key s salt f other) k
    unfolding with_key
    key-keeps f k other h =
        all_implies (λ x. HasBit f (place_of s x)) (λ x. HasBit (with_key s salt f other) (place_of s x))
        (λ x p. fold_keeps (with_number s) (λ g. HasBit g (place_of s x))
        (λ g y. number-keeps g (place_of s x) y) f
        (numbers (sha256 (other.bytes ++ salt))) p) (numbers (sha256 (k.bytes ++ salt))) h

enough : (n : ℕ) → 0 < filter_size n
enough n = omega arith

found_in : (keys : List AccountKey) (salt : List ℕ)
    → All (HasKey (filter_size (length keys)) (enough (length keys)) salt (filter keys salt)) keys
unfolding filter
found_in keys salt =
    let s : ℕ = filter_size (length keys) in
    let some : 0 < s = enough (length keys) in
    fold_all (with_key s salt) (λ f. length f ≡ s) (HasKey s some salt) (λ f k. length_with_key s s salt f k)
    (own_bits s some salt) (key-keeps s some salt) (replicate s 0) keys (length-replicate s 0)

pub every_key_is_found : EveryKeyIsFound
every_key_is_found keys salt =
    subst (λ (s : ℕ). All (λ k. All (λ x. HasBit (filter keys salt) (place_of s x))
    (numbers (sha256 (k.bytes ++ salt)))) keys)
    (sym (length_filter keys salt)) (found_in keys salt)

-- ---- the order is free

numbers_exchange : (s : ℕ) (f : List ℕ) (x y : ℕ) → with_number s (with_number s f x) y ≡ with_number s
    (with_number s f y) x
unfolding with_bit
numbers_exchange s f x y =
    set_or_comm f (byte_of (place_of s x)) (byte_of (place_of s y)) (2 ^ bit_of (place_of s x))
    (2 ^ bit_of (place_of s y))

keys_exchange : (s : ℕ) (salt f : List ℕ) (k l : AccountKey) → with_key s salt (with_key s salt f k) l
    ≡ with_key s salt (with_key s salt f l) k
unfolding with_key
keys_exchange s salt f k l =
    fold_fold (with_number s) (numbers_exchange s) f (numbers (sha256 (k.bytes ++ salt)))
    (numbers (sha256 (l.bytes ++ salt)))

pub order_is_free : OrderIsFree
unfolding filter
order_is_free keys other salt p =
    ap (λ (n : ℕ). foldl (with_key (filter_size n) salt) (replicate (filter_size n) 0) keys) (length_permuted p)
    ∙ fold_order (with_key (filter_size (length other)) salt) (keys_exchange (filter_size (length other)) salt) p
    (replicate (filter_size (length other)) 0)

pub payload_hides_order : PayloadHidesOrder
unfolding payload
payload_hides_order pairing model keys other salt prompt p =
    λ i. payload_with pairing model (length_permuted p i) (order_is_free keys other salt p i) salt prompt

-- ---- the filter is kept

pub order_keeps_current : OrderKeepsCurrent
unfolding kept_filter
order_keeps_current b keys other p e = e ∙ ap (padded filter_max 0) (order_is_free keys other b.salt p)

pub payload_stays : PayloadStays
unfolding payload kept_filter
payload_stays b model keys prompt e =
    let built : List ℕ = filter keys b.salt in
    let shown : take (filter_size (length keys)) b.filter ≡ built = rw (e, ← length_filter keys b.salt)
    (take_padded filter_max 0 built) in
    ap (λ (f : List ℕ). payload_with b.pairing model (length keys) f b.salt prompt) shown

pub kept_within_room : KeptWithinRoom
unfolding kept_filter
kept_within_room keys salt h = length_padded filter_max 0 (filter keys salt) (rw (length_filter keys salt) (size_within (length keys) h))

pub no_keys_no_bits : NoKeysNoBits
unfolding kept_filter filter
no_keys_no_bits salt = refl
