-- The search stops at the first key that fits, and tells its place.
-- Assumes nothing.
use mathlib.Core.Bool.{Bool, true, false}
use mathlib.Core.List.{List, [], ◌∷◌, map}
use mathlib.Core.Path.{◌≡◌, refl, sym, ap, ◌∙◌}
use Prim.Native.Nat.{ℕ, zero, suc, ◌+◌, ◌-◌, ◌<◌}
use native.Mathlib.Nat.{le_of_suc-le-suc, not-suc-le-zero}
use native.Mathlib.Omega.{arith}
use lib.ListN.{length, get_or, length-map, get_or-map}
use Rattle.std.specs.Prelude.{Option, Some, None, if◌then◌else◌}
use Rattle.key_based.specs.Promises.{NoneOf, Tells, FirstThatFits}
use Rattle.key_based.specs.Named.{address_named, fitting}
use Rattle.key_based.specs.Request.{candidates, has_public_key, opened, Place, found, nothing, search}
use Rattle.key_based.specs.Search.{tried, with_named, handed_over, searched}
use Rattle.key_based.specs.declared.Found.{Found}
use Rattle.key_based.specs.declared.named.Named.{Named}
use Rattle.account_keys.specs.Keys.{zero_key}
use Rattle.account_keys.specs.declared.AccountKey.{AccountKey}
use Rattle.basics.specs.declared.Address.{Address}
use Rattle.laws.proofs.Lists.{get_or_within}

-- a place further back
abbrev shifted : Place → Place
shifted (found n k) = found (n + 1) k
shifted (nothing n) = nothing (n + 1)

-- a key before those that are searched moves the place by one
search_shifted : (test : List ℕ → Bool) (n : ℕ) (ks : List (List ℕ)) → search test (n + 1) ks ≡ shifted
    (search test n ks)
unfolding search
search_shifted test n [] = refl
search_shifted test n (k ∷ ks) = go (test k) (search_shifted test (n + 1) ks)
  where
    go : (b : Bool) → search test (n + 1 + 1) ks ≡ shifted (search test (n + 1) ks)
        → (if b then found (n + 1 + 1) k else search test (n + 1 + 1) ks)
        ≡ shifted (if b then found (n + 1) k else search test (n + 1) ks)
    go true p = refl
    go false p = p

module _ (test : List ℕ → Bool) (k : List ℕ) (ks : List (List ℕ)) (fails : test k ≡ false) where
  none_more : (n : ℕ) → NoneOf test ks n → NoneOf test (k ∷ ks) (suc n)
  none_more n p zero h = fails
  none_more n p (suc j) h = p j (le_of_suc-le-suc h)

  tells_more : (f : Place) → Tells test ks f → Tells test (k ∷ ks) (shifted f)
  tells_more (found n x) t =
      let back : n + 1 - 1 ≡ suc (n - 1) = omega (arith, t.0) in (
        omega arith,
        omega (arith, t.1),
        rw back t.2,
        t.3,
        rw back (none_more (n - 1) t.4),
      )
  tells_more (nothing n) t = (omega (arith, t.0), none_more (length ks) t.1)

pub first_that_fits : FirstThatFits
unfolding search
first_that_fits test [] = (refl, λ j h. absurd (not-suc-le-zero h))
first_that_fits test (k ∷ ks) = go (test k) refl (first_that_fits test ks)
  where
    go : (b : Bool) → test k ≡ b → Tells test ks (search test 0 ks) → Tells test (k ∷ ks)
        (if b then found (0 + 1) k else search test (0 + 1) ks)
    go true fits t = (omega arith, omega arith, refl, fits, λ j h. absurd (not-suc-le-zero h))
    go false fails t = rw (search_shifted test 0 ks) (tells_more test k ks fails (search test 0 ks) t)

-- a request without a public key that a key fits: the key stands at the told place of the list
module _ (ble public : Address) (keys : List AccountKey) (secret : Option (List ℕ)) (request : List ℕ) where
  -- what a key is found with
  is_key : (key plain : List ℕ) (m : Option Named) {f : Found} → with_named key plain m ≡ Some f → key ≡ f.key
  is_key key plain None e = (cc)
  is_key key plain (Some n) e = (cc)

  -- what is told of a search
  pub record AtPlace (n : ℕ) (key : List ℕ) : Type 0 where
    pub within : n - 1 < length keys
    pub there : (get_or keys (n - 1) zero_key).bytes ≡ key

  pub told_key_lem : {f : Found} → has_public_key request ≡ false → (searched ble public keys secret request).found ≡ Some f
      → AtPlace (searched ble public keys secret request).tried f.key
  unfolding candidates
  told_key_lem {f} e = rw e
      (go (tried ble public request 0 owners) (first_that_fits (λ k. fitting ble public (opened k request)) owners))
    where
      owners : List (List ℕ)
      owners = map (λ k. k.bytes) keys

      go : (x : Place) → Tells (λ k. fitting ble public (opened k request)) owners x
          → (handed_over ble public request x).found ≡ Some f → AtPlace (handed_over ble public request x).tried f.key
      go (found n key) t e =
          let small : n - 1 < length keys = omega (arith, t.0, t.1, length-map keys (λ (k : AccountKey). k.bytes)) in
          record {
            within = small;
            there = ap (λ (k : AccountKey). k.bytes) (get_or_within keys (n - 1) zero_key (record { bytes = [] }) small)
                ∙ sym (get_or-map (λ (k : AccountKey). k.bytes) keys (n - 1) (record { bytes = [] })) ∙ t.2
                ∙ is_key key (opened key request) (address_named ble public (opened key request)) e;
          }
      go (nothing n) t e = (cc)
