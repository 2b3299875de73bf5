-- Laws of the request and the search for its key.
-- Assumes nothing.
use mathlib.Core.Bool.{true, false}
use mathlib.Core.List.{List, [], ◌∷◌, map}
use mathlib.Core.Path.{◌≡◌, refl, sym, ap, ◌∙◌}
use Prim.Native.Nat.{ℕ, ◌+◌, ◌≤◌, ◌<◌}
use native.Mathlib.Nat.{le_refl}
use native.Mathlib.Numerals.{add-one}
use native.Mathlib.Omega.{arith}
use lib.ListN.{length, take, drop, get_or, drop_of_length-le}
use lib.Seq.{take_all, take-take, drop-cons}
use borrow.Author.Tests.{eq-eqb, ne_eqb}
use Rattle.std.specs.Prelude.{Option, Some, None}
use Rattle.std.specs.Option.{is_some}
use Rattle.laws.proofs.Choice.{true_is}
use Rattle.account_keys.specs.declared.AccountKey.{AccountKey}
use Rattle.aes128.specs.Cipher.{inv_cipher}
use Rattle.basics.specs.declared.Address.{Address}
use Rattle.key_based.specs.Named.{address_named, fits, fitting}
use Rattle.key_based.specs.Request as spec
use Rattle.key_based.specs.Request.{sized, candidates, opened, Place, found, nothing}
use Rattle.key_based.specs.Search.{tried, none_fits, with_named, fit, handed_over}
use Rattle.key_based.specs.declared.Found.{Found}
use Rattle.key_based.specs.declared.Search.{Search}
use Rattle.key_based.specs.declared.named.Named.{Named}
use Rattle.sha256.specs.Hash.{sha256}

-- what a read past the end of an array of keys gives
abbrev pub absent_key : AccountKey
absent_key = record { bytes = [] }

abbrev pub blocks : List AccountKey → List (List ℕ)
blocks l = map (λ k. k.bytes) l

-- ---- the search, key by key

-- a block is all of what is opened
pub opened_block : (k b : List ℕ) → length b ≡ 16 → inv_cipher k b ≡ opened k b
opened_block k b h = rw (take_all 16 b (omega arith))

-- what names an address fits
named_fits : (k p : List ℕ) (m : Option Named) {f : Found} → with_named k p m ≡ Some f → fits m ≡ true
named_fits k p None e = (cc)
named_fits k p (Some n) e = refl

unnamed : (k p : List ℕ) (m : Option Named) → with_named k p m ≡ None → fits m ≡ false
unnamed k p None e = refl
unnamed k p (Some n) e = (cc)

module _ (ble public : Address) (r : List ℕ) where
  none_left : (n : ℕ) → tried ble public r n [] ≡ nothing n
  unfolding spec.search
  none_left n = refl

  -- if a key fits, those after it are not tried
  stops : (n : ℕ) (k : List ℕ) (ks : List (List ℕ)) {f : Found} → fit ble public r k ≡ Some f
      → tried ble public r n (k ∷ ks) ≡ found (n + 1) k
  unfolding spec.search
  stops n k ks e = rw (named_fits k (opened k r) (address_named ble public (opened k r)) e)

  -- if not, the search goes on behind it, with one key more tried
  goes_on : (n : ℕ) (k : List ℕ) (ks : List (List ℕ)) → fit ble public r k ≡ None
      → tried ble public r n (k ∷ ks) ≡ tried ble public r (n + 1) ks
  unfolding spec.search
  goes_on n k ks e = rw (unnamed k (opened k r) (address_named ble public (opened k r)) e)

  -- one key alone
  pub one_tried : (k : List ℕ) {a : Option Found} → a ≡ fit ble public r k
      → ◌≡◌ {A = Search} (record { tried = 1; found = a }) (handed_over ble public r (tried ble public r 0 (k ∷ [])))
  one_tried k {a} e = rw e (go (fit ble public r k) refl)
    where
      go : (b : Option Found) → fit ble public r k ≡ b
          → ◌≡◌ {A = Search} (record { tried = 1; found = b }) (handed_over ble public r (tried ble public r 0 (k ∷ [])))
      go None p = sym (ap (handed_over ble public r) (goes_on 0 k [] p ∙ none_left 1))
      go (Some f) p = sym (ap (handed_over ble public r) (stops 0 k [] p) ∙ (λ i. record { tried = 1; found = p i }))

  -- i of the account keys are passed: the search through the rest is the whole search
  abbrev pub Passed : List AccountKey → ℕ → Type 0
  Passed ks i = tried ble public r i (blocks (drop i ks)) ≡ tried ble public r 0 (blocks ks)

  module _ (ks : List AccountKey) (i : ℕ) (p : Passed ks i) where
    next_key : i < length ks → tried ble public r i ((get_or ks i absent_key).bytes ∷ blocks (drop (i + 1) ks))
        ≡ tried ble public r 0 (blocks ks)
    next_key h =
        let e : drop i ks ≡ get_or ks i absent_key ∷ drop (i + 1) ks = rw (add-one, drop-cons ks i absent_key h) in
        rw e at p

    -- it fits
    pub key_fits : {a : Option Found} → i < length ks → a ≡ fit ble public r (get_or ks i absent_key).bytes
        → is_some a ≡ true
        → ◌≡◌ {A = Search} (record { tried = i + 1; found = a })
        (handed_over ble public r (tried ble public r 0 (blocks ks)))
    key_fits {a = None} h e s = absurd (true_is s)
    key_fits {a = Some f} h e s =
        (λ j. record { tried = i + 1; found = e j })
        ∙ ap (handed_over ble public r) (sym (stops i _ _ (sym e)) ∙ next_key h)

    -- it does not
    pub key_passed : {a : Option Found} → i < length ks → a ≡ fit ble public r (get_or ks i absent_key).bytes
        → is_some a ≡ false → Passed ks (i + 1)
    key_passed {a = None} h e s = sym (goes_on i _ _ (sym e)) ∙ next_key h
    key_passed {a = Some f} h e s = absurd (true_is (sym s))

    -- there is none
    pub all_passed : length ks ≤ i → none_fits i ≡ handed_over ble public r (tried ble public r 0 (blocks ks))
    all_passed h =
        ap (handed_over ble public r) (sym (none_left i) ∙ rw (drop_of_length-le ks h) at p)

-- ---- the candidates of a request

module _ (ble public : Address) (r : List ℕ) where
  -- a request is searched by its first 16 bytes
  by_block : {b : List ℕ} → b ≡ take 16 r → (ks : List (List ℕ)) → handed_over ble public b (tried ble public b 0 ks)
      ≡ handed_over ble public r (tried ble public r 0 ks)
  by_block {b} q ks =
      handed (tried ble public b 0 ks)
      ∙ (λ i. handed_over ble public r (spec.search (λ k. fitting ble public (again k i)) 0 ks))
    where
      again : (k : List ℕ) → opened k b ≡ opened k r
      again k = rw (q, take-take 16 16 r (le_refl 16))

      handed : (f : Place) → handed_over ble public b f ≡ handed_over ble public r f
      handed (found m k) = λ i. record { tried = m; found = with_named k (again k i) (address_named ble public (again k i)) }
      handed (nothing m) = refl

  -- the three ways of the definition
  module _ (l : List AccountKey) (secret : Option (List ℕ)) where
    pub from_owners : {s : Search} {b : List ℕ} → (length r ≡ 80 → ⊥) → b ≡ take 16 r
        → s ≡ handed_over ble public b (tried ble public b 0 (blocks l))
        → s ≡ handed_over ble public r (tried ble public r 0 (candidates l secret r))
    unfolding candidates
    from_owners h q e = e ∙ by_block q (blocks l) ∙ rw (ne_eqb (length r) 80 h)

    pub rejected : {s : Search} → length r ≡ 80 → secret ≡ None → s ≡ none_fits 0
        → s ≡ handed_over ble public r (tried ble public r 0 (candidates l secret r))
    unfolding candidates
    rejected h a e = e ∙ rw (eq-eqb (length r) 80 h, a) (ap (handed_over ble public r) (sym (none_left ble public r 0)))

    pub from_secret : {x b d k : List ℕ} {a : Option Found} → length r ≡ 80 → secret ≡ Some x → b ≡ take 16 r
        → d ≡ sha256 x → k ≡ take 16 d → a ≡ fit ble public b k
        → ◌≡◌ {A = Search} (record { tried = 1; found = a })
        (handed_over ble public r (tried ble public r 0 (candidates l secret r)))
    unfolding candidates
    from_secret {b} {k = k} h a q p t e =
        one_tried ble public b k e ∙ by_block q (k ∷ []) ∙ rw (eq-eqb (length r) 80 h, a, t, p)
