-- An account key write that adds no key leaves the same keys and the beacon; one that adds a key stores it.
-- Assumes nothing.
use mathlib.Core.Bool.{Bool, true, false, not}
use mathlib.Core.List.Permᴰ
use mathlib.Core.List.{List, Permᴰ}
use mathlib.Core.Path.{◌≡◌, refl, sym, ap, subst, ◌∙◌}
use Prim.Native.Nat.{ℕ}
use Rattle.laws.proofs.Choice.{true_is}
use Rattle.std.specs.Prelude.{Option, Some, None}
use Rattle.account_keys.proofs.Laws.{held_kept, stored_held}
use Rattle.account_keys.proofs.Use.{use_permutes}
use Rattle.account_keys.specs.Keys as keys
use Rattle.account_keys.specs.Keys.{held, kept, member, used, stored}
use Rattle.account_keys.specs.declared.AccountKey.{AccountKey}
use Rattle.account_keys.specs.declared.AccountKeys.{AccountKeys}
use Rattle.advertising.specs.Beacon.{refreshed}
use Rattle.advertising.specs.declared.Beacon.{Beacon}
use Rattle.key_based.specs.Decision.{used_in}
use Rattle.pairing.specs.Pairing.{with_stored, stored_in, is_new, adds_to}
use Rattle.pairing.specs.declared.SessionOutcome.{SessionOutcome}
use Rattle.provider.proofs.Theorems.Stores.{member_stored, stores_new}
use Rattle.provider.specs.Demands.Gap.{Lists}
use Rattle.provider.specs.Demands.Validity.{written}
use Rattle.provider.specs.Rules.Device.{with_keys}
use Rattle.provider.specs.declared.Device.{Device}

-- a use leaves the same keys
pub used_permutes : (uses : Bool) (key : List ℕ) (ks : AccountKeys) → keys.Valid ks
    → Permᴰ (held ks) (held (used_in uses key ks))
used_permutes true key ks v =
    let k : AccountKey = record { bytes = key } in
    subst (Permᴰ (held ks)) (sym (held_kept (used (held ks) k))) (use_permutes (held ks) k v.known)
used_permutes false key ks v = Permᴰ.refl (held ks)

module _ (a : SessionOutcome) (ks : AccountKeys) where
  -- so does the write of a key that is held
  pub stored_permutes : adds_to a ks ≡ false → keys.Valid ks → Permᴰ (held ks) (held (stored_in a ks))
  stored_permutes none v = go a.key none
    where
      moved : (k : AccountKey) (m : Bool) → member (held ks) k ≡ m → not m ≡ false
          → Permᴰ (held ks) (held (kept (stored (held ks) k)))
      moved k true q h =
          subst (Permᴰ (held ks)) (stored_held ks k v.canonical q ∙ sym (held_kept (stored (held ks) k)))
          (use_permutes (held ks) k v.known)
      moved k false q h = absurd (true_is (sym h))

      go : (x : Option AccountKey) → is_new x ks ≡ false → Permᴰ (held ks) (held (with_stored x ks))
      go None h = Permᴰ.refl (held ks)
      go (Some k) h = moved k (member (held ks) k) refl h

  pub beacon_stays : adds_to a ks ≡ false → (b : Beacon) → refreshed b (adds_to a ks) (held (stored_in a ks)) ≡ b
  beacon_stays none b = rw none

-- an outcome that adds a key stores it
adds_stores : (c : Device) (a : SessionOutcome) → keys.Valid c.keys → keys.Valid (stored_in a c.keys) → adds_to a c.keys ≡ true
    → (k : AccountKey) × Lists (written (with_keys c (stored_in a c.keys))) k × (Lists (written c) k → ⊥)
adds_stores c a v w = go a.key refl
  where
    added : (k : AccountKey) (m : Bool) → a.key ≡ Some k → member (held c.keys) k ≡ m → not m ≡ true
        → Lists (written (with_keys c (stored_in a c.keys))) k × (Lists (written c) k → ⊥)
    added k true p q h = absurd (true_is h)
    added k false p q h = stores_new c.keys (stored_in a c.keys) k v w
        (rw p (ap (λ (l : List AccountKey). member l k) (held_kept (stored (held c.keys) k))
        ∙ member_stored (held c.keys) k)) q

    go : (x : Option AccountKey) → a.key ≡ x → is_new x c.keys ≡ true
        → (k : AccountKey) × Lists (written (with_keys c (stored_in a c.keys))) k × (Lists (written c) k → ⊥)
    go None p h = absurd (true_is h)
    go (Some k) p h = let x = added k (member (held c.keys) k) p refl h in (k, x.0, x.1)

-- so one that stores none adds none
pub stores_none_adds_none : (c : Device) (a : SessionOutcome) → keys.Valid c.keys → keys.Valid (stored_in a c.keys)
    → ((k : AccountKey) → (Lists (written (with_keys c (stored_in a c.keys))) k × (Lists (written c) k → ⊥)) → ⊥)
    → adds_to a c.keys ≡ false
stores_none_adds_none c a v w none = go (adds_to a c.keys) refl
  where
    go : (b : Bool) → adds_to a c.keys ≡ b → b ≡ false
    go true e = let x = adds_stores c a v w e in absurd (none x.0 (x.1, x.2))
    go false e = refl
