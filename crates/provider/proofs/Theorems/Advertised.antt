-- The order of the list shows in no payload.
-- Assumes nothing.
use mathlib.Core.List.{List, Permᴰ}
use mathlib.Core.Path.{◌≡◌, refl, sym, ap₂}
use Prim.Native.Nat.{ℕ}
use Rattle.std.specs.Prelude.{Option}
use Rattle.laws.proofs.Permuted.{length_permuted}
use Rattle.account_keys.specs.Keys as keys
use Rattle.account_keys.specs.Keys.{held}
use Rattle.account_keys.specs.declared.AccountKey.{AccountKey}
use Rattle.account_keys.specs.declared.AccountKeys.{AccountKeys}
use Rattle.advertising.specs.Beacon.{refreshed, beacon_payload}
use Rattle.advertising.specs.declared.Beacon.{Beacon}
use Rattle.advertising.specs.declared.Prompt.{Prompt}
use Rattle.key_based.specs.Decision.{used_in, decided}
use Rattle.pairing.proofs.SessionSteps.{step_lawful}
use Rattle.pairing.specs.Pairing.{session_step, stored_in, adds_to}
use Rattle.pairing.specs.declared.SessionOutcome.{SessionOutcome}
use Rattle.provider.proofs.Theorems.Adding.{used_permutes, stored_permutes, beacon_stays, stores_none_adds_none}
use Rattle.provider.proofs.Theorems.ValidParts.{clock_step_valid}
use Rattle.provider.proofs.Theorems.Validity.{stored_valid}
use Rattle.provider.proofs.Theorems.Ways as event
use Rattle.provider.proofs.Theorems.Ways.{way}
use Rattle.provider.specs.Demands.Gap.{Lists}
use Rattle.provider.specs.Demands.Use.{OrderNotAdvertised, RequestKeepsPayload}
use Rattle.provider.specs.Demands.Validity.{Valid, written}
use Rattle.provider.specs.Rules.Control.{advertised}
use Rattle.provider.specs.Rules.Device.{Effect, with_keys, with_beacon, clock_step}
use Rattle.provider.specs.Rules.Event.{LinkEvent, LinkUp, LinkDown, KeyBasedWrite, OnSession, OnLink, context_of, requested, with_stored, on_link}
use Rattle.provider.specs.declared.Device.{Device}
use Rattle.sessions.specs.Sessions.{session_at}

-- as many keys in the same beacon
same_payload : (c : Device) (ks : AccountKeys) (b : Beacon) (prompt : Prompt) → Permᴰ (held c.keys) (held ks) → b ≡ c.beacon
    → advertised (with_beacon (with_keys c ks) b) prompt ≡ advertised c prompt
same_payload c ks b prompt p e =
    ap₂ (λ (x : Beacon) (n : ℕ). beacon_payload x c.identity.model n prompt) e (sym (length_permuted p))

-- a request only uses a key
request_advertised : (c : Device) (l t : ℕ) (request : List ℕ) (element : Option (List ℕ)) (prompt : Prompt) → keys.Valid c.keys
    → advertised (requested c l (decided (context_of c) (session_at c.sessions l) t element request)).next prompt
    ≡ advertised c prompt
request_advertised c l t request element prompt v =
    let r = decided (context_of c) (session_at c.sessions l) t element request in
    same_payload c (used_in r.uses r.session.key c.keys) c.beacon prompt
    (used_permutes r.uses r.session.key c.keys v) refl

-- a key that was held is used, and another one is stored
session_advertised : (c : Device) (a : SessionOutcome) (prompt : Prompt) → keys.Valid c.keys
    → keys.Valid (stored_in a c.keys)
    → ((k : AccountKey) → (Lists (written (with_keys c (stored_in a c.keys))) k × (Lists (written c) k → ⊥)) → ⊥)
    → advertised (with_stored c a) prompt ≡ advertised c prompt
session_advertised c a prompt v w none =
    let same = stores_none_adds_none c a v w none in
    same_payload c (stored_in a c.keys) (refreshed c.beacon (adds_to a c.keys) (held (stored_in a c.keys))) prompt
    (stored_permutes a c.keys same v) (beacon_stays a c.keys same c.beacon)

on_link_advertised : (e : LinkEvent) (c : Device) (l t : ℕ) (prompt : Prompt) → Valid c
    → ((k : AccountKey) → (Lists (written (on_link e c l t).gives.next) k × (Lists (written c) k → ⊥)) → ⊥)
    → advertised (on_link e c l t).gives.next prompt ≡ advertised c prompt
on_link_advertised LinkUp c l t prompt v none = refl
on_link_advertised LinkDown c l t prompt v none = refl
on_link_advertised (KeyBasedWrite request element salt nonce out packet) c l t prompt v none =
    request_advertised c l t request element prompt v.keys
on_link_advertised (OnSession e) c l t prompt v none =
    let a = session_step e t (session_at c.sessions l) in
    session_advertised c a prompt v.keys
    (stored_valid a c.keys v.keys (step_lawful e t (session_at c.sessions l)).storable) none

pub order_not_advertised : OrderNotAdvertised
unfolding clock_step
order_not_advertised d l t e prompt v = go (way d (OnLink l t e))
  where
    go : {x : Effect} → event.Way d (OnLink l t e) x
        → ((k : AccountKey) → (Lists (written x.gives.next) k × (Lists (written d) k → ⊥)) → ⊥)
        → advertised x.gives.next prompt ≡ advertised d prompt
    go (event.unknown_link l t e) none = refl
    go (event.refused_early l t e a p q) none = refl
    go (event.link-late l t e) none = refl
    go (event.on_link_lem l t e k) none = on_link_advertised e (clock_step t d) l t prompt (clock_step_valid v t) none

pub request_keeps_payload : RequestKeepsPayload
unfolding clock_step
request_keeps_payload d l t request element salt nonce out packet prompt v =
    go (way d (OnLink l t (KeyBasedWrite request element salt nonce out packet)))
  where
    go : {x : Effect} → event.Way d (OnLink l t (KeyBasedWrite request element salt nonce out packet)) x
        → advertised x.gives.next prompt ≡ advertised d prompt
    go (event.unknown_link l t e) = refl
    go (event.refused_early l t e a p q) = refl
    go (event.link-late l t e) = refl
    go (event.on_link_lem l t e k) = request_advertised (clock_step t d) l t request element prompt v.keys
