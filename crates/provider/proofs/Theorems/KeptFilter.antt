-- The kept filter is the one built afresh, after power-on and every event; and only some events build it.
-- Assumes nothing.
use mathlib.Core.Bool.{Bool, true, false}
use mathlib.Core.List.{List, [], ◌∷◌}
use mathlib.Core.Path.{◌≡◌, refl, sym, ap}
use Prim.Native.Nat.{ℕ}
use lib.ListN.{replicate}
use Rattle.laws.proofs.Choice.{true_is}
use Rattle.laws.specs.Choice.{◌and◌}
use Rattle.account_keys.specs.Keys as keys
use Rattle.account_keys.specs.Keys.{held}
use Rattle.account_keys.specs.declared.AccountKey.{AccountKey}
use Rattle.advertising.proofs.Promises.{order_keeps_current, payload_stays, no_keys_no_bits}
use Rattle.advertising.specs.Beacon.{Current, refreshed}
use Rattle.advertising.specs.declared.Beacon.{Beacon}
use Rattle.basics.proofs.Answers.{unlike}
use Rattle.basics.specs.Answers.{is_taken}
use Rattle.basics.specs.declared.Answer.TheVariants.{Taken, ListMalformed}
use Rattle.key_based.specs.Decision.{decided}
use Rattle.pairing.proofs.SessionSteps.{step_lawful}
use Rattle.pairing.specs.Pairing.{session_step, stored_in, adds_to}
use Rattle.pairing.specs.declared.SessionOutcome.{SessionOutcome}
use Rattle.provider.proofs.Theorems.Adding.{used_permutes, stored_permutes, beacon_stays, stores_none_adds_none}
use Rattle.provider.proofs.Theorems.ValidParts.{clock_step_valid}
use Rattle.provider.proofs.Theorems.Validity.{stored_valid, stays_valid, starts_valid}
use Rattle.provider.proofs.Theorems.Ways as event
use Rattle.provider.proofs.Theorems.Ways.{way}
use Rattle.provider.specs.Demands.Gap.{Lists}
use Rattle.provider.specs.Demands.KeptFilter.{FilterCurrent, StaysCurrent, FilterKept, FilterUntouched, rebuilds}
use Rattle.provider.specs.Demands.Validity.{Valid, written}
use Rattle.provider.specs.Rules.Control.{off}
use Rattle.provider.specs.Rules.Device.{Effect, with_keys, clock_step}
use Rattle.provider.specs.Rules.Event.{DeviceEvent, PairingMode, AddressRotated, FactoryReset, LinkEvent, LinkUp, LinkDown, KeyBasedWrite, OnSession, Event, PowerOn, OnDevice, context_of, on_device, on_link, with_stored, next, answer_of, after}
use Rattle.provider.specs.declared.Device.{Device}
use Rattle.provider.specs.declared.Start.{Start}
use Rattle.sessions.specs.Sessions.{session_at}

-- ---- the filter is current

pub off_current : FilterCurrent off
off_current = sym (no_keys_no_bits (replicate 2 0))

-- a new key has its bits, and one that was held only moves
session_current : (c : Device) (a : SessionOutcome) → keys.Valid c.keys → FilterCurrent c → FilterCurrent (with_stored c a)
session_current c a v h = go (adds_to a c.keys) refl
  where
    go : (b : Bool) → adds_to a c.keys ≡ b → Current (refreshed c.beacon b (held (stored_in a c.keys))) (held (stored_in a c.keys))
    go true e = refl
    go false e = order_keeps_current c.beacon (held c.keys) (held (stored_in a c.keys)) (stored_permutes a c.keys e v) h

on_link_current : (e : LinkEvent) (c : Device) (l t : ℕ) → Valid c → FilterCurrent c → FilterCurrent (on_link e c l t).gives.next
on_link_current LinkUp c l t v h = h
on_link_current LinkDown c l t v h = h
on_link_current (KeyBasedWrite request element salt nonce out packet) c l t v h =
    let r = decided (context_of c) (session_at c.sessions l) t element request in
    order_keeps_current c.beacon (held c.keys) _ (used_permutes r.uses r.session.key c.keys v.keys) h
on_link_current (OnSession e) c l t v h = session_current c (session_step e t (session_at c.sessions l)) v.keys h

device_current : (e : DeviceEvent) (c : Device) → FilterCurrent c → FilterCurrent (on_device e c)
device_current (PairingMode on) c h = h
device_current (AddressRotated ble salt) c h = refl
device_current FactoryReset c h = refl

leaves_current : {d : Device} {e : Event} {x : Effect} → event.Way d e x → Valid d → FilterCurrent d → FilterCurrent x.gives.next
unfolding clock_step
leaves_current event.marker v h = h
leaves_current (event.powered-on stored name start ks f n) v h = refl
leaves_current (event.malformed stored name start) v h = h
leaves_current (event.device-late t e) v h = h
leaves_current {d} (event.device-changed t e) v h = device_current e (clock_step t d) h
leaves_current (event.unknown_link l t e) v h = h
leaves_current (event.refused_early l t e a p q) v h = h
leaves_current (event.link-late l t e) v h = h
leaves_current {d} (event.on_link_lem l t e k) v h = on_link_current e (clock_step t d) l t (clock_step_valid v t) h

pub stays_current : StaysCurrent
stays_current d e v h = leaves_current (way d e) v h

starts_current : (d : Device) (stored name : List ℕ) (start : Start) → answer_of d (PowerOn stored name start) ≡ Taken
    → FilterCurrent (next d (PowerOn stored name start))
starts_current d stored name start = go (way d (PowerOn stored name start))
  where
    go : {x : Effect} → event.Way d (PowerOn stored name start) x → x.gives.reply.answer ≡ Taken → FilterCurrent x.gives.next
    go (event.powered-on stored name start ks f n) e = refl
    go (event.malformed stored name start) e = absurd (unlike ListMalformed Taken tt e)

-- whatever events follow
runs_current : (es : List Event) (d : Device) → Valid d → FilterCurrent d → FilterCurrent (after d es)
unfolding after
runs_current [] d v h = h
runs_current (e ∷ es) d v h = runs_current es (next d e) (stays_valid d e v) (stays_current d e v h)

pub filter_kept : FilterKept
filter_kept d stored name start taken es =
    let c = after (next d (PowerOn stored name start)) es in
    let h = runs_current es (next d (PowerOn stored name start)) (starts_valid d stored name start taken)
    (starts_current d stored name start taken) in
    (h, λ prompt. payload_stays c.beacon c.identity.model (held c.keys) prompt h)

-- ---- what builds it

session_untouched : (c : Device) (a : SessionOutcome) → keys.Valid c.keys → keys.Valid (stored_in a c.keys)
    → ((k : AccountKey) → (Lists (written (with_keys c (stored_in a c.keys))) k × (Lists (written c) k → ⊥)) → ⊥)
    → (with_stored c a).beacon.filter ≡ c.beacon.filter
session_untouched c a v w none =
    ap (λ (b : Beacon). b.filter) (beacon_stays a c.keys (stores_none_adds_none c a v w none) c.beacon)

on_link_untouched : (e : LinkEvent) (c : Device) (l t : ℕ) → Valid c
    → ((k : AccountKey) → (Lists (written (on_link e c l t).gives.next) k × (Lists (written c) k → ⊥)) → ⊥)
    → (on_link e c l t).gives.next.beacon.filter ≡ c.beacon.filter
on_link_untouched LinkUp c l t v none = refl
on_link_untouched LinkDown c l t v none = refl
on_link_untouched (KeyBasedWrite request element salt nonce out packet) c l t v none = refl
on_link_untouched (OnSession e) c l t v none =
    let a = session_step e t (session_at c.sessions l) in
    session_untouched c a v.keys
    (stored_valid a c.keys v.keys (step_lawful e t (session_at c.sessions l)).storable) none

device_untouched : (e : DeviceEvent) (c : Device) (t : ℕ) → (rebuilds (OnDevice t e) and true) ≡ false
    → (on_device e c).beacon.filter ≡ c.beacon.filter
device_untouched (PairingMode on) c t h = refl
device_untouched (AddressRotated ble salt) c t h = absurd (true_is (sym h))
device_untouched FactoryReset c t h = absurd (true_is (sym h))

pub filter_untouched : FilterUntouched
unfolding clock_step
filter_untouched d e v = go (way d e)
  where
    go : {e : Event} {x : Effect} → event.Way d e x → (rebuilds e and is_taken x.gives.reply.answer) ≡ false
        → ((k : AccountKey) → (Lists (written x.gives.next) k × (Lists (written d) k → ⊥)) → ⊥)
        → x.gives.next.beacon.filter ≡ d.beacon.filter
    go event.marker h none = refl
    go (event.powered-on stored name start ks f n) h none = absurd (true_is (sym h))
    go (event.malformed stored name start) h none = refl
    go (event.device-late t e) h none = refl
    go (event.device-changed t e) h none = device_untouched e (clock_step t d) t h
    go (event.unknown_link l t e) h none = refl
    go (event.refused_early l t e a p q) h none = refl
    go (event.link-late l t e) h none = refl
    go (event.on_link_lem l t e k) h none = on_link_untouched e (clock_step t d) l t (clock_step_valid v t) none
