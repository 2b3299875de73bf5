-- Power-on and every event leave a valid device, and its stored list reads back.
-- Assumes nothing.
use mathlib.Core.Bool.{Bool, true, false}
use mathlib.Core.List.{List, [], ◌∷◌}
use mathlib.Core.Path.{◌≡◌, refl}
use Prim.Native.Nat.{ℕ, ◌<◌}
use Rattle.laws.proofs.All.{all_get}
use Rattle.std.specs.Prelude.{Option, Some, None}
use Rattle.account_keys.proofs.ReadBack.{reads_back, reads_valid}
use Rattle.account_keys.proofs.Storing.{stores_valid}
use Rattle.account_keys.proofs.Use.{uses_valid}
use Rattle.account_keys.specs.Keys as keys
use Rattle.account_keys.specs.Keys.{held, kept, stored}
use Rattle.account_keys.specs.declared.AccountKey.{AccountKey}
use Rattle.account_keys.specs.declared.AccountKeys.{AccountKeys}
use Rattle.basics.proofs.Answers.{unlike}
use Rattle.basics.specs.declared.Answer.TheVariants.{Taken, ListMalformed}
use Rattle.key_based.proofs.Deciding.{Way, locked, awaited, unasked, no-fit, spent, taken, decided_way}
use Rattle.key_based.specs.Decision.{asked, used_in}
use Rattle.key_based.specs.Named.{asks_rotation}
use Rattle.key_based.specs.Request.{request_salt}
use Rattle.key_based.specs.declared.Decision.{Decision}
use Rattle.key_based.specs.declared.Search.{Search}
use Rattle.pairing.proofs.SessionSteps.{Lawful, Storable, in_a_stage, step_lawful}
use Rattle.names.proofs.ValidNames.{name_of_valid, no_name_valid}
use Rattle.names.specs.Name as names
use Rattle.names.specs.Name.{name_of}
use Rattle.names.specs.declared.Name.{Name}
use Rattle.pairing.specs.Pairing as pairing
use Rattle.pairing.specs.Pairing.{stored_in, renamed_in}
use Rattle.pairing.specs.declared.SessionOutcome.{SessionOutcome}
use Rattle.provider.proofs.Theorems.ValidParts.{no_keys_valid, keys_valid, guard_valid, wait_valid, beacon_valid, name_valid, link_valid, drop_at_valid, drop_all_valid, clock_step_valid, started_valid}
use Rattle.provider.proofs.Theorems.Ways as event
use Rattle.provider.proofs.Theorems.Ways.{way}
use Rattle.provider.specs.Demands.Validity.{Valid, StaysValid, StartsValid, StoredListReadsBack}
use Rattle.provider.specs.Rules.Device.{Effect, with_guard, with_wait, with_link}
use Rattle.provider.specs.Rules.Event.{DeviceEvent, PairingMode, AddressRotated, FactoryReset, LinkEvent, LinkUp, LinkDown, KeyBasedWrite, OnSession, Event, PowerOn, context_of, requested, applied, on_device, on_link, next, after}
use Rattle.provider.specs.declared.Device.{Device}
use Rattle.request_guard.proofs.Laws.{fresh_valid, accepted_valid, failed_valid}
use Rattle.request_guard.proofs.Uncounted.{fresh_uncounted, accepted_uncounted, off_uncounted}
use Rattle.request_guard.specs.Guard.{fresh, failed_at}
use Rattle.request_guard.specs.Wait.{no_wait, wait_after}
use Rattle.sessions.specs.Sessions.{Canonical, link_count, absent_session, session_at}

-- ---- events on a link

-- an account key that may be stored
pub stored_valid : (a : SessionOutcome) (ks : AccountKeys) → keys.Valid ks
    → ((k : AccountKey) → a.key ≡ Some k → Storable k)
    → keys.Valid (stored_in a ks)
stored_valid a ks v p = go a.key refl
  where
    go : (k : Option AccountKey) → a.key ≡ k → keys.Valid (pairing.with_stored k ks)
    go None e = v
    go (Some k) e = stores_valid ks k v (p k e).0 (p k e).1

-- the key of an accepted request, which is used or not
pub used_valid : (uses : Bool) (key : List ℕ) (ks : AccountKeys) → keys.Valid ks → keys.Valid (used_in uses key ks)
used_valid true key ks v = uses_valid ks (record { bytes = key }) v
used_valid false key ks v = v

-- and a name that may be taken
renamed_valid : (a : SessionOutcome) (n : Name) → names.Valid n → ((m : Name) → a.name ≡ Some m → names.Valid m)
    → names.Valid (renamed_in a n)
renamed_valid a n v p = go a.name refl
  where
    go : (m : Option Name) → a.name ≡ m → names.Valid (pairing.with_taken m n)
    go None e = v
    go (Some m) e = p m e

module _ {d : Device} (v : Valid d) (l : ℕ) (k : l < link_count) where
  session_canonical : Canonical (session_at d.sessions l)
  session_canonical = all_get Canonical d.sessions.links v.sessions l absent_session (rw v.links k)

  -- the guard stays, and so does the wait
  refused-valid : Valid (with_link (with_wait (with_guard d d.guard) d.wait) l (session_at d.sessions l))
  refused-valid = link_valid v l _ session_canonical

  decision-valid : {t : ℕ} {uses : Bool} {f : Search} {r : Decision} → Way (context_of d) (session_at d.sessions l) t uses f r
      → Valid (requested d l r).next
  decision-valid locked = refused-valid
  decision-valid awaited = refused-valid
  decision-valid unasked = refused-valid
  decision-valid {t} (no-fit h a) =
      link_valid (guard_valid v _ (failed_valid d.guard v.guard t h) (off_uncounted d.wait (failed_at t d.guard) a)) l _
      session_canonical
  decision-valid spent = refused-valid
  decision-valid {t} {uses} (taken f z p a) =
      link_valid (wait_valid (guard_valid (keys_valid v _ (used_valid uses f.key d.keys v.keys)) _
      (accepted_valid d.guard v.guard _ p) (accepted_uncounted d.wait d.guard (request_salt f.plain))) _
      (accepted_uncounted (wait_after (asks_rotation (Some f.named)) d.wait) d.guard (request_salt f.plain))) l _ (in_a_stage (asked f.key t) refl)

  applied-valid : {a : SessionOutcome} → Lawful (session_at d.sessions l) a → Valid (applied d l a).next
  applied-valid {a} p =
      link_valid (name_valid (beacon_valid (keys_valid v _ (stored_valid a d.keys v.keys p.storable)) _) _
      (renamed_valid a d.name v.name p.name)) l a.session (p.session session_canonical)

  on-link-valid : (e : LinkEvent) (t : ℕ) → Valid (on_link e d l t).gives.next
  on-link-valid LinkUp t = drop_at_valid v l
  on-link-valid LinkDown t = drop_at_valid v l
  on-link-valid (KeyBasedWrite request element salt nonce out packet) t =
      decision-valid (decided_way (context_of d) (session_at d.sessions l) t element request)
  on-link-valid (OnSession e) t = applied-valid (step_lawful e t (session_at d.sessions l))

-- ---- every event

device_valid : (e : DeviceEvent) {d : Device} → Valid d → Valid (on_device e d)
device_valid (PairingMode on) v = beacon_valid v _
device_valid (AddressRotated ble salt) v = wait_valid (beacon_valid v _) no_wait refl
device_valid FactoryReset {d} v =
    beacon_valid (name_valid (keys_valid
    (wait_valid (guard_valid (drop_all_valid v) fresh fresh_valid (fresh_uncounted d.wait)) no_wait refl) _
    no_keys_valid) _ no_name_valid) _

leaves_valid : {d : Device} {e : Event} {x : Effect} → event.Way d e x → Valid d → Valid x.gives.next
leaves_valid event.marker v = drop_all_valid v
leaves_valid (event.powered-on stored name start ks h n) v =
    started_valid ks (name_of name) start (reads_valid stored ks h) (name_of_valid name n)
leaves_valid (event.malformed stored name start) v = v
leaves_valid (event.device-late t e) v = drop_all_valid v
leaves_valid (event.device-changed t e) v = device_valid e (clock_step_valid v t)
leaves_valid (event.unknown_link l t e) v = v
leaves_valid (event.refused_early l t e a p h) v = v
leaves_valid (event.link-late l t e) v = drop_all_valid v
leaves_valid (event.on_link_lem l t e k) v = on-link-valid (clock_step_valid v t) l k e t

pub stays_valid : StaysValid
stays_valid d e v = leaves_valid (way d e) v

-- so the device after a run is valid
pub after_valid : (es : List Event) (d : Device) → Valid d → Valid (after d es)
unfolding after
after_valid [] d v = v
after_valid (e ∷ es) d v = after_valid es (next d e) (stays_valid d e v)

pub starts_valid : StartsValid
starts_valid d stored name start = go (way d (PowerOn stored name start))
  where
    go : {x : Effect} → event.Way d (PowerOn stored name start) x → x.gives.reply.answer ≡ Taken → Valid x.gives.next
    go (event.powered-on stored name start ks h n) e =
        started_valid ks (name_of name) start (reads_valid stored ks h) (name_of_valid name n)
    go (event.malformed stored name start) e = absurd (unlike ListMalformed Taken tt e)

pub stored_list_reads_back : StoredListReadsBack
stored_list_reads_back d v = reads_back d.keys v.keys
