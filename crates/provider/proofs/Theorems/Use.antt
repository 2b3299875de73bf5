-- What changes the list of keys, and which key an accepted request uses.
-- Assumes nothing.
use mathlib.Core.Bool.{Bool, true, false}
use mathlib.Core.List.{List, []}
use mathlib.Core.Path.{◌≡◌, refl, sym, ap, ◌∙◌}
use Prim.Native.Nat.{ℕ, ◌-◌, ◌<◌}
use lib.Seq.{get_or-set_same}
use borrow.Author.Tests.{not-true}
use Rattle.laws.proofs.Choice.{true_is, fails_with, and_true_left}
use Rattle.laws.specs.Choice.{◌and◌, ◌or◌}
use Rattle.account_keys.proofs.Laws.{member_get}
use Rattle.account_keys.specs.Keys.{zero_key, held, kept, used}
use Rattle.account_keys.specs.declared.AccountKey.{AccountKey}
use Rattle.account_keys.specs.declared.AccountKeys.{AccountKeys}
use Rattle.basics.proofs.Answers.{unlike}
use Rattle.basics.specs.Answers.{is_taken}
use Rattle.basics.specs.declared.Answer.TheVariants.{Taken, UnknownLink, ClockWentBack, LockedOut, NotInPairingMode, NoKeyFits, SaltSpent, RotationAwaited}
use Rattle.key_based.proofs.Deciding.{Way, locked, awaited, unasked, no-fit, spent, taken, decided_way}
use Rattle.key_based.proofs.FirstThatFits.{told_key_lem}
use Rattle.key_based.specs.Decision.{asked, tried_keys, uses_key, used_in}
use Rattle.key_based.specs.Request.{has_public_key}
use Rattle.key_based.specs.declared.Context.{Context}
use Rattle.key_based.specs.declared.Decision.{Decision}
use Rattle.key_based.specs.declared.Search.{Search}
use Rattle.std.specs.Prelude.{Option, Some, None, is_some}
use Rattle.pairing.proofs.SessionSteps.{own_parts}
use Rattle.pairing.specs.Pairing.{session_step, with_stored}
use Rattle.provider.proofs.Theorems.PartKept.{part_kept}
use Rattle.provider.proofs.Theorems.ValidParts.{clock_step_valid}
use Rattle.provider.proofs.Theorems.Ways as event
use Rattle.provider.proofs.Theorems.Ways.{way}
use Rattle.provider.specs.Demands.Use.{restarts, may_use, KeysKept, UsesToldKey, RequestUsesToldKey}
use Rattle.provider.specs.Demands.Validity.{Valid}
use Rattle.provider.specs.Rules.Device.{Effect, clock_step}
use Rattle.provider.specs.Rules.Event.{DeviceEvent, PairingMode, AddressRotated, FactoryReset, LinkEvent, LinkUp, LinkDown, KeyBasedWrite, OnSession, OnDevice, OnLink, context_of, requested, on_device, on_link}
use Rattle.provider.specs.declared.Device.{Device}
use Rattle.sessions.specs.Sessions.{link_count, absent_session, session_at}
use Rattle.sessions.specs.declared.Session.{Session}

-- ---- what changes the list

-- a request uses a key only if it has 16 bytes and gets 0
decision_keeps : (ks : AccountKeys) {c : Context} {s : Session} {t : ℕ} {uses : Bool} {f : Search} {r : Decision}
    → Way c s t uses f r → (uses and is_taken r.answer) ≡ false → used_in r.uses r.session.key ks ≡ ks
decision_keeps ks locked h = refl
decision_keeps ks awaited h = refl
decision_keeps ks unasked h = refl
decision_keeps ks (no-fit e a) h = refl
decision_keeps ks spent h = refl
decision_keeps ks {uses = uses} (taken f z p a) h = rw (and_true_left uses h)

-- an event that stores no key
none_stored : (k : Option AccountKey) (ks : AccountKeys) → is_some k ≡ false → with_stored k ks ≡ ks
none_stored None ks h = refl
none_stored (Some k) ks h = absurd (true_is (sym h))

keys_kept_on_link : (e : LinkEvent) (c : Device) (l t : ℕ)
    → (may_use (OnLink l t e) and is_taken (on_link e c l t).gives.reply.answer) ≡ false
    → (on_link e c l t).gives.next.keys ≡ c.keys
keys_kept_on_link LinkUp c l t h = refl
keys_kept_on_link LinkDown c l t h = refl
keys_kept_on_link (KeyBasedWrite request element salt nonce out packet) c l t h =
    decision_keeps c.keys (decided_way (context_of c) (session_at c.sessions l) t element request) h
keys_kept_on_link (OnSession e) c l t h =
    let a = session_step e t (session_at c.sessions l) in
    none_stored a.key c.keys (fails_with (is_some a.key) (own_parts e t (session_at c.sessions l)).key h)

keys_kept_on_device : (e : DeviceEvent) (c : Device) (t : ℕ) → (restarts (OnDevice t e) or false) ≡ false
    → (on_device e c).keys ≡ c.keys
keys_kept_on_device (PairingMode on) c t h = refl
keys_kept_on_device (AddressRotated ble salt) c t h = refl
keys_kept_on_device FactoryReset c t h = absurd (true_is (sym h))

pub keys_kept : KeysKept
unfolding clock_step
keys_kept =
    part_kept (λ d. d.keys) (λ e. restarts e or may_use e) (λ d. refl) (λ d t. refl) (λ stored name start. refl)
    keys_kept_on_device keys_kept_on_link

-- ---- the key that an accepted request uses

module _ (c : Device) (l t : ℕ) (request : List ℕ) (element : Option (List ℕ)) (outs : List (List ℕ)) (known : l < link_count)
    (v : Valid c) (u : uses_key request ≡ true) where
  uses-told : {r : Decision}
      → Way (context_of c) (session_at c.sessions l) t (uses_key request) (tried_keys (context_of c) element request) r
      → r.answer ≡ Taken → UsesToldKey c l (record { gives = requested c l r; leaves = outs })
  uses-told locked e = absurd (unlike LockedOut Taken tt e)
  uses-told awaited e = absurd (unlike RotationAwaited Taken tt e)
  uses-told unasked e = absurd (unlike NotInPairingMode Taken tt e)
  uses-told (no-fit h a) e = absurd (unlike NoKeyFits Taken tt e)
  uses-told spent e = absurd (unlike SaltSpent Taken tt e)
  uses-told (taken f z p a) e =
      let n = (tried_keys (context_of c) element request).tried in
      let place = told_key_lem c.beacon.ble c.identity.public (held c.keys) element request
      (not-true (has_public_key request) u) z in
      record {
        was_held = member_get (held c.keys) (n - 1) zero_key place.within;
        is_k = ap (λ (s : Session). s.key)
            (get_or-set_same c.sessions.links l (asked f.key t) absent_session (rw v.links known))
            ∙ sym place.there;
        moves = ap (λ (b : Bool). used_in b f.key c.keys) u
            ∙ ap (λ (key : List ℕ). kept (used (held c.keys) (record { bytes = key }))) (sym place.there);
      }

pub request_uses_told_key : RequestUsesToldKey
unfolding clock_step
request_uses_told_key d l t request element salt nonce out packet v u =
    go (way d (OnLink l t (KeyBasedWrite request element salt nonce out packet)))
  where
    go : {x : Effect} → event.Way d (OnLink l t (KeyBasedWrite request element salt nonce out packet)) x
        → x.gives.reply.answer ≡ Taken → UsesToldKey d l x
    go (event.unknown_link l t e) h = absurd (unlike UnknownLink Taken tt h)
    go (event.refused_early l t e a p q) h = absurd (true_is (sym q ∙ ap is_taken h))
    go (event.link-late l t e) h = absurd (unlike ClockWentBack Taken tt h)
    go (event.on_link_lem l t e k) h =
        let w = uses-told (clock_step t d) l t request element [] k (clock_step_valid v t) u
        (decided_way (context_of (clock_step t d)) (session_at (clock_step t d).sessions l) t element request) h in
        record { was_held = w.was_held; is_k = w.is_k; moves = w.moves }
