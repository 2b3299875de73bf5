-- The wait for a rotation: what changes it, that it is alike in both runs of demand 3, and that no request is accepted during it.
-- Assumes nothing.
use mathlib.Core.Bool.{Bool, true, false}
use mathlib.Core.List.{List, [], ◌∷◌}
use mathlib.Core.Logic.{◌⊎◌, inl, inr, ⊎_elim}
use mathlib.Core.Path.{◌≡◌, refl, sym, ap, ◌∙◌}
use Prim.Native.Nat.{ℕ}
use lib.Dec.{eqb}
use borrow.Author.Tests.{eqb-true}
use Rattle.laws.proofs.Choice.{true_is, if_same, and_left, and_right, and_false, and_true_left, or_false_left, or_false_right}
use Rattle.laws.specs.Choice.{◌and◌, ◌or◌}
use Rattle.std.specs.Prelude.{if◌then◌else◌, None, Option}
use Rattle.basics.proofs.Answers.{unlike, number_taken}
use Rattle.basics.specs.Answers.{is_taken}
use Rattle.basics.specs.declared.Answer.TheVariants.{Taken, UnknownLink, ClockWentBack, LockedOut, NotInPairingMode, NoKeyFits, SaltSpent, RotationAwaited}
use Rattle.key_based.proofs.Deciding.{Way, locked, awaited, unasked, no-fit, spent, taken, decided_way}
use Rattle.key_based.specs.Named.{asks_rotation}
use Rattle.key_based.specs.declared.Context.{Context}
use Rattle.key_based.specs.declared.Decision.{Decision}
use Rattle.key_based.specs.declared.Search.{Search}
use Rattle.key_based.specs.Search.{named_in}
use Rattle.provider.proofs.Theorems.Refusals.{address_told}
use Rattle.provider.proofs.Theorems.Ways as event
use Rattle.provider.proofs.Theorems.Ways.{way}
use Rattle.provider.specs.Demands.Gap.{rules, Accepts, writes_key, writes_name}
use Rattle.provider.specs.Demands.Refusals.{search_in, told_named}
use Rattle.provider.specs.Demands.Rotation.{lifts, wait_then, WaitFollows, may_begin, WaitKept, NeverBoth, Lifted, NoneUntilLifted, NoneWhileAwaited}
use Rattle.provider.specs.Rules.Device.{Effect, clock_step}
use Rattle.provider.specs.Rules.Event.{DeviceEvent, PairingMode, AddressRotated, FactoryReset, LinkEvent, LinkUp, LinkDown, KeyBasedWrite, OnSession, Event, Overflow, PowerOn, OnDevice, OnLink, context_of, on_device, on_link, step, next, answer_of}
use Rattle.provider.specs.declared.Device.{Device}
use Rattle.request_guard.proofs.Uncounted.{never_both}
use Rattle.request_guard.specs.Wait.{wait_after}
use Rattle.request_guard.specs.declared.wait.RotationWait.{RotationWait}
use Rattle.sessions.specs.Sessions.{session_at}
use Rattle.sessions.specs.declared.Session.{Session}

-- ---- what changes it

follows_on_device : (d : Device) (t : ℕ) (e : DeviceEvent)
    → (on_device e (clock_step t d)).wait ≡ (if lifts (OnDevice t e) and true then record { on = false } else d.wait)
unfolding clock_step
follows_on_device d t (PairingMode on) = refl
follows_on_device d t (AddressRotated ble salt) = refl
follows_on_device d t FactoryReset = refl

follows_on_link : (d : Device) (l t : ℕ) (e : LinkEvent)
    → (on_link e (clock_step t d) l t).gives.next.wait
    ≡ wait_after (asks_rotation (on_link e (clock_step t d) l t).gives.reply.named) d.wait
unfolding clock_step
follows_on_link d l t LinkUp = refl
follows_on_link d l t LinkDown = refl
follows_on_link d l t (KeyBasedWrite request element salt nonce out packet) = refl
follows_on_link d l t (OnSession e) = refl

follows : (d : Device) {e : Event} {x : Effect} → event.Way d e x → x.gives.next.wait ≡ wait_then e x.gives.reply d.wait
follows d event.marker = refl
follows d (event.powered-on stored name start ks h n) = refl
follows d (event.malformed stored name start) = refl
follows d (event.device-late t (PairingMode on)) = refl
follows d (event.device-late t (AddressRotated ble salt)) = refl
follows d (event.device-late t FactoryReset) = refl
follows d (event.device-changed t e) = follows_on_device d t e
follows d (event.unknown_link l t e) = refl
follows d (event.refused_early l t e a p h) = refl
follows d (event.link-late l t e) = refl
follows d (event.on_link_lem l t e k) = follows_on_link d l t e

pub wait_follows : WaitFollows
wait_follows d e = follows d (way d e)

-- an event that tries no key names no address
names_none : (d : Device) (e : Event) → named_in (search_in d e).found ≡ None → (step d e).gives.reply.named ≡ None
names_none d e s =
    address_told d e ∙ ap (told_named (answer_of d e)) s ∙ if_same (is_taken (answer_of d e)) {x = None} (λ _. refl)

-- only a key-based write tries keys
searches_none : (d : Device) (e : Event) → may_begin e ≡ false → named_in (search_in d e).found ≡ None
searches_none d Overflow h = refl
searches_none d (PowerOn stored name start) h = refl
searches_none d (OnDevice t e) h = refl
searches_none d (OnLink l t LinkUp) h = refl
searches_none d (OnLink l t LinkDown) h = refl
searches_none d (OnLink l t (KeyBasedWrite request element salt nonce out packet)) h = absurd (true_is (sym h))
searches_none d (OnLink l t (OnSession e)) h = refl

pub wait_kept : WaitKept
wait_kept d e h = go (is_taken (answer_of d e)) refl
  where
    -- neither lifted nor begun
    stays : (lifts e and is_taken (answer_of d e)) ≡ false → (step d e).gives.reply.named ≡ None → (next d e).wait ≡ d.wait
    stays l n = wait_follows d e ∙ rw (l, n)

    go : (b : Bool) → is_taken (answer_of d e) ≡ b → (next d e).wait ≡ d.wait
    go false p = stays (ap (λ (b : Bool). lifts e and b) p ∙ and_false (lifts e)) (address_told d e ∙ rw p)
    go true p =
        let neither : (lifts e or may_begin e) ≡ false =
        and_true_left (lifts e or may_begin e) (ap (λ (b : Bool). (lifts e or may_begin e) and b) (sym p) ∙ h) in
        stays (rw (or_false_left (lifts e) (may_begin e) neither))
        (names_none d e (searches_none d e (or_false_right (lifts e) (may_begin e) neither)))

pub rows_never_both : NeverBoth
rows_never_both d v = never_both d.wait d.guard v.wait

-- ---- alike in both runs

-- so an account key write or a name write leaves it alike in both runs, whichever of them takes it
pub wait_alike : (d c : Device) (e : Event) → (writes_key e or writes_name e) ≡ true → d.wait ≡ c.wait
    → (next d e).wait ≡ (next c e).wait
wait_alike d c Overflow w h = absurd (true_is w)
wait_alike d c (PowerOn stored name start) w h = absurd (true_is w)
wait_alike d c (OnDevice t e) w h = absurd (true_is w)
wait_alike d c (OnLink l t LinkUp) w h = absurd (true_is w)
wait_alike d c (OnLink l t LinkDown) w h = absurd (true_is w)
wait_alike d c (OnLink l t (KeyBasedWrite request element salt nonce out packet)) w h = absurd (true_is w)
wait_alike d c (OnLink l t (OnSession e)) w h = wait_kept d (OnLink l t (OnSession e)) refl ∙ h ∙ sym (wait_kept c (OnLink l t (OnSession e)) refl)

-- ---- no request is accepted during it

module _ (d : Device) (on : d.wait.on ≡ true) where
  none-decided : {s : Session} {t : ℕ} {uses : Bool} {f : Search} {c : Context} {r : Decision} → c.wait.on ≡ true
      → Way c s t uses f r → r.answer ≡ Taken → ⊥
  none-decided w locked e = unlike LockedOut Taken tt e
  none-decided w awaited e = unlike RotationAwaited Taken tt e
  none-decided w unasked e = unlike NotInPairingMode Taken tt e
  none-decided w (no-fit h a) e = unlike NoKeyFits Taken tt e
  none-decided w spent e = unlike SaltSpent Taken tt e
  none-decided w (taken f z p a) e = true_is (sym a ∙ w)

  none-on-link : (m t : ℕ) (request : List ℕ) (element : Option (List ℕ)) (salt nonce out packet : List ℕ)
      → answer_of d (OnLink m t (KeyBasedWrite request element salt nonce out packet)) ≡ Taken → ⊥
  unfolding clock_step
  none-on-link m t request element salt nonce out packet =
      go (way d (OnLink m t (KeyBasedWrite request element salt nonce out packet)))
    where
      go : {x : Effect} → event.Way d (OnLink m t (KeyBasedWrite request element salt nonce out packet)) x
          → x.gives.reply.answer ≡ Taken → ⊥
      go (event.unknown_link m t e) h = unlike UnknownLink Taken tt h
      go (event.refused_early m t e a p q) h = true_is (sym q ∙ ap is_taken h)
      go (event.link-late m t e) h = unlike ClockWentBack Taken tt h
      go (event.on_link_lem m t e k) h =
          none-decided on
          (decided_way (context_of (clock_step t d)) (session_at (clock_step t d).sessions m) t element request) h

  none-accepted : (l : ℕ) (e : Event) → Accepts rules l d e → ⊥
  none-accepted l Overflow a = true_is a.0
  none-accepted l (PowerOn stored name start) a = true_is a.0
  none-accepted l (OnDevice t e) a = true_is a.0
  none-accepted l (OnLink m t LinkUp) a = true_is (and_right (eqb m l) false a.0)
  none-accepted l (OnLink m t LinkDown) a = true_is (and_right (eqb m l) false a.0)
  none-accepted l (OnLink m t (KeyBasedWrite request element salt nonce out packet)) a =
      none-on-link m t request element salt nonce out packet (number_taken _ a.1)
  none-accepted l (OnLink m t (OnSession e)) a = true_is (and_right (eqb m l) false a.0)

  -- an event lifts the wait, or it goes on
  goes_on : (e : Event) → Lifted rules d e ⊎ ((next d e).wait.on ≡ true)
  goes_on e = go (lifts e and is_taken (answer_of d e)) refl
    where
      still : (b : Bool) → (wait_after b d.wait).on ≡ true
      still true = refl
      still false = on

      go : (b : Bool) → (lifts e and is_taken (answer_of d e)) ≡ b → Lifted rules d e ⊎ ((next d e).wait.on ≡ true)
      go true p = inl (and_left (lifts e) _ p, eqb-true _ 0 (and_right (lifts e) _ p))
      go false p = inr (ap (λ (w : RotationWait). w.on) (wait_follows d e ∙ rw p)
          ∙ still (asks_rotation (step d e).gives.reply.named))

none_until_lifted : (es : List Event) (d : Device) → d.wait.on ≡ true → NoneUntilLifted rules d es
none_until_lifted [] d on = tt
none_until_lifted (e ∷ es) d on =
    (λ l. none-accepted d on l e, ⊎_elim inl (λ w. inr (none_until_lifted es (next d e) w)) (goes_on d on e))

-- an answer that asks for a rotation begins the wait
begins : (d : Device) (e : Event) → asks_rotation (step d e).gives.reply.named ≡ true → (next d e).wait.on ≡ true
begins d Overflow r = absurd (true_is r)
begins d (PowerOn stored name start) r =
    absurd (true_is (sym (ap asks_rotation (names_none d (PowerOn stored name start) refl)) ∙ r))
begins d (OnDevice t e) r = absurd (true_is (sym (ap asks_rotation (names_none d (OnDevice t e) refl)) ∙ r))
begins d (OnLink l t e) r = ap (λ (w : RotationWait). w.on) (wait_follows d (OnLink l t e) ∙ rw r)

pub none_while_awaited : NoneWhileAwaited rules
none_while_awaited d e r es = none_until_lifted es (next d e) (begins d e r)
