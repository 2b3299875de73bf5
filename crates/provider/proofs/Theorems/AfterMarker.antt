-- Demand 3, the last sentence: after a marker a link is quiet until a request is accepted on it.
-- Assumes nothing.
use mathlib.Core.Bool.{Bool, true, false}
use mathlib.Core.List.{List, [], ◌∷◌, map}
use mathlib.Core.Logic.{◌⊎◌, inl, inr, ⊎_elim}
use mathlib.Core.Path.{◌≡◌, refl, sym, ap, subst, ◌∙◌}
use Prim.Native.Nat.{ℕ, zero, suc}
use lib.Dec.{eqb}
use lib.ListN.{get_or, set, replicate}
use borrow.Author.Tests.{eqb-true, eqb-false}
use Rattle.laws.proofs.Choice.{true_is, and_left, and_right}
use Rattle.laws.specs.Choice.{◌and◌}
use Rattle.account_keys.proofs.Laws.{held_kept}
use Rattle.account_keys.proofs.Use.{member_permuted, use_permutes}
use Rattle.account_keys.specs.Keys as keys
use Rattle.account_keys.specs.Keys.{held, member, used}
use Rattle.account_keys.specs.declared.AccountKey.{AccountKey}
use Rattle.account_keys.specs.declared.AccountKeys.{AccountKeys}
use Rattle.basics.specs.Answers.{answer_number}
use Rattle.key_based.proofs.Deciding.{Way, locked, awaited, unasked, no-fit, spent, taken, decided_way}
use Rattle.key_based.specs.Decision.{asked, used_in, decided}
use Rattle.key_based.specs.declared.Context.{Context}
use Rattle.key_based.specs.declared.Decision.{Decision}
use Rattle.key_based.specs.declared.Search.{Search}
use Rattle.pairing.proofs.SessionSteps.{idle_step}
use Rattle.pairing.specs.Pairing.{session_step, stored_in}
use Rattle.pairing.specs.declared.SessionOutcome.{SessionOutcome}
use Rattle.provider.proofs.Theorems.SessionPairs.{idle_at_clock}
use Rattle.provider.proofs.Theorems.Stores.{stores_none}
use Rattle.provider.proofs.Theorems.Validity.{stays_valid}
use Rattle.provider.proofs.Theorems.Ways as event
use Rattle.provider.proofs.Theorems.Ways.{way}
use Rattle.provider.specs.Demands.Gap.{is_of, any_kind, is_request, needs_key, rules, QuietUntilRequest, AfterMarkers}
use Rattle.provider.specs.Demands.Validity.{Valid}
use Rattle.provider.specs.Rules.Device.{Effect, clock_step}
use Rattle.provider.specs.Rules.Event.{DeviceEvent, PairingMode, AddressRotated, FactoryReset, LinkEvent, LinkUp, LinkDown, KeyBasedWrite, OnSession, Event, OnDevice, OnLink, context_of, requested, on_device, on_link, next}
use Rattle.provider.specs.declared.Device.{Device}
use Rattle.sessions.specs.Sessions.{link_count, idle, absent_session, session_at, at_clock}
use Rattle.sessions.specs.declared.Session.{Session}
use Rattle.sessions.specs.declared.Stage.TheVariants.{Idle}

-- link l holds no key
abbrev IdleAt : ℕ → Device → Type 0
IdleAt l d = (session_at d.sessions l).stage ≡ Idle

-- ---- the links

-- n idle links
all_idle_lem : (n l : ℕ) → (get_or (replicate n idle) l absent_session).stage ≡ Idle
all_idle_lem zero l = refl
all_idle_lem (suc n) zero = refl
all_idle_lem (suc n) (suc l) = all_idle_lem n l

-- the timers
expired_idle : (t : ℕ) (ss : List Session) (l : ℕ) → (get_or ss l absent_session).stage ≡ Idle
    → (get_or (map (at_clock t) ss) l absent_session).stage ≡ Idle
expired_idle t [] l e = e
expired_idle t (s ∷ ss) zero e = idle_at_clock t s e
expired_idle t (s ∷ ss) (suc l) e = expired_idle t ss l e

-- a session of link m, which is idle if that is l
set_idle : (ss : List Session) (m l : ℕ) (s : Session) → (m ≡ l → s.stage ≡ Idle) → (get_or ss l absent_session).stage ≡ Idle
    → (get_or (set ss m s) l absent_session).stage ≡ Idle
set_idle [] m l s h e = e
set_idle (x ∷ xs) zero zero s h e = h refl
set_idle (x ∷ xs) zero (suc l) s h e = e
set_idle (x ∷ xs) (suc m) zero s h e = e
set_idle (x ∷ xs) (suc m) (suc l) s h e = set_idle xs m l s (λ p. h (ap suc p)) e

-- the clock step
stepped_idle : (d : Device) (t l : ℕ) → IdleAt l d → IdleAt l (clock_step t d)
unfolding clock_step
stepped_idle d t l e = expired_idle t d.sessions.links l e

-- ---- one event, on a device whose link l is idle

-- no key is held afterwards that was not held before
record NoMore (ks next : AccountKeys) : Type 0 where
  held-before : (k : AccountKey) → member (held next) k ≡ true → member (held ks) k ≡ true

same_keys : {ks next : AccountKeys} → next ≡ ks → NoMore ks next
same_keys e = record { held-before = λ k m. subst (λ (x : AccountKeys). member (held x) k ≡ true) e m }

-- a use changes the order alone
used_no_more : (uses : Bool) (key : List ℕ) (ks : AccountKeys) → keys.Valid ks → NoMore ks (used_in uses key ks)
used_no_more true key ks v = record {
  held-before = λ k m. member_permuted (use_permutes (held ks) (record { bytes = key }) v.known) k
      ∙ ap (λ (l : List AccountKey). member l k) (sym (held_kept (used (held ks) (record { bytes = key })))) ∙ m;
}
used_no_more false key ks v = same_keys refl

record IsQuiet (l : ℕ) (d : Device) (e : Event) (x : Effect) : Type 0 where
  refused : is_of needs_key l e ≡ true → answer_number x.gives.reply.answer ≡ 0 → ⊥
  keys : is_of any_kind l e ≡ true → NoMore d.keys x.gives.next.keys
  next : ((is_of is_request l e ≡ true) × (answer_number x.gives.reply.answer ≡ 0)) ⊎ IdleAt l x.gives.next

-- a number other than 0
not_zero : {n : ℕ} → eqb n 0 ≡ false → n ≡ 0 → ⊥
not_zero {n} h = eqb-false n 0 h

-- an event that is on no link
module _ {l : ℕ} {d : Device} where
  of_device : (t : ℕ) (e : DeviceEvent) {x : Effect} → IdleAt l x.gives.next → IsQuiet l d (OnDevice t e) x
  of_device t e i = record {
    refused = λ n. absurd (true_is n);
    keys = λ n. absurd (true_is n);
    next = inr i;
  }

  -- a refusal on a link that leaves the keys
  refusal : (m t : ℕ) (e : LinkEvent) {x : Effect} → eqb (answer_number x.gives.reply.answer) 0 ≡ false
      → x.gives.next.keys ≡ d.keys
      → IdleAt l x.gives.next
      → IsQuiet l d (OnLink m t e) x
  refusal m t e h k i = record { refused = λ n. not_zero h; keys = λ n. same_keys k; next = inr i }

-- the device after its clock step
module _ (d : Device) (l m t : ℕ) (v : keys.Valid d.keys) (i : IdleAt l d) where
  -- the event's link is l
  is-l : (kind : Bool) → (eqb m l and kind) ≡ true → m ≡ l
  is-l kind n = eqb-true m l (and_left (eqb m l) kind n)

  link-session : m ≡ l → (session_at d.sessions m).stage ≡ Idle
  link-session e = subst (λ (k : ℕ). (session_at d.sessions k).stage ≡ Idle) (sym e) i

  -- a request: its link holds K only if it is accepted
  decision-next : {c : Context} {uses : Bool} {f : Search} {r : Decision} → Way c (session_at d.sessions m) t uses f r
      → (((eqb m l and true) ≡ true) × (answer_number r.answer ≡ 0)) ⊎ IdleAt l (requested d m r).next
  decision-next locked = inr (set_idle d.sessions.links m l _ link-session i)
  decision-next awaited = inr (set_idle d.sessions.links m l _ link-session i)
  decision-next unasked = inr (set_idle d.sessions.links m l _ link-session i)
  decision-next (no-fit h a) = inr (set_idle d.sessions.links m l _ link-session i)
  decision-next spent = inr (set_idle d.sessions.links m l _ link-session i)
  decision-next (taken f z p a) = go (eqb m l) refl
    where
      go : (b : Bool) → eqb m l ≡ b
          → (((eqb m l and true) ≡ true) × (◌≡◌ {A = ℕ} 0 0))
          ⊎ ((get_or (set d.sessions.links m (asked f.key t)) l absent_session).stage ≡ Idle)
      go true e = inl (rw e, refl)
      go false e = inr (set_idle d.sessions.links m l (asked f.key t)
          (λ p. absurd (eqb-false m l e p)) i)

  on-link-quiet : (e : LinkEvent) → IsQuiet l d (OnLink m t e) (on_link e d m t)
  on-link-quiet LinkUp = record {
    refused = λ n. absurd (true_is (and_right (eqb m l) false n));
    keys = λ n. same_keys refl;
    next = inr (set_idle d.sessions.links m l idle (λ p. refl) i);
  }
  on-link-quiet LinkDown = record {
    refused = λ n. absurd (true_is (and_right (eqb m l) false n));
    keys = λ n. same_keys refl;
    next = inr (set_idle d.sessions.links m l idle (λ p. refl) i);
  }
  on-link-quiet (KeyBasedWrite request element salt nonce out packet) = record {
    refused = λ n. absurd (true_is (and_right (eqb m l) false n));
    keys = λ n. used_no_more r.uses r.session.key d.keys v;
    next = decision-next (decided_way (context_of d) (session_at d.sessions m) t element request);
  }
    where
      r : Decision
      r = decided (context_of d) (session_at d.sessions m) t element request
  on-link-quiet (OnSession e) = record {
    refused = λ n h. not_zero {n = 9} refl
        (sym (ap (λ (a : SessionOutcome). answer_number a.answer)
        (idle_step t (session_at d.sessions m) (link-session (is-l _ n)) e)) ∙ h);
    keys = λ n. same_keys (ap (λ (a : SessionOutcome). stored_in a d.keys)
        (idle_step t (session_at d.sessions m) (link-session (is-l true n)) e));
    next = inr (set_idle d.sessions.links m l (session_step e t (session_at d.sessions m)).session
        (λ p. ap (λ (a : SessionOutcome). a.session.stage)
        (idle_step t (session_at d.sessions m) (link-session p) e) ∙ link-session p) i);
  }

device_idle : (e : DeviceEvent) (d : Device) (l : ℕ) → IdleAt l d → IdleAt l (on_device e d)
device_idle (PairingMode on) d l i = i
device_idle (AddressRotated ble salt) d l i = i
device_idle FactoryReset d l i = all_idle_lem link_count l

is_quiet : (l : ℕ) (d : Device) → keys.Valid d.keys → {e : Event} {x : Effect} → event.Way d e x → IdleAt l d
    → IsQuiet l d e x
unfolding clock_step
is_quiet l d v event.marker i = record {
  refused = λ n. absurd (true_is n);
  keys = λ n. absurd (true_is n);
  next = inr (all_idle_lem link_count l);
}
is_quiet l d v (event.powered-on stored name start ks h q) i = record {
  refused = λ n. absurd (true_is n);
  keys = λ n. absurd (true_is n);
  next = inr (all_idle_lem link_count l);
}
is_quiet l d v (event.malformed stored name start) i = record {
  refused = λ n. absurd (true_is n);
  keys = λ n. absurd (true_is n);
  next = inr i;
}
is_quiet l d v (event.device-late t e) i = of_device t e (all_idle_lem link_count l)
is_quiet l d v (event.device-changed t e) i = of_device t e (device_idle e (clock_step t d) l (stepped_idle d t l i))
is_quiet l d v (event.unknown_link m t e) i = refusal m t e refl refl i
is_quiet l d v (event.refused_early m t e a p h) i = refusal m t e h refl i
is_quiet l d v (event.link-late m t e) i = refusal m t e refl refl (all_idle_lem link_count l)
is_quiet l d v (event.on_link_lem m t e k) i =
    let q = on-link-quiet (clock_step t d) l m t v (stepped_idle d t l i) e in
    record { refused = q.refused; keys = q.keys; next = q.next }

-- ---- runs

quiet_until_request : (l : ℕ) (d : Device) (es : List Event) → Valid d → IdleAt l d → QuietUntilRequest rules l d es
quiet_until_request l d [] v i = tt
quiet_until_request l d (e ∷ es) v i =
    let q = is_quiet l d v.keys (way d e) i in
    let w = stays_valid d e v in (
      (q.refused, λ on k. stores_none d e k v.keys w.keys ((q.keys on).held-before k)),
      ⊎_elim (λ a. inl a) (λ j. inr (quiet_until_request l (next d e) es w j)) q.next,
    )

pub after_markers : (d : Device) (es : List Event) → Valid d → AfterMarkers rules d es
after_markers d [] v = tt
after_markers d (e ∷ es) v =
    let w = stays_valid d e v in (
      λ is l. quiet_until_request l (next d e) es w
          (subst (λ (x : Event). IdleAt l (next d x)) (sym is) (all_idle_lem link_count l)),
      after_markers (next d e) es w,
    )
