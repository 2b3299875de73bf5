-- What changes the name, and that a packet which was sent reads as the name sent.
-- Assumes nothing.
use mathlib.Core.Bool.{Bool, true, false}
use mathlib.Core.List.{List, [], ◌++◌}
use mathlib.Core.Path.{◌≡◌, refl, sym, ap, ◌∙◌}
use Prim.Native.Nat.{ℕ, ◌+◌, ◌≤◌, ◌<◌}
use native.Mathlib.Omega.{arith}
use lib.ListN.{length, take, drop}
use lib.Seq.{take_at, get_or-set_same}
use borrow.Author.Tests.{le-leb}
use Rattle.laws.proofs.Choice.{true_is, fails_with}
use Rattle.laws.specs.Choice.{◌and◌}
use Rattle.std.specs.Prelude.{if◌then◌else◌, Option, Some, None, is_some, Result, Ok}
use Rattle.additional_data.proofs.Promises.{sealed_length, opening_undoes_sealing, name_short}
use Rattle.additional_data.specs.Packet.{sealed, packet_size, packet_sized}
use Rattle.account_keys.specs.declared.AccountKeys.{AccountKeys}
use Rattle.basics.proofs.Answers.{unlike}
use Rattle.basics.specs.Answers.{is_taken}
use Rattle.basics.specs.declared.Answer.TheVariants.{Taken, UnknownLink, ClockWentBack, LockedOut, NotInPairingMode, NoKeyFits, SaltSpent, RotationAwaited}
use Rattle.key_based.proofs.Deciding.{Way, locked, awaited, unasked, no-fit, spent, taken, decided_way}
use Rattle.key_based.specs.Decision.{asked, accepted, used_in, packet_to, packet_length}
use Rattle.key_based.specs.Request.{name_asked}
use Rattle.key_based.specs.declared.Context.{Context}
use Rattle.key_based.specs.declared.Decision.{Decision}
use Rattle.key_based.specs.declared.Search.{Search}
use Rattle.names.proofs.ValidNames.{valid_is_name}
use Rattle.names.specs.Name.{name_of, text_of}
use Rattle.names.specs.declared.Name.{Name}
use Rattle.pairing.proofs.Laws as pairing
use Rattle.pairing.proofs.SessionSteps.{own_parts}
use Rattle.pairing.specs.Pairing.{NameWrite, name_taken, session_step, with_taken}
use Rattle.pairing.specs.declared.SessionOutcome.{SessionOutcome}
use Rattle.provider.proofs.Checks.{known_link, clock_on}
use Rattle.provider.proofs.Theorems.Refusals.{same_link}
use Rattle.provider.proofs.Theorems.PartKept.{part_kept}
use Rattle.provider.proofs.Theorems.ValidParts.{keys_valid, clock_step_valid}
use Rattle.provider.proofs.Theorems.Validity.{used_valid}
use Rattle.provider.proofs.Theorems.Ways as event
use Rattle.provider.proofs.Theorems.Ways.{way}
use Rattle.provider.specs.Demands.Gap.{writes_name}
use Rattle.provider.specs.Demands.Names.{sets_name, NameKept, name_written, session_then, PacketReads, sent_by, PacketComesBack}
use Rattle.provider.specs.Demands.Validity.{Valid}
use Rattle.provider.specs.Rules.Device.{Effect, takes, with_keys, with_name, with_guard, with_wait, with_link, clock_step, on_known_link, after_checks}
use Rattle.provider.specs.Rules.Event.{DeviceEvent, PairingMode, AddressRotated, FactoryReset, LinkEvent, LinkUp, LinkDown, KeyBasedWrite, OnSession, OnDevice, OnLink, context_of, requested, applied, name_size, on_device, on_link, step}
use Rattle.provider.specs.declared.Device.{Device}
use Rattle.provider.specs.declared.Outcome.{Outcome}
use Rattle.request_guard.specs.declared.Guard.{Guard}
use Rattle.request_guard.specs.declared.wait.RotationWait.{RotationWait}
use Rattle.sessions.proofs.Laws.{at_clock_in_time, expired_at}
use Rattle.sessions.specs.Sessions.{is_stage, session_at, absent_session, link_count, at_clock}
use Rattle.sessions.specs.declared.Session.{Session}
use Rattle.sessions.specs.declared.Stage.TheVariants.{Idle, Paired}

-- ---- what changes the name

-- an event that takes no name
none_taken : (m : Option Name) (n : Name) → is_some m ≡ false → with_taken m n ≡ n
none_taken None n h = refl
none_taken (Some m) n h = absurd (true_is (sym h))

name_kept_on_link : (e : LinkEvent) (c : Device) (l t : ℕ)
    → (writes_name (OnLink l t e) and is_taken (on_link e c l t).gives.reply.answer) ≡ false
    → (on_link e c l t).gives.next.name ≡ c.name
name_kept_on_link LinkUp c l t h = refl
name_kept_on_link LinkDown c l t h = refl
name_kept_on_link (KeyBasedWrite request element salt nonce out packet) c l t h = refl
name_kept_on_link (OnSession e) c l t h =
    let a = session_step e t (session_at c.sessions l) in
    none_taken a.name c.name (fails_with (is_some a.name) (own_parts e t (session_at c.sessions l)).name h)

name_kept_on_device : (e : DeviceEvent) (c : Device) (t : ℕ) → sets_name (OnDevice t e) ≡ false → (on_device e c).name ≡ c.name
name_kept_on_device (PairingMode on) c t h = refl
name_kept_on_device (AddressRotated ble salt) c t h = refl
name_kept_on_device FactoryReset c t h = absurd (true_is (sym h))

pub name_kept : NameKept
unfolding clock_step
name_kept =
    part_kept (λ d. d.name) sets_name (λ d. refl) (λ d t. refl) (λ stored name start. refl) name_kept_on_device
    name_kept_on_link

-- ---- the packet of a name under a link's K

-- it has the size of a packet
sealed_sized : (key nonce text : List ℕ) → length nonce ≡ 8 → length text ≤ 64 → packet_sized (sealed key nonce text) ≡ true
sealed_sized key nonce text eight few =
    let n : length (sealed key nonce text) ≡ 16 + length text = sealed_length key nonce text eight in
    rw (le-leb 16 (length (sealed key nonce text)) (omega (arith, n)), le-leb (length (sealed key nonce text)) 80 (omega (arith, n)))

-- a name that was taken and the session put back
name_applied : (c : Device) (l : ℕ) (name : Name) {a : SessionOutcome} → a ≡ name_taken (session_at c.sessions l) name
    → record { gives = applied c l a; leaves = [] } ≡ takes (with_name c name)
name_applied c l name e =
    ap (λ (o : SessionOutcome). record { gives = applied c l o; leaves = [] }) e
    ∙ (λ i. takes (same_link (with_name c name) l i))

pub packet_reads : PacketReads
packet_reads d l u nonce text known on eight name awake unpaired =
    let s = session_then d l u in
    let p = sealed s.key nonce text in
    let few : length text ≤ 64 = name_short text name in
    let early : name_size p ≡ Ok tt = rw (sealed_sized s.key nonce text eight few) in
    ap (λ (x : Result Device Outcome). after_checks x [] (λ c. on_link (OnSession (NameWrite p)) c l u))
    (ap (on_known_link d l u) early ∙ known_link d u l known ∙ clock_on d u on)
    ∙ name_applied (clock_step u d) l (name_of text)
    (pairing.name_taken_lem p s awake unpaired (opening_undoes_sealing s.key nonce text eight name))

-- ---- a packet that was sent

-- the packet stands at the front of the second output
sent_packet : (key nonce text rest : List ℕ) → length nonce ≡ 8
    → take (16 + length text) (sealed key nonce text ++ rest) ≡ sealed key nonce text
sent_packet key nonce text rest eight =
    take_at (sealed key nonce text) rest (16 + length text) (sealed_length key nonce text eight)

-- link l was given a session that began at moment t: in time it is still the one
module _ (c : Device) (l t u : ℕ) (known : l < link_count) (v : Valid c) (g : Guard) (w : RotationWait)
    (key : List ℕ) where
  -- the device that the request left
  abbrev after : Device
  after = with_link (with_wait (with_guard c g) w) l (asked key t)

  still-asked : u < t + 10000 → session_then after l u ≡ asked key t
  unfolding clock_step
  still-asked soon =
      expired_at u after.sessions l
      ∙ ap (at_clock u) (get_or-set_same c.sessions.links l (asked key t) absent_session (rw v.links known))
      ∙ sym (at_clock_in_time u (asked key t) refl (omega (arith, soon)))

  same_name : takes (with_name (clock_step u after) c.name) ≡ takes (clock_step u after)
  unfolding clock_step
  same_name = refl

  -- the packet of the device's name under the link's new K
  comes_back : (nonce : List ℕ) → length nonce ≡ 8 → c.clock.0 ≤ u → u < t + 10000
      → step after (name_written l u (sealed key nonce (text_of c.name))) ≡ takes (clock_step u after)
  comes_back nonce eight on soon =
      let q : session_then after l u ≡ asked key t = still-asked soon in
      let small : l ≤ 7 = omega (arith, known) in
      ap (λ (s : Session). step after (name_written l u (sealed s.key nonce (text_of c.name)))) (sym q)
      ∙ packet_reads after l u nonce (text_of c.name) small on eight (valid_is_name v.name)
      (ap (λ (s : Session). is_stage s.stage Idle) q) (ap (λ (s : Session). is_stage s.stage Paired) q)
      ∙ ap (λ (n : Name). takes (with_name (clock_step u after) n)) (sym v.name.whole)
      ∙ same_name

-- a request that was decided so
module _ (c : Device) (l t u : ℕ) (known : l < link_count) (v : Valid c) (nonce packet : List ℕ) (eight : length nonce ≡ 8)
    (on : c.clock.0 ≤ u) (soon : u < t + 10000) where
  abbrev Back : Decision → Type 0
  Back r =
      step (requested c l r).next
      (name_written l u (take (packet_length r.sends c.name) (packet_to r.sends r.session.key c.name nonce packet)))
      ≡ takes (clock_step u (requested c l r).next)

  decision-back : {x : Context} {s : Session} {uses : Bool} {f : Search} {r : Decision} → Way x s t uses f r → r.answer ≡ Taken
      → 0 < packet_length r.sends c.name → Back r
  decision-back locked e n = absurd (unlike LockedOut Taken tt e)
  decision-back awaited e n = absurd (unlike RotationAwaited Taken tt e)
  decision-back unasked e n = absurd (unlike NotInPairingMode Taken tt e)
  decision-back (no-fit h a) e n = absurd (unlike NoKeyFits Taken tt e)
  decision-back spent e n = absurd (unlike SaltSpent Taken tt e)
  decision-back {x} {s} {uses} {r} (taken f z p a) e n = go (name_asked f.plain) n
    where
      ks : AccountKeys
      ks = used_in uses f.key c.keys

      go : (b : Bool) → 0 < (if b then packet_size c.name else 0)
          → step (requested c l (accepted x.guard t uses r.tried f)).next (name_written l u
          (take (if b then packet_size c.name else 0)
          (if b then sealed f.key nonce (text_of c.name) ++ drop (packet_size c.name) packet else packet)))
          ≡ takes (clock_step u (requested c l (accepted x.guard t uses r.tried f)).next)
      go false n = absurd (omega (arith, n))
      go true n =
          ap (λ (p : List ℕ). step (requested c l (accepted x.guard t uses r.tried f)).next (name_written l u p))
          (sent_packet f.key nonce (text_of c.name) (drop (packet_size c.name) packet) eight)
          ∙ comes_back (with_keys c ks) l t u known (keys_valid v ks (used_valid uses f.key c.keys v.keys))
          (accepted x.guard t uses r.tried f).guard _ f.key nonce eight on soon

pub packet_comes_back : PacketComesBack
unfolding clock_step
packet_comes_back d l t u request element salt nonce out packet v eight =
    go (way d (OnLink l t (KeyBasedWrite request element salt nonce out packet)))
  where
    go : {x : Effect} → event.Way d (OnLink l t (KeyBasedWrite request element salt nonce out packet)) x
        → x.gives.reply.answer ≡ Taken → 0 < x.gives.reply.packet → t ≤ u → u < t + 10000
        → step x.gives.next (name_written l u (sent_by x)) ≡ takes (clock_step u x.gives.next)
    go (event.unknown_link l t e) h n on soon = absurd (unlike UnknownLink Taken tt h)
    go (event.refused_early l t e a p q) h n on soon = absurd (true_is (sym q ∙ ap is_taken h))
    go (event.link-late l t e) h n on soon = absurd (unlike ClockWentBack Taken tt h)
    go (event.on_link_lem l t e k) h n on soon =
        decision-back (clock_step t d) l t u k (clock_step_valid v t) nonce packet eight on soon
        (decided_way (context_of (clock_step t d)) (session_at (clock_step t d).sessions l) t element request) h n
