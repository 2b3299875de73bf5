-- A refusal writes nothing, changes only what its row names and hands out nothing but the number of keys tried.
-- Assumes nothing.
use mathlib.Core.Bool.{false}
use mathlib.Core.List.{List, [], ◌∷◌}
use mathlib.Core.Path.{◌≡◌, refl, sym, ap, ◌∙◌}
use Prim.Native.Nat.{ℕ}
use lib.Seq.{set-get_or}
use Rattle.laws.proofs.Choice.{true_is, if_same}
use Rattle.std.specs.Prelude.{Option, None, Err}
use Rattle.basics.specs.Answers.{is_taken, is_one_of}
use Rattle.basics.specs.declared.Answer.{Answer}
use Rattle.key_based.proofs.Deciding.{Way, locked, awaited, unasked, no-fit, spent, taken, decided_way, outputs_kept}
use Rattle.key_based.specs.Decision.{tried_keys, uses_key, decided}
use Rattle.key_based.specs.declared.Decision.{Decision}
use Rattle.key_based.specs.declared.named.Named.{Named}
use Rattle.key_based.specs.Search.{named_in}
use Rattle.pairing.proofs.SessionSteps.{OnSessions, refused_session, step_lawful, refusal_leaves}
use Rattle.pairing.proofs.SessionSteps as session-answer
use Rattle.pairing.specs.Pairing.{PairingEvent, session_step}
use Rattle.pairing.specs.declared.SessionOutcome.{SessionOutcome}
use Rattle.provider.proofs.Checks.{early_ways}
use Rattle.provider.proofs.Theorems.Ways as event
use Rattle.provider.proofs.Theorems.Ways.{way}
use Rattle.provider.specs.Demands.Refusals.{changed, refused_next, Refusals, search_in, told_tried, NumberTried, told_named, AddressTold, refusing, RefusalsHandOutOnlyTried}
use Rattle.provider.specs.Rules.Device.{Effect, clock_step, with_sessions, with_link}
use Rattle.provider.specs.Rules.Event.{LinkEvent, LinkUp, LinkDown, KeyBasedWrite, OnSession, Event, OnLink, lent, early, context_of, requested, applied, on_link}
use Rattle.provider.specs.declared.Device.{Device}
use Rattle.sessions.specs.Sessions.{absent_session, session_at}
use Rattle.sessions.specs.declared.Session.{Session}

-- what an effect of an event has
record Tells (d : Device) (e : Event) (x : Effect) : Type 0 where
  refusal : is_taken x.gives.reply.answer ≡ false
      → (x.leaves ≡ lent e) × (x.gives.next ≡ refused_next x.gives.reply.answer d e)
      × (x.gives.reply ≡ refusing x.gives.reply)
  tried : x.gives.reply.tried ≡ told_tried x.gives.reply.answer (search_in d e).tried
  named : x.gives.reply.named ≡ told_named x.gives.reply.answer (named_in (search_in d e).found)

-- a session put back leaves the device as it was
pub same_link : (d : Device) (l : ℕ) → with_link d l (session_at d.sessions l) ≡ d
same_link d l = ap (λ (ls : List Session). with_sessions d (record { links = ls }))
    (set-get_or d.sessions.links l absent_session)

-- ---- answers 2, 3 and 13

-- an early refusal changes nothing, and tells no number of keys and no address
record Nothing (d : Device) (l t : ℕ) (a : Answer) : Type 0 where
  changes : d ≡ changed a d l t
  tells : (n : ℕ) → 0 ≡ told_tried a n
  names : (n : Option Named) → None ≡ told_named a n

early_nothing : (d : Device) (l t : ℕ) (e : LinkEvent) {a : Answer} → early e ≡ Err a → Nothing d l t a
early_nothing d l t =
    early_ways (Nothing d l t)
    (record { changes = refl; tells = λ n. refl; names = λ n. refl })
    (record { changes = refl; tells = λ n. refl; names = λ n. refl })
    (record { changes = refl; tells = λ n. refl; names = λ n. refl })

-- ---- answers 5 to 8 and 16

module _ (d : Device) (l t : ℕ) (request : List ℕ) (element : Option (List ℕ)) where
  -- a decision's outcome
  record Decides (r : Decision) : Type 0 where
    next : is_taken r.answer ≡ false → (requested (clock_step t d) l r).next ≡ changed r.answer d l t
    reply : is_taken r.answer ≡ false
        → (requested (clock_step t d) l r).reply ≡ refusing (requested (clock_step t d) l r).reply
    tried : r.tried ≡ told_tried r.answer (tried_keys (context_of (clock_step t d)) element request).tried
    named : r.named ≡ told_named r.answer (named_in (tried_keys (context_of (clock_step t d)) element request).found)

  decides : {r : Decision}
      → Way (context_of (clock_step t d)) (session_at (clock_step t d).sessions l) t (uses_key request)
      (tried_keys (context_of (clock_step t d)) element request) r
      → Decides r
  decides locked = record { next = λ _. same_link (clock_step t d) l; reply = λ _. refl; tried = refl; named = refl }
  decides awaited = record { next = λ _. same_link (clock_step t d) l; reply = λ _. refl; tried = refl; named = refl }
  decides unasked = record { next = λ _. same_link (clock_step t d) l; reply = λ _. refl; tried = refl; named = refl }
  decides (no-fit h a) = record { next = λ _. same_link _ l; reply = λ _. refl; tried = refl; named = refl }
  decides spent = record { next = λ _. same_link (clock_step t d) l; reply = λ _. refl; tried = refl; named = refl }
  decides (taken f z p a) = record {
    next = λ e. absurd (true_is (sym e));
    reply = λ e. absurd (true_is (sym e));
    tried = refl;
    named = sym (ap named_in z);
  }

-- ---- answers 9 to 12 and 15

module _ (d : Device) (l t : ℕ) where
  -- 9 and 15 leave the link as it was, and 10, 11 and 12 drop its K
  session-changed : {a : Answer} → OnSessions a → is_taken a ≡ false
      → with_link (clock_step t d) l (refused_session a (session_at (clock_step t d).sessions l)) ≡ changed a d l t
  session-changed session-answer.taken h = absurd (true_is (sym h))
  session-changed session-answer.link_idle h = same_link (clock_step t d) l
  session-changed session-answer.wrong_stage h = refl
  session-changed session-answer.capability-refused h = refl
  session-changed session-answer.bad-block h = refl
  session-changed session-answer.name_refused h = same_link (clock_step t d) l

  module _ (e : PairingEvent) where
    session-next : is_taken (session_step e t (session_at (clock_step t d).sessions l)).answer ≡ false
        → (applied (clock_step t d) l (session_step e t (session_at (clock_step t d).sessions l))).next
        ≡ changed (session_step e t (session_at (clock_step t d).sessions l)).answer d l t
    session-next h =
        let p = step_lawful e t (session_at (clock_step t d).sessions l) in
        ap (λ (a : SessionOutcome). (applied (clock_step t d) l a).next) (p.refusal h)
        ∙ session-changed p.answer h

    session-reply : is_taken (session_step e t (session_at (clock_step t d).sessions l)).answer ≡ false
        → (applied (clock_step t d) l (session_step e t (session_at (clock_step t d).sessions l))).reply
        ≡ refusing (applied (clock_step t d) l (session_step e t (session_at (clock_step t d).sessions l))).reply
    session-reply h =
        let p = step_lawful e t (session_at (clock_step t d).sessions l) in
        λ i. record {
          answer = (session_step e t (session_at (clock_step t d).sessions l)).answer;
          tried = 0;
          named = None;
          bond = None;
          confirm = (p.refusal h i).confirm;
          packet = 0;
        }

-- ---- every event

told_on_link : (d : Device) (l t : ℕ) (e : LinkEvent) → Tells d (OnLink l t e) (on_link e (clock_step t d) l t)
told_on_link d l t LinkUp = record { refusal = λ h. absurd (true_is (sym h)); tried = refl; named = refl }
told_on_link d l t LinkDown = record { refusal = λ h. absurd (true_is (sym h)); tried = refl; named = refl }
told_on_link d l t (KeyBasedWrite request element salt nonce out packet) =
    let c = context_of (clock_step t d) in
    let s = session_at (clock_step t d).sessions l in
    let r = decided c s t element request in
    let way = decided_way c s t element request in
    let p = decides d l t request element way in
    record {
      refusal = λ h. (outputs_kept c salt nonce out packet way h, p.next h, p.reply h);
      tried = p.tried;
      named = p.named;
    }
told_on_link d l t (OnSession e) = record {
  refusal = λ h. (
    refusal_leaves e t (session_at (clock_step t d).sessions l) h,
    session-next d l t e h,
    session-reply d l t e h,
  );
  -- no key is tried: told are 0 and neither, whatever the answer
  named = sym (if_same (is_taken (session_step e t (session_at (clock_step t d).sessions l)).answer) (λ _. refl));
  tried = sym (if_same (is_one_of (0 ∷ 7 ∷ 8 ∷ []) (session_step e t (session_at (clock_step t d).sessions l)).answer) (λ _. refl));
}

told : (d : Device) {e : Event} {x : Effect} → event.Way d e x → Tells d e x
told d event.marker = record { refusal = λ h. absurd (true_is (sym h)); tried = refl; named = refl }
told d (event.powered-on stored name start ks h n) = record { refusal = λ h. absurd (true_is (sym h)); tried = refl; named = refl }
told d (event.malformed stored name start) = record { refusal = λ h. (refl, refl, refl); tried = refl; named = refl }
told d (event.device-late t e) = record { refusal = λ h. (refl, refl, refl); tried = refl; named = refl }
told d (event.device-changed t e) = record { refusal = λ h. absurd (true_is (sym h)); tried = refl; named = refl }
told d (event.unknown_link l t e) = record { refusal = λ h. (refl, refl, refl); tried = refl; named = refl }
told d (event.refused_early l t e a p h) = record {
  refusal = λ _. (refl, (early_nothing d l t e p).changes, refl);
  tried = (early_nothing d l t e p).tells (search_in d (OnLink l t e)).tried;
  named = (early_nothing d l t e p).names (named_in (search_in d (OnLink l t e)).found);
}
told d (event.link-late l t e) = record { refusal = λ h. (refl, refl, refl); tried = refl; named = refl }
told d (event.on_link_lem l t e k) = told_on_link d l t e

pub refusals : Refusals
refusals d e h = let r = (told d (way d e)).refusal h in (r.0, r.1)

pub number_tried : NumberTried
number_tried d e = (told d (way d e)).tried

pub address_told : AddressTold
address_told d e = (told d (way d e)).named

pub refusals_hand_out_only_tried : RefusalsHandOutOnlyTried
refusals_hand_out_only_tried d e h = ((told d (way d e)).refusal h).2
