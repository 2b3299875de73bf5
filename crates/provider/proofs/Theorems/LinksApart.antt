-- An event on one link leaves the other links' keys and stages as they are, timers and answer 4 apart.
-- Assumes nothing.
use mathlib.Core.Bool.{Bool}
use mathlib.Core.Path.{◌≡◌, refl, ◌∙◌}
use Prim.Native.Nat.{ℕ, ◌<◌}
use lib.ListN.{replicate}
use Rattle.laws.proofs.All.{all_get, all_replicate}
use Rattle.std.specs.Prelude.{Err}
use Rattle.basics.specs.declared.Answer.{Answer}
use Rattle.key_based.proofs.Deciding.{Way, locked, awaited, unasked, no-fit, spent, taken, decided_way}
use Rattle.key_based.specs.declared.Context.{Context}
use Rattle.key_based.specs.declared.Decision.{Decision}
use Rattle.key_based.specs.declared.Search.{Search}
use Rattle.pairing.proofs.SessionSteps.{OnSessions, step_lawful}
use Rattle.pairing.proofs.SessionSteps as session-answer
use Rattle.provider.proofs.Checks.{early_ways}
use Rattle.provider.proofs.Theorems.Ways as event
use Rattle.provider.proofs.Theorems.Ways.{way}
use Rattle.provider.specs.Demands.LinksApart.{other_session, LinksApart}
use Rattle.provider.specs.Rules.Device.{Effect, clock_step}
use Rattle.provider.specs.Rules.Event.{LinkEvent, LinkUp, LinkDown, KeyBasedWrite, OnSession, OnLink, early, context_of, requested, on_link}
use Rattle.provider.specs.declared.Device.{Device}
use Rattle.sessions.proofs.Laws.{expired_at, other_link}
use Rattle.sessions.specs.Sessions.{link_count, idle, absent_session, all_idle, session_at, with_session, at_clock, expired}
use Rattle.sessions.specs.declared.Session.{Session}

-- answer 4 leaves every link idle
all_dropped : (l : ℕ) → l < link_count → session_at all_idle l ≡ idle
all_dropped l h =
    all_get (λ (s : Session). s ≡ idle) (replicate link_count idle)
    (all_replicate (λ (s : Session). s ≡ idle) link_count idle refl) l absent_session h

-- an early refusal leaves the session
early_kept : (t : ℕ) (s : Session) (e : LinkEvent) {a : Answer} → early e ≡ Err a → s ≡ other_session a t s
early_kept t s = early_ways (λ a. s ≡ other_session a t s) refl refl refl

-- an event's link m is another than l
module _ (d : Device) {l m : ℕ} (t : ℕ) (h : m ≡ l → ⊥) where
  -- the clock step, and another session on link m
  stepped : (s : Session) → session_at (with_session (clock_step t d).sessions m s) l ≡ at_clock t (session_at d.sessions l)
  unfolding clock_step
  stepped s = other_link (expired t d.sessions) m l s h ∙ expired_at t d.sessions l

  -- answers 0 and 5 to 8
  decision-apart : {c : Context} {u : Session} {uses : Bool} {f : Search} {r : Decision} → Way c u t uses f r
      → session_at (requested (clock_step t d) m r).next.sessions l ≡ other_session r.answer t (session_at d.sessions l)
  decision-apart locked = stepped _
  decision-apart awaited = stepped _
  decision-apart unasked = stepped _
  decision-apart (no-fit e a) = stepped _
  decision-apart spent = stepped _
  decision-apart (taken f z p a) = stepped _

  -- answers 0, 9 to 12 and 15
  late : {a : Answer} → OnSessions a → (s : Session) → at_clock t s ≡ other_session a t s
  late session-answer.taken s = refl
  late session-answer.link_idle s = refl
  late session-answer.wrong_stage s = refl
  late session-answer.capability-refused s = refl
  late session-answer.bad-block s = refl
  late session-answer.name_refused s = refl

  on-link-apart : (e : LinkEvent)
      → session_at (on_link e (clock_step t d) m t).gives.next.sessions l
      ≡ other_session (on_link e (clock_step t d) m t).gives.reply.answer t (session_at d.sessions l)
  on-link-apart LinkUp = stepped idle
  on-link-apart LinkDown = stepped idle
  on-link-apart (KeyBasedWrite request element salt nonce out packet) =
      decision-apart (decided_way (context_of (clock_step t d)) (session_at (clock_step t d).sessions m) t element request)
  on-link-apart (OnSession e) =
      stepped _ ∙ late (step_lawful e t (session_at (clock_step t d).sessions m)).answer (session_at d.sessions l)

pub links_apart : LinksApart
links_apart d m t e l k h = go (way d (OnLink m t e))
  where
    go : {x : Effect} → event.Way d (OnLink m t e) x
        → session_at x.gives.next.sessions l ≡ other_session x.gives.reply.answer t (session_at d.sessions l)
    go (event.unknown_link m t e) = refl
    go (event.refused_early m t e a p q) = early_kept t (session_at d.sessions l) e p
    go (event.link-late m t e) = all_dropped l k
    go (event.on_link_lem m t e q) = on-link-apart d t h e
