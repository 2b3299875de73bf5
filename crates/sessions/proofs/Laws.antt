-- Laws of the clock and the links.
-- Assumes nothing.
use mathlib.Core.Bool.{true, false}
use mathlib.Core.List.{map}
use mathlib.Core.Path.{◌≡◌, refl, sym, ap, ◌∙◌}
use Prim.Native.Nat.{ℕ, zero, suc, ◌-◌, ◌≤◌, ◌<◌}
use native.Mathlib.Omega.{arith}
use lib.Dec.{leb}
use lib.ListN.{length, get_or, length-map, get_or-map}
use lib.Seq.{get_or-set_other}
use borrow.Author.Tests.{lt-leb, eqb-true}
use Rattle.std.specs.Prelude.{Result, Ok, Err}
use Rattle.laws.proofs.All.{all_mapped}
use Rattle.laws.proofs.Choice.{if_holds}
use Rattle.laws.specs.Choice.{◌and◌}
use Rattle.laws.specs.Lists.{All}
use Rattle.sessions.specs.Sessions.{idle, absent_session, has_timer, at_clock, expired, session_at, with_session, stage_number, IsStageOf, is_stage}
use Rattle.sessions.specs.declared.Session.{Session}
use Rattle.sessions.specs.declared.Sessions.{Sessions}
use Rattle.sessions.specs.declared.Stage.{Stage}
use Rattle.sessions.specs.declared.UnknownStage.{UnknownStage}
use Rattle.sessions.specs.declared.Stage.TheVariants.{Idle, Asked, Pairing, Confirming, Proved, Paired}

-- the three ways of a session at a moment
module _ (t : ℕ) (s : Session) where
  pub at_clock_untimed : has_timer s.stage ≡ false → s ≡ at_clock t s
  unfolding at_clock
  at_clock_untimed e = rw e

  pub at_clock_in_time : has_timer s.stage ≡ true → t - s.since.0 < 10000 → s ≡ at_clock t s
  unfolding at_clock
  at_clock_in_time e h = rw (e, lt-leb 10000 (t - s.since.0) h)

-- what holds of a session and of an idle one holds of it at a moment
pub clock_keeps : (P : Session → Type 0) (t : ℕ) (s : Session) → P idle → P s → P (at_clock t s)
unfolding at_clock
clock_keeps P t s p q = if_holds P (has_timer s.stage and leb 10000 (t - s.since.0)) p (λ e. q)

-- the clock step leaves all the links, and what holds of an idle one and of each still holds of each
module _ (t : ℕ) (ss : Sessions) where
  pub length_expired : length (expired t ss).links ≡ length ss.links
  length_expired = length-map ss.links (at_clock t)

  pub expired_all : (P : Session → Type 0) → P idle → All P ss.links → All P (expired t ss).links
  expired_all P p q = all_mapped P (at_clock t) (λ s. clock_keeps P t s p) ss.links q

  pub expired_at : (l : ℕ) → session_at (expired t ss) l ≡ at_clock t (session_at ss l)
  expired_at l = ap (get_or (map (at_clock t) ss.links) l) (at_clock_untimed t absent_session refl) ∙ get_or-map (at_clock t)
      ss.links l absent_session

-- another link is left as it is
pub other_link : (ss : Sessions) (i l : ℕ) (s : Session) → (i ≡ l → ⊥) → session_at (with_session ss i s) l
    ≡ session_at ss l
other_link ss i l s h = get_or-set_other ss.links i l s absent_session (λ e. h (sym e))

abbrev stage_at : ℕ → Stage
stage_at zero = Idle
stage_at (suc zero) = Asked
stage_at (suc (suc zero)) = Pairing
stage_at (suc (suc (suc zero))) = Confirming
stage_at (suc (suc (suc (suc zero)))) = Proved
stage_at (suc (suc (suc (suc (suc n))))) = Paired

at_number : (s : Stage) → stage_at (stage_number s) ≡ s
at_number Idle = refl
at_number Asked = refl
at_number Pairing = refl
at_number Confirming = refl
at_number Proved = refl
at_number Paired = refl

-- a stage is told by its number
pub number_tells : (a b : Stage) → stage_number a ≡ stage_number b → a ≡ b
number_tells a b e = sym (at_number a) ∙ ap stage_at e ∙ at_number b

-- so the number of a stage is read as that stage
pub stage_back : (s : Stage) (r : Result Stage UnknownStage) → IsStageOf (stage_number s) r → r ≡ Ok s
stage_back s (Ok t) h = ap (λ (x : Stage). Ok x) (number_tells t s h)
stage_back s (Err u) h = absurd (omega (arith, last s, h.1))
  where
    last : (x : Stage) → stage_number x ≤ stage_number Paired
    last Idle = omega arith
    last Asked = omega arith
    last Pairing = omega arith
    last Confirming = omega arith
    last Proved = omega arith
    last Paired = omega arith

-- a session whose stage's number is idle's is idle
pub stage_idle : (s : Session) → is_stage s.stage Idle ≡ true → s.stage ≡ Idle
stage_idle s e = number_tells s.stage Idle (eqb-true (stage_number s.stage) 0 e)
