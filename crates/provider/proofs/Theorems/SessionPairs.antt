-- The links of two runs: each session of the second is the first's, or idle.
-- Assumes nothing.
use mathlib.Core.List.{List, [], ◌∷◌, map}
use mathlib.Core.Path.{◌≡◌, refl}
use Prim.Native.Nat.{ℕ, zero, suc}
use lib.ListN.{get_or, set, replicate}
use Rattle.sessions.specs.Sessions.{idle, absent_session, at_clock}
use Rattle.sessions.specs.declared.Session.{Session}
use Rattle.sessions.specs.declared.Stage.TheVariants.{Idle}

-- a session of the first run, and of the second on the same link
pub data SameOrIdle : Session → Session → Type 0 where
  same : {s : Session} → SameOrIdle s s
  second-idle : {s u : Session} → u.stage ≡ Idle → SameOrIdle s u

-- the sessions of n links
pub data EachSameOrIdle : ℕ → List Session → List Session → Type 0 where
  no-links : EachSameOrIdle 0 [] []
  link : {s u : Session} {n : ℕ} {ss us : List Session} → SameOrIdle s u → EachSameOrIdle n ss us
      → EachSameOrIdle (suc n) (s ∷ ss) (u ∷ us)

-- at the start both runs have the same sessions
pub each_replicate : (n : ℕ) (s : Session) → EachSameOrIdle n (replicate n s) (replicate n s)
each_replicate zero s = no-links
each_replicate (suc n) s = link same (each_replicate n s)

-- a marker in the second run alone
pub each_idle : {n : ℕ} {ss us : List Session} → EachSameOrIdle n ss us → EachSameOrIdle n ss (replicate n idle)
each_idle no-links = no-links
each_idle (link p f) = link (second-idle refl) (each_idle f)

-- the sessions of one link
pub each_at : {n : ℕ} {ss us : List Session} → EachSameOrIdle n ss us → (l : ℕ)
    → SameOrIdle (get_or ss l absent_session) (get_or us l absent_session)
each_at no-links l = same
each_at (link p f) zero = p
each_at (link p f) (suc l) = each_at f l

-- other sessions on one link
pub each_set : {n : ℕ} {ss us : List Session} → EachSameOrIdle n ss us → (l : ℕ) {s u : Session} → SameOrIdle s u
    → EachSameOrIdle n (set ss l s) (set us l u)
each_set no-links l q = no-links
each_set (link p f) zero q = link q f
each_set (link p f) (suc l) q = link p (each_set f l q)

-- an idle session stays idle at any moment
pub idle_at_clock : (t : ℕ) (s : Session) → s.stage ≡ Idle → (at_clock t s).stage ≡ Idle
unfolding at_clock
idle_at_clock t s e = rw e

at_clock_lem : (t : ℕ) {s u : Session} → SameOrIdle s u → SameOrIdle (at_clock t s) (at_clock t u)
at_clock_lem t same = same
at_clock_lem t (second-idle {u = u} e) = second-idle (idle_at_clock t u e)

-- the timers of both
pub each_expired : (t : ℕ) {n : ℕ} {ss us : List Session} → EachSameOrIdle n ss us
    → EachSameOrIdle n (map (at_clock t) ss) (map (at_clock t) us)
each_expired t no-links = no-links
each_expired t (link p f) = link (at_clock_lem t p) (each_expired t f)
