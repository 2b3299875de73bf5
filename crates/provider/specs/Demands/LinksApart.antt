-- "An event on one link leaves the other links' K and stages as they are, timers and answer 4 apart."
-- Assumes nothing.
use Rattle.std.specs.Prelude.{[], ◌∷◌, ◌≡◌, ℕ, ◌<◌, if◌then◌else◌}
use Rattle.basics.specs.Answers.{is_one_of}
use Rattle.basics.specs.declared.Answer.{Answer}
use Rattle.provider.specs.Rules.Event.{LinkEvent, OnLink, next, answer_of}
use Rattle.provider.specs.declared.Device.{Device}
use Rattle.sessions.specs.Sessions.{link_count, idle, session_at, at_clock}
use Rattle.sessions.specs.declared.Session.{Session}

-- another link's session after answer a at moment t: 1, 2, 3 and 13 come before the clock step, and 4 drops K on all links
abbrev pub other_session : Answer → ℕ → Session → Session
other_session a t s =
    if is_one_of (1 ∷ 2 ∷ 3 ∷ 13 ∷ []) a then s else
    if is_one_of (4 ∷ []) a then idle else
    at_clock t s

abbrev pub LinksApart : Type 0
LinksApart =
    (d : Device) (m t : ℕ) (e : LinkEvent) (l : ℕ) → l < link_count → (m ≡ l → ⊥)
    → session_at (next d (OnLink m t e)).sessions l
    ≡ other_session (answer_of d (OnLink m t e)) t (session_at d.sessions l)
