-- Document 01, "The device and its events": links, stages and their timers.
-- Assumes nothing.
use Rattle.std.specs.Prelude.{Bool, true, false, [], map, ◌≡◌, ℕ, ◌-◌, ◌<◌, leb, eqb, get_or, set, replicate, if◌then◌else◌, Result, Ok, Err}
use Rattle.laws.specs.Choice.{◌and◌}
use Rattle.sessions.specs.declared.Session.{Session}
use Rattle.sessions.specs.declared.Sessions.{Sessions}
use Rattle.sessions.specs.declared.Stage.{Stage}
use Rattle.sessions.specs.declared.UnknownStage.{UnknownStage}
use Rattle.sessions.specs.declared.Stage.TheVariants.{Idle, Asked, Pairing, Confirming, Proved, Paired}

-- "Eight links, 0 to 7"
abbrev pub link_count : ℕ
link_count = 8

-- a link that holds no key: nothing of an earlier one is left
abbrev pub idle : Session
idle = record { stage = Idle; key = replicate 16 0; since = record { 0 = 0 }; passkey = 0 }

-- what stands past the last link
abbrev pub absent_session : Session
absent_session = record { stage = Idle; key = []; since = record { 0 = 0 }; passkey = 0 }

abbrev pub all_idle : Sessions
all_idle = record { links = replicate link_count idle }

abbrev pub session_at : Sessions → ℕ → Session
session_at ss l = get_or ss.links l absent_session

abbrev pub with_session : Sessions → ℕ → Session → Sessions
with_session ss l s = record { links = set ss.links l s }

-- stages by number, to compare them
abbrev pub stage_number : Stage → ℕ
stage_number Idle = 0
stage_number Asked = 1
stage_number Pairing = 2
stage_number Confirming = 3
stage_number Proved = 4
stage_number Paired = 5

-- what a number is read as: the stage that has it, or no stage, past the last one's
abbrev pub IsStageOf : ℕ → Result Stage UnknownStage → Type 0
IsStageOf n (Ok stage) = stage_number stage ≡ n
IsStageOf n (Err unknown) = (unknown.0 ≡ n) × (stage_number Paired < n)

abbrev pub is_stage : Stage → Stage → Bool
is_stage x y = eqb (stage_number x) (stage_number y)

-- the session in its next stage, from moment t on
abbrev pub becomes : Stage → ℕ → Session → Session
becomes stage t s = record { stage = stage; key = s.key; since = record { 0 = t }; passkey = 0 }

-- "Pairing and proved have no timer."
abbrev pub has_timer : Stage → Bool
has_timer Idle = false
has_timer Asked = true
has_timer Pairing = false
has_timer Confirming = true
has_timer Proved = false
has_timer Paired = true

-- "any K in asked, confirming or paired whose stage began 10,000 ms or more ago is dropped (9,999 is in time)"
unfoldable pub at_clock : ℕ → Session → Session
at_clock t s = if has_timer s.stage and leb 10000 (t - s.since.0) then idle else s

abbrev pub expired : ℕ → Sessions → Sessions
expired t ss = record { links = map (at_clock t) ss.links }

-- a session that holds no key holds nothing
abbrev pub Canonical : Session → Type 0
Canonical s = s.stage ≡ Idle → s ≡ idle
