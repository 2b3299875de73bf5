-- Document 01, "The device and its events": the parts of a device, what an event does, and the checks before it.
-- Assumes nothing.
use Rattle.std.specs.Prelude.{List, [], ◌≡◌, ℕ, ltb, if◌then◌else◌, None, Result, Ok, Err}
use Rattle.account_keys.specs.declared.AccountKeys.{AccountKeys}
use Rattle.advertising.specs.declared.Beacon.{Beacon}
use Rattle.basics.specs.declared.Answer.{Answer}
use Rattle.basics.specs.declared.Answer.TheVariants.{Taken, UnknownLink, ClockWentBack}
use Rattle.names.specs.declared.Name.{Name}
use Rattle.provider.specs.declared.Device.{Device}
use Rattle.provider.specs.declared.Outcome.{Outcome}
use Rattle.provider.specs.declared.Reply.{Reply}
use Rattle.request_guard.specs.Guard.{guard_at}
use Rattle.request_guard.specs.declared.Guard.{Guard}
use Rattle.request_guard.specs.declared.wait.RotationWait.{RotationWait}
use Rattle.sessions.specs.Sessions.{idle, all_idle, with_session, expired}
use Rattle.sessions.specs.declared.Session.{Session}
use Rattle.sessions.specs.declared.Sessions.{Sessions}

-- ---- a device with one part changed

abbrev pub with_keys : Device → AccountKeys → Device
with_keys d ks = record d { keys = ks }

abbrev pub with_sessions : Device → Sessions → Device
with_sessions d ss = record d { sessions = ss }

abbrev pub with_guard : Device → Guard → Device
with_guard d g = record d { guard = g }

abbrev pub with_wait : Device → RotationWait → Device
with_wait d w = record d { wait = w }

abbrev pub with_beacon : Device → Beacon → Device
with_beacon d b = record d { beacon = b }

abbrev pub with_name : Device → Name → Device
with_name d n = record d { name = n }

-- "Drops K on all links."
abbrev pub drop_all : Device → Device
drop_all d = with_sessions d all_idle

-- link l with another session
abbrev pub with_link : Device → ℕ → Session → Device
with_link d l s = with_sessions d (with_session d.sessions l s)

abbrev pub drop_at : Device → ℕ → Device
drop_at d l = with_link d l idle

-- ---- what an event does

-- the next device with the reply, and the bytes of each lent output afterwards
pub record Effect : Type 0 where
  pub gives : Outcome
  pub leaves : List (List ℕ)

-- an answer that hands out nothing: "An answer given before trying says 0."
abbrev pub reply_of : Answer → Reply
reply_of a = record { answer = a; tried = 0; named = None; bond = None; confirm = None; packet = 0 }

abbrev pub given : Device → Answer → Outcome
given d a = record { next = d; reply = reply_of a }

-- that, and the lent outputs stay as they were
abbrev pub answers : Device → Answer → List (List ℕ) → Effect
answers d a outs = record { gives = given d a; leaves = outs }

-- an event that lends no output
abbrev pub takes : Device → Effect
takes d = answers d Taken []

-- ---- the checks before an event

-- "the clock is stored; then any K in asked, confirming or paired whose stage began 10,000 ms or more ago is dropped ..;
-- then, if the last counted failure is 300,000 ms or more old, the failure count becomes 0. This is the clock step."
unfoldable pub clock_step : ℕ → Device → Device
clock_step t d = record d { clock = record { 0 = t }; sessions = expired t d.sessions; guard = guard_at t d.guard }

-- answer 4, "clock below the stored clock": "K dropped on all links; clock stays"; else the clock step
unfoldable pub in_time : Device → ℕ → Result Device Outcome
in_time d t = if ltb t d.clock.0 then Err (given (drop_all d) ClockWentBack) else Ok (clock_step t d)

-- a refusal of `early`, or what comes after it
abbrev pub unless_refused : Device → Result Unit Answer → Result Device Outcome → Result Device Outcome
unless_refused d (Ok u) after = after
unless_refused d (Err a) after = Err (given d a)

-- "Checked in this order: 1, 2, 3, 13, 4": `early` is what 2, 3 and 13 come to
unfoldable pub on_known_link : Device → ℕ → ℕ → Result Unit Answer → Result Device Outcome
on_known_link d l t early = if ltb 7 l then Err (given d UnknownLink) else unless_refused d early (in_time d t)

-- an event that these checks came before: a refusal leaves the lent outputs as they were, else the event goes on from the device
-- after the clock step
abbrev pub after_checks : Result Device Outcome → List (List ℕ) → (Device → Effect) → Effect
after_checks (Ok d) outs rest = rest d
after_checks (Err o) outs rest = record { gives = o; leaves = outs }

-- the outcome is the refusal, or one that R ties to the device after the clock step
abbrev pub Continues : Result Device Outcome → (Device → Outcome → Type 0) → Outcome → Type 0
Continues (Ok d) R o = R d o
Continues (Err r) R o = o ≡ r
