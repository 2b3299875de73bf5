-- What was recorded is replayed: from a taken power-on on, the replay gives the answers that the events gave.
-- Assumes nothing.
use Rattle.std.proofs.Common.{◌≡◌, ℕ, suc, ◌≤◌, Bool, true, false, ltb, leb, List, [], ◌∷◌, ◌++◌, map, length, take, drop, refl, ap, ◌∙◌, take_at, ltb-false}
use Rattle.laws.proofs.Choice.{or_right}
use Rattle.std.specs.Prelude.{Option, Some, None, Result, Ok, Err, IsOk, if◌then◌else◌}
use Rattle.std.specs.Result.{result_unwrap_or}
use Rattle.laws.specs.Lists.{All}
use Rattle.account_keys.specs.StoredList.{reading}
use Rattle.account_keys.specs.declared.AccountKeys.{AccountKeys}
use Rattle.basics.proofs.Answers.{unlike}
use Rattle.basics.specs.Answers.{is_taken}
use Rattle.basics.specs.declared.Answer.{Answer}
use Rattle.basics.specs.declared.Answer.TheVariants.{Taken, ListMalformed, WrongLength, OutputTooShort}
use Rattle.names.specs.Name as names
use Rattle.names.specs.declared.Name.{Name}
use Rattle.pairing.specs.Pairing.{PairingStarted, ConfirmationNeeded, PasskeyWrite, PairingEnded, AccountKeyWrite, NameWrite}
use Rattle.provider.specs.Rules.Control.{power_on, by_list}
use Rattle.provider.specs.Rules.Event.{Event, Overflow, PowerOn, OnDevice, OnLink, LinkUp, LinkDown, KeyBasedWrite, OnSession, step, next, answer_of}
use Rattle.provider.specs.declared.Device.{Device}
use Rattle.provider.specs.declared.Outcome.{Outcome}
use Rattle.provider.specs.declared.Start.{Start}
use Rattle.recording.proofs.Divisions.{read_on, records_read}
use Rattle.recording.specs.Layout.{body, framed, kind_of}
use Rattle.recording.specs.Promises.{Recorded, kept, records_of}
use Rattle.recording.specs.Reading.{events}
use Rattle.recording.specs.declared.Kind.TheVariants as kind
use Rattle.recording.specs.Writing.{body_report, body_placed}
use Rattle.replay.proofs.Theorems.Kept.{kept_gives}
use Rattle.replay.specs.Promises.{Call, Took, recording_of, lines_given, LineForEach, ReplayGivesAnswers}
use Rattle.replay_events.specs.Played.{played}
use Rattle.replay.specs.Replay.{one_more, start, has_device, shown, shown_of, answered, refused, lines_from, after_events, lines}
use Rattle.replay.specs.declared.Line.{Line}
use Rattle.replay.specs.declared.Replay.{Replay}
use Rattle.replay.specs.declared.Shown.{Shown}

-- ---- a line for each event

line_for_each_from : (r : Replay) (es : List Event) → length (lines_from r es) ≡ length es
unfolding lines_from
line_for_each_from r [] = refl
line_for_each_from r (e ∷ es) = ap suc (line_for_each_from (shown r e).next es)

pub line_for_each : LineForEach
line_for_each recording = line_for_each_from start (events recording)

-- ---- one list of events behind another

pub lines_on : (r : Replay) (xs ys : List Event) → lines_from r (xs ++ ys) ≡ lines_from r xs ++ lines_from (after_events r xs) ys
unfolding lines_from after_events
lines_on r [] ys = refl
lines_on r (x ∷ xs) ys = ap (λ (l : List Line). (shown r x).line ∷ l) (lines_on (shown r x).next xs ys)

-- ---- what the writer took

-- a writer that gives a length wrote the record, which is no longer than 1,024 bytes after its length field
took_body : (b out : List ℕ) → IsOk (body_report b out)
    → (length b ≤ 1024) × (take (result_unwrap_or (body_report b out) 0) (body_placed b out) ≡ framed b)
unfolding body_report body_placed
took_body b out h = by_tests (ltb 1024 (length b)) (leb (length (framed b)) (length out)) refl h
  where
    report : Bool → Bool → Result ℕ Answer
    report p q = if p then Err WrongLength else if q then Ok (length (framed b)) else Err OutputTooShort

    by_tests : (p q : Bool) → ltb 1024 (length b) ≡ p → IsOk (report p q)
        → (length b ≤ 1024)
        × (take (result_unwrap_or (report p q) 0) (if p then out else if q then framed b ++ drop (length (framed b)) out else out)
        ≡ framed b)
    by_tests true q e h = cc
    by_tests false true e h = (ltb-false 1024 (length b) e, take_at (framed b) (drop (length (framed b)) out) (length (framed b)) refl)
    by_tests false false e h = cc

recorded : (c : Call) → Took c → Recorded c.event
recorded c k = record { sized = k.sized; short = (took_body (body c.event) c.out k.taken).0 }

abbrev events_of : List Call → List Event
events_of cs = map (λ c. c.event) cs

all_recorded : (cs : List Call) → All Took cs → All Recorded (events_of cs)
all_recorded [] all = tt
all_recorded (c ∷ cs) (k, all) = (recorded c k, all_recorded cs all)

records_left : (cs : List Call) → All Took cs → recording_of cs ≡ records_of (events_of cs)
records_left [] all = refl
records_left (c ∷ cs) (k, all) =
    λ i. (took_body (body c.event) c.out k.taken).1 i ++ records_left cs all i

-- ---- with a device, a line shows what the event gave

kind_kept : (e : Event) → kind_of (kept e) ≡ kind_of e
kind_kept Overflow = refl
kind_kept (PowerOn stored name s) = refl
kind_kept (OnDevice t e) = refl
kind_kept (OnLink l t LinkUp) = refl
kind_kept (OnLink l t LinkDown) = refl
kind_kept (OnLink l t (KeyBasedWrite request element salt nonce out packet)) = refl
kind_kept (OnLink l t (OnSession (PairingStarted capability))) = refl
kind_kept (OnLink l t (OnSession (ConfirmationNeeded passkey))) = refl
kind_kept (OnLink l t (OnSession (PasskeyWrite block salt out))) = refl
kind_kept (OnLink l t (OnSession (PairingEnded success))) = refl
kind_kept (OnLink l t (OnSession (AccountKeyWrite block))) = refl
kind_kept (OnLink l t (OnSession (NameWrite packet))) = refl

-- an event is played as the record keeps it
played_kept : (d : Device) (e : Event) → played d (kept e) ≡ played d e
played_kept d e = λ i. record { kind = kind_kept e i; outcome = kept_gives d e i }

given_lines : (n : ℕ) (d : Device) (cs : List Call)
    → lines_from (record { started = true; number = n; device = d }) (map kept (events_of cs)) ≡ lines_given n d cs
unfolding lines_from shown_of answered
given_lines n d [] = refl
given_lines n d (c ∷ cs) =
    ap (λ p. (shown_of (record { started = true; number = n; device = d }) p).line
    ∷ lines_from (shown_of (record { started = true; number = n; device = d }) p).next (map kept (events_of cs)))
    (played_kept d c.event)
    ∙ ap (λ (l : List Line). (shown (record { started = true; number = n; device = d }) c.event).line ∷ l)
    (given_lines (one_more n) (next d c.event) cs)

-- ---- a taken power-on starts from nothing that was before

power_on_anew : (d c : Device) (stored name : List ℕ) (s : Start) → answer_of d (PowerOn stored name s) ≡ Taken
    → (step c (PowerOn stored name s)).gives ≡ (step d (PowerOn stored name s)).gives
unfolding power_on
power_on_anew d c stored name s h = by_reading (reading stored) (names.reading name) h
  where
    by_reading : (keys : Option AccountKeys) (n : Option Name) → (by_list d keys n s).gives.reply.answer ≡ Taken
        → (by_list c keys n s).gives ≡ (by_list d keys n s).gives
    by_reading (Some ks) (Some n) h = refl
    by_reading (Some ks) None h = absurd (unlike ListMalformed Taken tt h)
    by_reading None n h = absurd (unlike ListMalformed Taken tt h)

-- the power-on's line, and the replay behind it, whatever there was before
started_anew : (r : Replay) (d : Device) (stored name : List ℕ) (s : Start) → answer_of d (PowerOn stored name s) ≡ Taken
    → shown r (PowerOn stored name s) ≡ answered (one_more r.number) kind.PowerOn (step d (PowerOn stored name s)).gives
unfolding shown_of
started_anew r d stored name s h =
    let taken : has_device r.started kind.PowerOn (answer_of d (PowerOn stored name s)) ≡ true =
    or_right r.started (is_taken (answer_of d (PowerOn stored name s))) (ap is_taken h)
    in
    ap (λ (o : Outcome). shown_of r (record { kind = kind.PowerOn; outcome = o })) (power_on_anew d r.device stored name s h)
    ∙ ap (λ (b : Bool). if b then answered (one_more r.number) kind.PowerOn (step d (PowerOn stored name s)).gives
    else refused (one_more r.number) kind.PowerOn r.device) taken

from_power_on : (r : Replay) (d : Device) (stored name : List ℕ) (s : Start) (out : List ℕ) (cs : List Call)
    → answer_of d (PowerOn stored name s) ≡ Taken
    → lines_from r (map kept (events_of (record { event = PowerOn stored name s; out = out } ∷ cs)))
    ≡ lines_given r.number d (record { event = PowerOn stored name s; out = out } ∷ cs)
unfolding lines_from answered
from_power_on r d stored name s out cs h =
    ap (λ (x : Shown). x.line ∷ lines_from x.next (map kept (events_of cs))) (started_anew r d stored name s h)
    ∙ ap (λ (l : List Line). (answered (one_more r.number) kind.PowerOn (step d (PowerOn stored name s)).gives).line ∷ l)
    (given_lines (one_more r.number) (next d (PowerOn stored name s)) cs)

pub replay_gives_answers : ReplayGivesAnswers
replay_gives_answers before whole d stored name s out cs h all =
    let calls : List Call = record { event = PowerOn stored name s; out = out } ∷ cs in
    ap (λ (l : List ℕ). lines (before ++ l)) (records_left calls all)
    ∙ ap (lines_from start) (read_on before (records_of (events_of calls)) whole
    ∙ ap (λ (es : List Event). events before ++ es) (records_read (events_of calls) (all_recorded calls all)).1)
    ∙ lines_on start (events before) (map kept (events_of calls))
    ∙ ap (λ (l : List Line). lines before ++ l) (from_power_on (after_events start (events before)) d stored name s out cs h)
