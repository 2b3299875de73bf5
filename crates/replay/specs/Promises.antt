-- What is promised of the replay.
-- Assumes nothing.
use Rattle.std.specs.Prelude.{◌≡◌, ℕ, zero, suc, ◌<◌, ◌≤◌, List, [], ◌∷◌, ◌++◌, map, length, take}
use Rattle.std.specs.Result.{IsOk, result_unwrap_or}
use Rattle.laws.specs.Lists.{All}
use Rattle.basics.specs.Answers.{answer_number}
use Rattle.basics.specs.declared.Answer.TheVariants.{Taken}
use Rattle.provider.specs.Demands.Validity.{Valid}
use Rattle.provider.specs.Rules.Event.{Event, PowerOn, step, next, answer_of}
use Rattle.provider.specs.declared.Device.{Device}
use Rattle.provider.specs.declared.Start.{Start}
use Rattle.recording.specs.Layout.{kind_of}
use Rattle.recording.specs.Promises.{Fits, kept}
use Rattle.reassembly.specs.Parts.{none, unfinished}
use Rattle.recording.specs.Reading.{divide, event_in, events}
use Rattle.recording.specs.Writing.{record_report, record_placed}
use Rattle.replay.specs.Parts.{start_stream, Ready, fed, ended}
use Rattle.replay.specs.Replay.{one_more, shown, start, lines, after_events}
use Rattle.replay.specs.declared.Line.{Line}
use Rattle.replay.specs.declared.Replay.{Replay}
use Rattle.std.specs.Prelude.{Option, Some, None}
use Rattle.replay.specs.declared.parts.Stream.{Stream}

-- "one line for each event": any bytes at all give lines
abbrev pub LineForEach : Type 0
LineForEach = (recording : List ℕ) → length (lines recording) ≡ length (events recording)

-- a replay's device is valid, whatever is read
abbrev pub ShowsValid : Type 0
ShowsValid = (r : Replay) (e : Event) → Valid r.device → Valid (shown r e).next.device

-- an event gives what it gives without the bytes of its lent outputs: a record does not keep them. Of a rejected point an event has no
-- secret, whatever bytes C hands in as one (`RejectedSecretUnread` of `packed`)
abbrev pub KeptGives : Type 0
KeptGives = (d : Device) (e : Event) → (step d (kept e)).gives ≡ (step d e).gives

-- ---- what was recorded is replayed

-- a call of the writer: the event, and the output that was lent
pub record Call : Type 0 where
  pub event : Event
  pub out : List ℕ

-- "the writer took every event"
pub record Took (c : Call) : Type 0 where
  pub sized : Fits c.event
  pub taken : IsOk (record_report c.event c.out)

-- the bytes that it wrote
abbrev pub record_left : Call → List ℕ
record_left c = take (result_unwrap_or (record_report c.event c.out) 0) (record_placed c.event c.out)

abbrev pub recording_of : List Call → List ℕ
recording_of [] = []
recording_of (c ∷ cs) = record_left c ++ recording_of cs

-- what the events gave, on a device, after n events
abbrev pub lines_given : ℕ → Device → List Call → List Line
lines_given n d [] = []
lines_given n d (c ∷ cs) =
    record {
      number = one_more n;
      kind = kind_of c.event;
      answer = answer_number (answer_of d c.event);
      size = (next d c.event).keys.count;
    }
    ∷ lines_given (one_more n) (next d c.event) cs

-- "If the writer took every event from a taken power-on on, replay by the same build gives the answers that the events gave",
-- whatever whole records stand before
abbrev pub ReplayGivesAnswers : Type 0
ReplayGivesAnswers =
    (before : List ℕ) → (divide before).rest ≡ []
    → (d : Device) (stored name : List ℕ) (s : Start) (out : List ℕ) (cs : List Call)
    → answer_of d (PowerOn stored name s) ≡ Taken
    → All Took (record { event = PowerOn stored name s; out = out } ∷ cs)
    → lines (before ++ recording_of (record { event = PowerOn stored name s; out = out } ∷ cs))
    ≡ lines before
    ++ lines_given (after_events start (events before)).number d (record { event = PowerOn stored name s; out = out } ∷ cs)

-- ---- a recording that arrives in parts

-- a step reads on, and not past the part: no byte is looked at in two steps
abbrev pub StepReadsOn : Type 0
StepReadsOn =
    (s : Stream) (part : List ℕ) (at : ℕ) → Ready s → at < length part
    → (at < (fed s part at).at) × ((fed s part at).at ≤ length part)

-- a stream that is fed stays ready, and so does one that has ended
abbrev pub StaysReady : Type 0
StaysReady =
    (s : Stream) → Ready s → ((part : List ℕ) (at : ℕ) → Ready (fed s part at).next) × Ready (ended s).next

-- "At most one unfinished record is held": with its length field it has 1,026 bytes at most, and the last is not there
abbrev pub HeldShort : Type 0
HeldShort = (s : Stream) → Ready s → s.unfinished.count ≤ 1025

-- the lines that steps gave, and the stream behind them
pub record Lines : Type 0 where
  pub lines : List Line
  pub next : Stream

abbrev pub line_then : Option Line → Stream → Lines → Lines
line_then None s later = record { lines = []; next = s }
line_then (Some l) s later = record { lines = l ∷ later.lines; next = later.next }

-- a part from a place on, step by step as long as lines come; each takes a byte and more, so that `fuel` of one more than the part's
-- length is enough
unfoldable pub fed_within : ℕ → Stream → List ℕ → ℕ → Lines
fed_within zero s part at = record { lines = []; next = s }
fed_within (suc fuel) s part at =
    line_then (fed s part at).line (fed s part at).next (fed_within fuel (fed s part at).next part (fed s part at).at)

abbrev pub fed_part : Stream → List ℕ → Lines
fed_part s part = fed_within (suc (length part)) s part 0

-- part by part; any of them may be empty
unfoldable pub fed_parts : Stream → List (List ℕ) → Lines
fed_parts s [] = record { lines = []; next = s }
fed_parts s (p ∷ ps) =
    record {
      lines = (fed_part s p).lines ++ (fed_parts (fed_part s p).next ps).lines;
      next = (fed_parts (fed_part s p).next ps).next;
    }

-- "sometimes nothing": an empty part gives no line and changes nothing
abbrev pub EmptyPartKeeps : Type 0
EmptyPartKeeps = (s : Stream) → Ready s → fed_part s [] ≡ record { lines = []; next = s }

-- the line of a cut record
abbrev pub line_of : Option Line → List Line
line_of None = []
line_of (Some l) = l ∷ []

abbrev pub joined_parts : List (List ℕ) → List ℕ
joined_parts [] = []
joined_parts (p ∷ ps) = p ++ joined_parts ps

-- "The printed lines, final state and any cut record are those of the joined recording", as request (iii) has them
pub record AsJoined (parts : List (List ℕ)) : Type 0 where
  pub printed : (fed_parts start_stream parts).lines ++ line_of (ended (fed_parts start_stream parts).next).line ≡ lines (joined_parts parts)
  pub final : (ended (fed_parts start_stream parts).next).next
      ≡ record { replay = after_events start (events (joined_parts parts)); unfinished = none }
  pub cut : (fed_parts start_stream parts).next
      ≡ record {
        replay = after_events start (map event_in (divide (joined_parts parts)).whole);
        unfinished = unfinished (divide (joined_parts parts)).rest;
      }

-- "wherever it was divided": every list of parts, empty ones included
abbrev pub PartsJoined : Type 0
PartsJoined = (parts : List (List ℕ)) → AsJoined parts
