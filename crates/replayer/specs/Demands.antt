-- What is promised of calls from C.
-- Assumes nothing.
use Rattle.std.specs.Prelude.{true, List, [], ◌∷◌, ◌++◌, map, ◌≡◌, ℕ, zero, suc, eqb, length, if◌then◌else◌}
use Rattle.reassembly.specs.Parts.{none, unfinished}
use Rattle.recording.specs.Reading.{divide, event_in, events}
use Rattle.replay.specs.Parts.{start_stream, Ready}
use Rattle.replay.specs.Promises.{joined_parts}
use Rattle.replay.specs.Replay.{start, after_events, lines}
use Rattle.replay.specs.declared.parts.Stream.{Stream}
use Rattle.replayer.specs.Calls.{packed_stream, is_replay, stream_of, packed_line, fed_call, ended_call}
use Rattle.replayer.specs.declared.FpFed.{FpFed}
use Rattle.replayer.specs.declared.FpLine.{FpLine}
use Rattle.replayer.specs.declared.FpReplay.{FpReplay}

-- a replay that was handed out is known when it is handed in, and is read as the same stream
abbrev pub ReadsBack : Type 0
ReadsBack = (s : Stream) → Ready s → (is_replay (packed_stream s) ≡ true) × (stream_of (packed_stream s) ≡ s)

-- any bytes are read as a stream that is ready, so that no call needs a check first
abbrev pub AnyBytes : Type 0
AnyBytes = (f : FpReplay) → Ready (stream_of f)

-- ---- parts that are fed by calls

-- the lines of the calls, and the replay behind them
pub record CallLines : Type 0 where
  pub lines : List FpLine
  pub next : FpReplay

-- a call with status 1 gave a line, and the part is read on
abbrev pub call_then : FpFed → CallLines → CallLines
call_then f later =
    if eqb f.status 1
    then record { lines = f.line ∷ later.lines; next = later.next }
    else record { lines = []; next = f.next }

unfoldable pub calls_within : ℕ → FpReplay → List ℕ → ℕ → CallLines
calls_within zero f part at = record { lines = []; next = f }
calls_within (suc fuel) f part at =
    call_then (fed_call f part at) (calls_within fuel (fed_call f part at).next part (fed_call f part at).at)

unfoldable pub calls_fed : FpReplay → List (List ℕ) → CallLines
calls_fed f [] = record { lines = []; next = f }
calls_fed f (p ∷ ps) =
    record {
      lines = (calls_within (suc (length p)) f p 0).lines ++ (calls_fed (calls_within (suc (length p)) f p 0).next ps).lines;
      next = (calls_fed (calls_within (suc (length p)) f p 0).next ps).next;
    }

abbrev pub last_line : FpFed → List FpLine
last_line f = if eqb f.status 1 then f.line ∷ [] else []

-- parts that are fed by calls, and the call of the end, give the lines, the final state and any cut record of the joined recording
pub record CallsAsJoined (parts : List (List ℕ)) : Type 0 where
  pub printed : (calls_fed (packed_stream start_stream) parts).lines ++ last_line (ended_call (calls_fed (packed_stream start_stream) parts).next)
      ≡ map packed_line (lines (joined_parts parts))
  pub final : (ended_call (calls_fed (packed_stream start_stream) parts).next).next
      ≡ packed_stream (record { replay = after_events start (events (joined_parts parts)); unfinished = none })
  pub cut : (calls_fed (packed_stream start_stream) parts).next
      ≡ packed_stream (record {
        replay = after_events start (map event_in (divide (joined_parts parts)).whole);
        unfinished = unfinished (divide (joined_parts parts)).rest;
      })

-- wherever it was divided: every list of parts, empty ones included
abbrev pub CallsJoined : Type 0
CallsJoined = (parts : List (List ℕ)) → CallsAsJoined parts
