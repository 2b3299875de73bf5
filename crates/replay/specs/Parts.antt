-- Document 02 (viii): "Feed the replay by parts."
-- Assumes nothing.
use Rattle.std.specs.Prelude.{ℕ, ◌+◌, ◌-◌, List, [], ◌∷◌, length, if◌then◌else◌}
use Rattle.provider.specs.Demands.Validity.{Valid}
use Rattle.provider.specs.Rules.Event.{Overflow}
use Rattle.reassembly.specs.Parts.{none, unfinished, waiting, is_cut, Open, ahead, behind_part}
use Rattle.reassembly.specs.declared.Unfinished.{Unfinished}
use Rattle.recording.specs.Reading.{divide, event_in}
use Rattle.replay.specs.Replay.{start, shown}
use Rattle.replay.specs.declared.parts.Ended.{Ended}
use Rattle.replay.specs.declared.parts.Fed.{Fed}
use Rattle.std.specs.Prelude.{Some, None}
use Rattle.replay.specs.declared.parts.Stream.{Stream}
use Rattle.replay.specs.declared.Shown.{Shown}

-- a recording of which nothing has come
abbrev pub start_stream : Stream
start_stream = record { replay = start; unfinished = none }

-- what holds of a stream that came from there
pub record Ready (s : Stream) : Type 0 where
  pub device : Valid s.replay.device
  pub held : Open s.unfinished

-- behind an event nothing is held
abbrev pub behind_event : Shown → Stream
behind_event x = record { replay = x.next; unfinished = none }

-- no record has ended, and this much is held
abbrev pub waits : Stream → Unfinished → ℕ → Fed
waits s u at = record { next = record { replay = s.replay; unfinished = u }; at = at; line = None }

abbrev pub fed_line : Shown → ℕ → Fed
fed_line x at = record { next = behind_event x; at = at; line = Some x.line }

-- one step: the line of the first record that is whole, or none if the part ends before
abbrev pub fed_of : Stream → List ℕ → ℕ → List (List ℕ) → Fed
fed_of s part at [] = waits s (unfinished (ahead s.unfinished part at)) (behind_part part at)
fed_of s part at (r ∷ rs) = fed_line (shown s.replay (event_in r)) (at + (2 + length r - length (waiting s.unfinished)))

-- what is held stands before the part, and both are read as one recording
unfoldable pub fed : Stream → List ℕ → ℕ → Fed
fed s part at = fed_of s part at (divide (ahead s.unfinished part at)).whole

-- the end of the recording: "any cut record" is one marker
unfoldable pub ended : Stream → Ended
ended s =
    if is_cut s.unfinished
    then record { next = behind_event (shown s.replay Overflow); line = Some (shown s.replay Overflow).line }
    else record { next = s; line = None }
