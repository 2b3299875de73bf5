-- What a call from C gives back: the step of the stream handed in, or a refusal where that is none.
-- Assumes nothing.
use Rattle.std.specs.Prelude.{Bool, Option, Some, None, is_some, unwrap_or, option_and_then, List, ℕ, eqb, leb, replicate, if◌then◌else◌}
use Rattle.std.specs.Option.{option_map_or}
use Rattle.packed.specs.Packed.{flag, packed, unpacked}
use Rattle.reassembly.specs.Parts.{behind_part, read_again}
use Rattle.provider.specs.declared.Device.{Device}
use Rattle.reassembly.specs.declared.Unfinished.{Unfinished}
use Rattle.recording.specs.Layout.{kind_byte}
use Rattle.replay.specs.Parts.{start_stream, fed, ended}
use Rattle.replay.specs.declared.Line.{Line}
use Rattle.replay.specs.declared.parts.Ended.{Ended}
use Rattle.replay.specs.declared.parts.Fed.{Fed}
use Rattle.replay.specs.declared.parts.Stream.{Stream}
use Rattle.replayer.specs.declared.FpFed.{FpFed}
use Rattle.replayer.specs.declared.FpLine.{FpLine}
use Rattle.replayer.specs.declared.FpReplay.{FpReplay}

-- ---- a stream in plain numbers

unfoldable pub packed_stream : Stream → FpReplay
packed_stream s =
    record {
      device = packed s.replay.device;
      number = s.replay.number;
      held = s.unfinished.count;
      skip = s.unfinished.skip;
      bytes = s.unfinished.bytes;
      started = flag s.replay.started;
      reserved = replicate 5 0;
    }

-- ---- and back: any bytes are a stream, or no replay

abbrev pub held_in : FpReplay → Unfinished
held_in f = record { bytes = f.bytes; count = f.held; skip = f.skip }

abbrev pub read_stream : FpReplay → Device → Unfinished → Stream
read_stream f device held =
    record { replay = record { started = eqb f.started 1; number = f.number; device = device }; unfinished = held }

-- the stream that they are; bytes in places that are not in use do not count
unfoldable pub unpacked_stream : FpReplay → Option Stream
unpacked_stream f =
    option_and_then (λ device. option_and_then (λ held. if leb f.started 1 then Some (read_stream f device held) else None) (read_again (held_in f)))
    (unpacked f.device)

abbrev pub is_replay : FpReplay → Bool
is_replay f = is_some (unpacked_stream f)

-- bytes that are none stand for a stream of which nothing has come
abbrev pub stream_of : FpReplay → Stream
stream_of f = unwrap_or (unpacked_stream f) start_stream

-- ---- lines

abbrev pub no_line : FpLine
no_line = record { number = 0; keys = 0; kind = 0; answer = 0; reserved = replicate 6 0 }

-- "its number, kind, answer and list size"
abbrev pub packed_line : Line → FpLine
packed_line l =
    record { number = l.number; keys = l.size; kind = kind_byte l.kind; answer = l.answer; reserved = replicate 6 0 }

abbrev pub line_numbers : Option Line → FpLine
line_numbers l = option_map_or packed_line l no_line

abbrev pub status_of : Option Line → ℕ
status_of l = flag (is_some l)

-- ---- calls

abbrev pub packed_fed : Stream → Option Line → ℕ → FpFed
packed_fed s p at =
    record { next = packed_stream s; line = line_numbers p; at = at; status = status_of p; reserved = replicate 7 0 }

-- bytes that are no replay come back as they were
abbrev pub returned : FpReplay → ℕ → FpFed
returned f at = record { next = f; line = no_line; at = at; status = 255; reserved = replicate 7 0 }

abbrev pub fed_back : Fed → FpFed
fed_back f = packed_fed f.next f.line f.at

abbrev pub ended_back : Ended → FpFed
ended_back e = packed_fed e.next e.line 0

unfoldable pub fed_call : FpReplay → List ℕ → ℕ → FpFed
fed_call f part at = option_map_or (λ s. fed_back (fed s part at)) (unpacked_stream f) (returned f (behind_part part at))

unfoldable pub ended_call : FpReplay → FpFed
ended_call f = option_map_or (λ s. ended_back (ended s)) (unpacked_stream f) (returned f 0)
