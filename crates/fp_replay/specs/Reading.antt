-- What the program makes of the parts that it reads: the stream behind them, and the lines in its output buffer.
-- Assumes nothing.
use Rattle.std.specs.Prelude.{Bool, true, false, Option, Some, None, Result, Ok, Err, List, [], ◌∷◌, ℕ, ◌+◌, eqb, leb, length, take, if◌then◌else◌}
use Rattle.std.proofs.Common.{ControlFlow, Break, Continue}
use Rattle.std.specs.IoError.{error_kind}
use Rattle.std.specs.declared.io.Error.{Error}
use Rattle.std.specs.declared.io.ErrorKind.{ErrorKind}
use Rattle.std.specs.declared.io.ErrorKind.TheVariants.{Interrupted}
use Rattle.std.proofs.Math.Seq.{paste}
use Rattle.replay.specs.Parts.{ended}
use Rattle.replay.specs.Promises.{fed_part, line_of}
use Rattle.replay.specs.declared.Line.{Line}
use Rattle.replay.specs.declared.parts.Fed.{Fed}
use Rattle.replay.specs.declared.parts.Stream.{Stream}
use Rattle.replay_text.specs.Text.{text}
use Rattle.fp_replay.specs.declared.part.Turn.{Turn}

-- ---- the output buffer: its bytes, of which the first are lines that were not written yet

pub record Output : Type 0 where
  pub bytes : List ℕ
  pub filled : ℕ

-- all lines were written
abbrev pub unused : List ℕ → Output
unused bytes = record { bytes = bytes; filled = 0 }

-- where a line goes: behind the others, or to the front, after what the buffer held was written; no line has more than 83 bytes
abbrev pub line_place : ℕ → ℕ → ℕ
line_place size filled = if leb (filled + 83) size then filled else 0

abbrev pub printed : Output → Line → Output
printed o l =
    record {
      bytes = paste o.bytes (line_place (length o.bytes) o.filled) (text l) (length (text l));
      filled = line_place (length o.bytes) o.filled + length (text l);
    }

unfoldable pub printed_all : Output → List Line → Output
printed_all o [] = o
printed_all o (l ∷ ls) = printed_all (printed o l) ls

-- ---- a read: how many bytes it left in the input buffer, 0 at the end, or an error

abbrev pub is_interrupted : ErrorKind → Bool
is_interrupted Interrupted = true
is_interrupted k = false

-- the loop over the reads breaks off at the end. A read that a signal interrupted is no end; any other error is handed on
abbrev pub after_read : Result ℕ Error → Result (ControlFlow Unit Unit) Error
after_read (Ok n) = Ok (if eqb n 0 then Break tt else Continue tt)
after_read (Err e) = if is_interrupted (error_kind e) then Ok (Continue tt) else Err e

-- the part that it gave; an error gives none
abbrev pub part_read : Result ℕ Error → List ℕ → List ℕ
part_read (Ok n) input = take n input
part_read (Err e) input = []

-- ---- a part of a recording

-- a stream, and its output
pub record State : Type 0 where
  pub stream : Stream
  pub output : Output

abbrev pub state : Stream → List ℕ → ℕ → State
state s bytes filled = record { stream = s; output = record { bytes = bytes; filled = filled } }

-- "prints one line for each event": the lines that a part gives
unfoldable pub drained : Stream → Output → List ℕ → State
drained s o part = record { stream = (fed_part s part).next; output = printed_all o (fed_part s part).lines }

-- one step of it
abbrev pub printed_of : Output → Option Line → Output
printed_of o None = o
printed_of o (Some l) = printed o l

abbrev pub output_of : Turn → Fed → List ℕ → Output
output_of t f out = printed_of (record { bytes = out; filled = t.filled }) f.line

abbrev pub turned : Turn → Fed → List ℕ → Turn
turned t f out = record { stream = f.next; at = f.at; filled = (output_of t f out).filled }

abbrev pub turned_output : Turn → Fed → List ℕ → List ℕ
turned_output t f out = (output_of t f out).bytes

-- the end of the recording
abbrev pub finished : Stream → Output → Output
finished s o = printed_all o (line_of (ended s).line)
