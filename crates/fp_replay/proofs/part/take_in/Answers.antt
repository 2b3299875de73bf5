-- The steps leave their lines in the output; writing them out changes nothing.
use mathlib.Core.Path.{ap}
use Rattle.fp_replay.proofs.Turns.{drained_stream, fed_ready}
use Rattle.fp_replay.specs.Reading.{State, unused}
use Rattle.fp_replay.proofs.part.take_in.Goals as goal

pub returns : goal.returns
returns c =
    let a = c.args in
    let drained = c.drain-turn.ensures.filled_after in
    let stream = drained_stream a.stream (unused a.out.now) a.part.now drained in
    record {
      value = stream;
      out_after = ap (λ (x : State). x.output.bytes) drained;
      ready = fed_ready a.stream a.part.now c.requires.0 stream;
    }
