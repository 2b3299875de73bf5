-- One byte more is mixed, and within a block the stream stays.
use mathlib.Core.Path.{◌≡◌, ◌∙◌}
use Prim.Native.Nat.{◌/◌}
use native.Mathlib.Omega.{arith}
use lib.ListN.{length-set}
use Rattle.additional_data.specs.CounterMode.{key_stream}
use Rattle.additional_data.proofs.Laws.{mixed_more, mixed_all, stream_stays}
use Rattle.additional_data.proofs.counter_mode.Goals as goal
use Rattle.additional_data.proofs.counter_mode.Goals.{then-j-eq0, else-j-eq0}

pub loop-j-preserved : goal.loop-j-preserved
loop-j-preserved c =
    let a = c.args in
    let stream : c.if-j-eq0.stream ≡ key_stream a.key a.nonce (c.loop-j.j / 16) = elim c.if-j-eq0.branch [
      | then-j-eq0 w ↦ w.stream-is ∙ w.key_stream-stream.ensures
      | else-j-eq0 w ↦ w.stream-is ∙ c.loop-j.invariant.2 w.if-j-eq0.false
    ] in (
      simp length-set c.loop-j.invariant.0,
      mixed_more a.key a.nonce a.«data».now c.loop-j.j c.loop-j.invariant.1 (omega arith) stream,
      stream_stays a.key a.nonce c.loop-j.j stream,
    )

pub returns : goal.returns
returns c =
    let a = c.args in
    mixed_all a.key a.nonce a.«data».now c.loop-j.j c.loop-j.invariant.1 (omega arith)
