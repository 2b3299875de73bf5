-- The request follows link and clock, and what has a fixed size follows the request.
use mathlib.Core.Path.{ap, ◌∙◌}
use native.Mathlib.Nat.{div-one}
use lib.ListN.{length-replicate}
use Rattle.provider.specs.Rules.Event.{OnLink, KeyBasedWrite}
use Rattle.recording.specs.Reading.{zeros}
use Rattle.recorder.proofs.Laws.{flag_byte, fields_laid}
use Rattle.recording.specs.Layout.{body, body_of}
use Rattle.recording.specs.declared.Kind.TheVariants as kind
use Rattle.recording.proofs.Laws.{recorded}
use Rattle.recorder.proofs.link_records.key_based_write.Goals as goal

pub returns : goal.returns
unfolding body
returns c =
    let a = c.args in
    let both = recorded (OnLink a.link.0 a.clock.0 (KeyBasedWrite a.request.now a.element a.salt a.nonce (zeros a.out_length) (zeros a.packet_length))) a.out.now
    (ap (body_of kind.KeyBasedWrite)
    (fields_laid a.link.0 c.to_be_bytes.result a.request.now c.from.result c.unwrap_or.result a.salt a.nonce
    c.to_be_bytes-2.result c.to_be_bytes-3.result)
    ∙ simp (
      c.to_be_bytes.ensures,
      c.from.ensures,
      flag_byte,
      c.unwrap_or.ensures,
      c.is_some.ensures,
      c.to_be_bytes-2.ensures,
      c.to_be_bytes-3.ensures,
      length-replicate,
      div-one,
    ))
    (c.write.ensures.value, c.write.ensures.out_after) in
    record { value = both.0; out_after = both.1 }
