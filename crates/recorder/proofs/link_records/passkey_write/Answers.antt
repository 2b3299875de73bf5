-- The block follows link and clock, and salt and length follow the block.
use mathlib.Core.List.{append-nil, append_assoc}
use native.Mathlib.Nat.{div-one}
use Rattle.pairing.specs.Pairing.{PasskeyWrite}
use Rattle.provider.specs.Rules.Event.{OnLink, OnSession}
use lib.ListN.{length-replicate}
use Rattle.recording.specs.Reading.{zeros}
use Rattle.recording.specs.Layout.{body}
use Rattle.recording.proofs.Laws.{recorded}
use Rattle.recorder.proofs.link_records.passkey_write.Goals as goal

pub returns : goal.returns
unfolding body
returns c =
    let a = c.args in
    let both = recorded (OnLink a.link.0 a.clock.0 (OnSession (PasskeyWrite a.block.now a.salt (zeros a.out_length)))) a.out.now
    (simp (c.to_be_bytes.ensures, c.to_be_bytes-2.ensures, length-replicate, div-one, append-nil, append_assoc))
    (c.write.ensures.value, c.write.ensures.out_after) in
    record { value = both.0; out_after = both.1 }
