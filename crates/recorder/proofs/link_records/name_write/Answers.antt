-- The packet follows link and clock.
use mathlib.Core.List.{append-nil}
use native.Mathlib.Nat.{div-one}
use Rattle.pairing.specs.Pairing.{NameWrite}
use Rattle.provider.specs.Rules.Event.{OnLink, OnSession}
use Rattle.recording.specs.Layout.{body}
use Rattle.recording.proofs.Laws.{recorded}
use Rattle.recorder.proofs.link_records.name_write.Goals as goal

pub returns : goal.returns
unfolding body
returns c =
    let a = c.args in
    let both = recorded (OnLink a.link.0 a.clock.0 (OnSession (NameWrite a.packet.now))) a.out.now
    (simp (c.to_be_bytes.ensures, div-one, append-nil))
    (c.write.ensures.value, c.write.ensures.out_after) in
    record { value = both.0; out_after = both.1 }
