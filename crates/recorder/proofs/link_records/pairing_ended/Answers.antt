-- The flag follows link and clock.
use native.Mathlib.Nat.{div-one}
use Rattle.pairing.specs.Pairing.{PairingEnded}
use Rattle.provider.specs.Rules.Event.{OnLink, OnSession}
use Rattle.recorder.proofs.Laws.{flag_byte}
use Rattle.recording.specs.Layout.{body}
use Rattle.recording.proofs.Laws.{recorded}
use Rattle.recorder.proofs.link_records.pairing_ended.Goals as goal

pub returns : goal.returns
unfolding body
returns c =
    let a = c.args in
    let both = recorded (OnLink a.link.0 a.clock.0 (OnSession (PairingEnded a.success))) a.out.now
    (simp (c.to_be_bytes.ensures, c.from.ensures, flag_byte, div-one))
    (c.write.ensures.value, c.write.ensures.out_after) in
    record { value = both.0; out_after = both.1 }
