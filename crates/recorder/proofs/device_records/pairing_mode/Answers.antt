-- The flag follows the clock.
use native.Mathlib.Nat.{div-one}
use Rattle.provider.specs.Rules.Event.{OnDevice, PairingMode}
use Rattle.recording.specs.Layout.{body}
use Rattle.recording.proofs.Laws.{recorded}
use Rattle.recorder.proofs.Laws.{flag_byte}
use Rattle.recorder.proofs.device_records.pairing_mode.Goals as goal

pub returns : goal.returns
unfolding body
returns c =
    let a = c.args in
    let both = recorded (OnDevice a.clock.0 (PairingMode a.on)) a.out.now
    (simp (c.to_be_bytes.ensures, c.from.ensures, flag_byte, div-one))
    (c.write.ensures.value, c.write.ensures.out_after) in
    record { value = both.0; out_after = both.1 }
