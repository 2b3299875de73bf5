-- The writer's report goes over as it is; the event holds what the secure element's result was read as.
use Rattle.std.specs.Prelude.{List, ℕ, Option}
use Rattle.provider.specs.Rules.Event.{Event, OnLink, KeyBasedWrite}
use Rattle.recording.specs.Reading.{zeros}
use Rattle.recorder.proofs.Laws.{told_element}
use Rattle.recorder.proofs.fp_record_key_based_write.Goals as goal

pub returns : goal.returns
returns c =
    let a = c.args in
    let event : Option (List ℕ) → Event = λ e. OnLink a.link a.clock (KeyBasedWrite a.request.now e a.salt.now a.nonce.now (zeros a.response) (zeros a.packet))
    in
    let both = told_element event a.out.now c.element-point.ensures (c.key_based_write-report.ensures.value, c.key_based_write-report.ensures.out_after) c.pack_report.ensures in
    record { value = both.0; out_after = both.1 }
