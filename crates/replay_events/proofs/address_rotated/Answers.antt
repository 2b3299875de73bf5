-- A record of 18 bytes is a rotation to the address and salt that it has, and any other is a marker.
use mathlib.Core.Path.{refl}
use native.Mathlib.Omega.{arith}
use Rattle.recording.specs.Reading.{read_as}
use Rattle.provider.specs.Rules.Event.{AddressRotated}
use mathlib.Core.Path.{◌∙◌}
use Rattle.replay_events.proofs.Laws.{field_at, too_short, inexact, exact, refused, taken, given_on_device}
use Rattle.replay_events.proofs.address_rotated.Goals as goal

pub returns-in_err-clock : goal.returns-in_err-clock
unfolding read_as
returns-in_err-clock c =
    let r = c.args.«record».now in
    refused c.args.device.now _ (too_short r 10 18 c.in_err-clock.ensures (omega arith)) c.from_residual.ensures

pub returns-then-fields-ne8 : goal.returns-then-fields-ne8
unfolding read_as
returns-then-fields-ne8 c =
    let r = c.args.«record».now in
    let ok = c.in_ok-clock.ensures in
    refused c.args.device.now _ (inexact r 10 8 ok.0 ok.2 c.if-fields-ne8.true) refl

pub returns : goal.returns
unfolding read_as
returns c =
    let r = c.args.«record».now in
    let ok = c.in_ok-clock.ensures in
    let ble = c.part.ensures ∙ field_at r 10 ok.2 0 6 10 refl in
    let salt = c.part-2.ensures ∙ field_at r 10 ok.2 6 2 16 refl in
    taken c.args.device.now _ (exact r 10 8 ok.0 ok.2 c.if-fields-ne8.false)
    (given_on_device c.args.device.now r ok.1 _ (λ i. AddressRotated (record { bytes = ble i }) (salt i)) c.address_rotated.ensures)
