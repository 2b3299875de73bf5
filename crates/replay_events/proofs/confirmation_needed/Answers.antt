-- A record of 15 bytes asks to confirm the passkey that it has, and any other is a marker.
use mathlib.Core.Path.{refl}
use native.Mathlib.Omega.{arith}
use Rattle.recording.specs.Reading.{read_as}
use Rattle.pairing.specs.Pairing.{ConfirmationNeeded}
use Rattle.provider.specs.Rules.Event.{OnSession}
use mathlib.Core.Path.{ap, ◌∙◌}
use Prim.Native.Nat.{ℕ}
use Rattle.std.specs.Int.{w32}
use Rattle.replay_events.proofs.Laws.{length_behind, number_is, field_at, too_short, inexact, exact, refused, taken, given_on_link}
use Rattle.replay_events.proofs.confirmation_needed.Goals as goal

pub returns-in_err-link : goal.returns-in_err-link
unfolding read_as
returns-in_err-link c =
    let r = c.args.«record».now in
    refused c.args.device.now _ (too_short r 11 15 c.in_err-link.ensures (omega arith)) c.from_residual.ensures

pub returns-then-fields-ne4 : goal.returns-then-fields-ne4
unfolding read_as
returns-then-fields-ne4 c =
    let r = c.args.«record».now in
    let ok = c.in_ok-link.ensures in
    refused c.args.device.now _ (inexact r 11 4 ok.0 ok.3 c.if-fields-ne4.true) refl

pub returns : goal.returns
unfolding read_as
returns c =
    let r = c.args.«record».now in
    let ok = c.in_ok-link.ensures in
    let long = length_behind r 11 ok.3 ok.0 in
    let passkey = number_is w32 r 11 (omega (arith, long, c.if-fields-ne4.false)) (c.part.ensures ∙ field_at r 11 ok.3 0 4 11 refl)
    c.from_be_bytes-passkey.ensures in
    taken c.args.device.now _ (exact r 11 4 ok.0 ok.3 c.if-fields-ne4.false)
    (given_on_link c.args.device.now r ok.1 ok.2 _ (ap (λ (n : ℕ). OnSession (ConfirmationNeeded n)) passkey) c.confirmation_needed.ensures)
