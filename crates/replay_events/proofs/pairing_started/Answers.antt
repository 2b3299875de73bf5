-- A record of 12 bytes is a pairing with the capability that it has, and any other a marker.
use mathlib.Core.Path.{◌∙◌, refl}
use native.Mathlib.Omega.{arith}
use Rattle.recording.specs.Reading.{read_as}
use Rattle.pairing.specs.Pairing.{PairingStarted}
use Rattle.provider.specs.Rules.Event.{OnSession}
use mathlib.Core.Path.{ap}
use Prim.Native.Nat.{ℕ}
use Rattle.replay_events.proofs.Laws.{too_short, inexact, exact, byte_at, refused, taken, given_on_link}
use Rattle.replay_events.proofs.pairing_started.Goals as goal

pub returns-in_err-link : goal.returns-in_err-link
unfolding read_as
returns-in_err-link c =
    let r = c.args.«record».now in
    refused c.args.device.now _ (too_short r 11 12 c.in_err-link.ensures (omega arith)) c.from_residual.ensures

pub returns-in_err-only : goal.returns-in_err-only
unfolding read_as
returns-in_err-only c =
    let ok = c.in_ok-link.ensures in
    refused c.args.device.now _ (inexact c.args.«record».now 11 1 ok.0 ok.3 c.in_err-only.ensures) c.from_residual-in_err-only.ensures

pub returns : goal.returns
unfolding read_as
returns c =
    let r = c.args.«record».now in
    let ok = c.in_ok-link.ensures in
    let only = c.in_ok-only.ensures in
    taken c.args.device.now _ (exact r 11 1 ok.0 ok.3 only.0)
    (given_on_link c.args.device.now r ok.1 ok.2 _ (ap (λ (b : ℕ). OnSession (PairingStarted b)) (only.1 ∙ byte_at r 11 ok.3 0 11 refl))
    c.pairing_started.ensures)
