-- A record of 10 bytes is a factory reset at the clock that it has, and any other a marker.
use mathlib.Core.Path.{refl}
use native.Mathlib.Omega.{arith}
use Rattle.recording.specs.Reading.{read_as}
use Rattle.provider.specs.Rules.Event.{FactoryReset}
use Rattle.replay_events.proofs.Laws.{too_short, inexact, exact, refused, taken, given_on_device}
use Rattle.replay_events.proofs.factory_reset.Goals as goal

pub returns-in_err-clock : goal.returns-in_err-clock
unfolding read_as
returns-in_err-clock c =
    let r = c.args.«record».now in
    refused c.args.device.now _ (too_short r 10 10 c.in_err-clock.ensures (omega arith)) c.from_residual.ensures

pub returns-in_default : goal.returns-in_default
unfolding read_as
returns-in_default c =
    let r = c.args.«record».now in
    refused c.args.device.now _ (inexact r 10 0 c.in_ok-clock.ensures.0 c.in_ok-clock.ensures.2 (λ p. omega (arith, p, c.in_default.len_at_least))) refl

pub returns : goal.returns
unfolding read_as
returns c =
    let r = c.args.«record».now in
    let ok = c.in_ok-clock.ensures in
    taken c.args.device.now _ (exact r 10 0 c.in_ok-clock.ensures.0 c.in_ok-clock.ensures.2 (omega (arith, c.in-empty.len_below)))
    (given_on_device c.args.device.now r ok.1 FactoryReset refl c.factory_reset.ensures)
