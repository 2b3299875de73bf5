-- A record of 11 bytes is a link up with the link and the clock that it has, and any other a marker.
use mathlib.Core.Path.{refl}
use native.Mathlib.Omega.{arith}
use Rattle.recording.specs.Reading.{read_as}
use Rattle.provider.specs.Rules.Event.{LinkUp}
use Rattle.replay_events.proofs.Laws.{too_short, inexact, exact, refused, taken, given_on_link}
use Rattle.replay_events.proofs.link_up.Goals as goal

pub returns-in_err-link : goal.returns-in_err-link
unfolding read_as
returns-in_err-link c =
    let r = c.args.«record».now in
    refused c.args.device.now _ (too_short r 11 11 c.in_err-link.ensures (omega arith)) c.from_residual.ensures

pub returns-in_default : goal.returns-in_default
unfolding read_as
returns-in_default c =
    let r = c.args.«record».now in
    refused c.args.device.now _ (inexact r 11 0 c.in_ok-link.ensures.0 c.in_ok-link.ensures.3 (λ p. omega (arith, p, c.in_default.len_at_least))) refl

pub returns : goal.returns
unfolding read_as
returns c =
    let r = c.args.«record».now in
    let ok = c.in_ok-link.ensures in
    taken c.args.device.now _ (exact r 11 0 c.in_ok-link.ensures.0 c.in_ok-link.ensures.3 (omega (arith, c.in-empty.len_below)))
    (given_on_link c.args.device.now r ok.1 ok.2 LinkUp refl c.link_up.ensures)
