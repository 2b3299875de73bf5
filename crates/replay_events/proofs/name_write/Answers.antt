-- A record of less than 11 bytes is a marker, and any other is a name write of what stands behind the clock.
use lib.ListN.{length}
use Rattle.recording.specs.Reading.{read_as}
use Rattle.pairing.specs.Pairing.{NameWrite}
use Rattle.provider.specs.Rules.Event.{OnSession}
use mathlib.Core.List.{List}
use mathlib.Core.Path.{ap}
use Prim.Native.Nat.{ℕ}
use borrow.Author.Tests.{le-leb, lt-leb}
use Rattle.replay_events.proofs.Laws.{refused, taken, given_on_link}
use Rattle.replay_events.proofs.name_write.Goals as goal

pub returns-in_err-link : goal.returns-in_err-link
unfolding read_as
returns-in_err-link c =
    refused c.args.device.now _ (lt-leb 11 (length c.args.«record».now) c.in_err-link.ensures) c.from_residual.ensures

pub returns : goal.returns
unfolding read_as
returns c =
    let r = c.args.«record».now in
    let ok = c.in_ok-link.ensures in
    taken c.args.device.now _ (le-leb 11 (length r) ok.0)
    (given_on_link c.args.device.now r ok.1 ok.2 _ (ap (λ (b : List ℕ). OnSession (NameWrite b)) ok.3) c.name_write.ensures)
