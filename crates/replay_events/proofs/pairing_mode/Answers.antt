-- A record of another size, or whose last byte is no flag, is a marker, and any other is pairing mode turned on or off.
use mathlib.Core.Path.{refl}
use native.Mathlib.Omega.{arith}
use Rattle.recording.specs.Reading.{read_as}
use Rattle.provider.specs.Rules.Event.{PairingMode}
use mathlib.Core.Path.{ap, sym, ◌∙◌}
use mathlib.Core.Bool.{Bool}
use Prim.Native.Nat.{ℕ}
use lib.Dec.{eqb}
use Rattle.recording.specs.Reading.{is_flag}
use Rattle.replay_events.proofs.Laws.{too_short, inexact, exact, byte_at, not_sized, not_flagged, both, refused, taken, given_on_device}
use Rattle.replay_events.proofs.pairing_mode.Goals as goal

pub returns-in_err-clock : goal.returns-in_err-clock
unfolding read_as
returns-in_err-clock c =
    let r = c.args.«record».now in
    refused c.args.device.now _ (not_sized _ (too_short r 10 11 c.in_err-clock.ensures (omega arith))) c.from_residual.ensures

pub returns-in_err-only : goal.returns-in_err-only
unfolding read_as
returns-in_err-only c =
    let r = c.args.«record».now in
    let ok = c.in_ok-clock.ensures in
    refused c.args.device.now _ (not_sized _ (inexact r 10 1 ok.0 ok.2 c.in_err-only.ensures)) c.from_residual-in_err-only.ensures

pub returns-in_err-on : goal.returns-in_err-on
unfolding read_as
returns-in_err-on c =
    let r = c.args.«record».now in
    let ok = c.in_ok-clock.ensures in
    let only = c.in_ok-only.ensures in
    let byte = only.1 ∙ byte_at r 10 ok.2 0 10 refl in
    refused c.args.device.now _ (not_flagged (exact r 10 1 ok.0 ok.2 only.0) (ap is_flag (sym byte) ∙ c.in_err-on.ensures))
    c.from_residual-in_err-on.ensures

pub returns : goal.returns
unfolding read_as
returns c =
    let r = c.args.«record».now in
    let ok = c.in_ok-clock.ensures in
    let only = c.in_ok-only.ensures in
    let byte = only.1 ∙ byte_at r 10 ok.2 0 10 refl in
    let flag = c.in_ok-on.ensures in
    taken c.args.device.now _ (both (exact r 10 1 ok.0 ok.2 only.0) (ap is_flag (sym byte) ∙ flag.0))
    (given_on_device c.args.device.now r ok.1 _ (ap (λ (b : Bool). PairingMode b) (flag.1 ∙ ap (λ (b : ℕ). eqb b 1) byte)) c.pairing_mode.ensures)
