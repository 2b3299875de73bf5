-- A record of another size, or whose last byte is no flag, is a marker, and any other is the end of a pairing.
use mathlib.Core.Path.{refl}
use native.Mathlib.Omega.{arith}
use Rattle.recording.specs.Reading.{read_as}
use Rattle.pairing.specs.Pairing.{PairingEnded}
use Rattle.provider.specs.Rules.Event.{OnSession}
use mathlib.Core.Path.{ap, sym, ◌∙◌}
use mathlib.Core.Bool.{Bool}
use Prim.Native.Nat.{ℕ}
use lib.Dec.{eqb}
use Rattle.recording.specs.Reading.{is_flag}
use Rattle.replay_events.proofs.Laws.{too_short, inexact, exact, byte_at, not_sized, not_flagged, both, refused, taken, given_on_link}
use Rattle.replay_events.proofs.pairing_ended.Goals as goal

pub returns-in_err-link : goal.returns-in_err-link
unfolding read_as
returns-in_err-link c =
    let r = c.args.«record».now in
    refused c.args.device.now _ (not_sized _ (too_short r 11 12 c.in_err-link.ensures (omega arith))) c.from_residual.ensures

pub returns-in_err-only : goal.returns-in_err-only
unfolding read_as
returns-in_err-only c =
    let r = c.args.«record».now in
    let ok = c.in_ok-link.ensures in
    refused c.args.device.now _ (not_sized _ (inexact r 11 1 ok.0 ok.3 c.in_err-only.ensures)) c.from_residual-in_err-only.ensures

pub returns-in_err-success : goal.returns-in_err-success
unfolding read_as
returns-in_err-success c =
    let r = c.args.«record».now in
    let ok = c.in_ok-link.ensures in
    let only = c.in_ok-only.ensures in
    let byte = only.1 ∙ byte_at r 11 ok.3 0 11 refl in
    refused c.args.device.now _ (not_flagged (exact r 11 1 ok.0 ok.3 only.0) (ap is_flag (sym byte) ∙ c.in_err-success.ensures))
    c.from_residual-in_err-success.ensures

pub returns : goal.returns
unfolding read_as
returns c =
    let r = c.args.«record».now in
    let ok = c.in_ok-link.ensures in
    let only = c.in_ok-only.ensures in
    let byte = only.1 ∙ byte_at r 11 ok.3 0 11 refl in
    let flag = c.in_ok-success.ensures in
    taken c.args.device.now _ (both (exact r 11 1 ok.0 ok.3 only.0) (ap is_flag (sym byte) ∙ flag.0))
    (given_on_link c.args.device.now r ok.1 ok.2 _ (ap (λ (b : Bool). OnSession (PairingEnded b)) (flag.1 ∙ ap (λ (b : ℕ). eqb b 1) byte)) c.pairing_ended.ensures)
