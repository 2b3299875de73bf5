-- A record of less than 31 bytes is a marker, and any other is a passkey write, whose output is lent no longer than is asked for.
use mathlib.Core.Path.{refl, ◌∙◌}
use Prim.Native.Nat.{◌+◌, ◌-◌, ◌≤◌}
use native.Mathlib.Omega.{arith}
use lib.ListN.{length}
use borrow.Author.Tests.{le-leb, lt-leb}
use Rattle.std.specs.Int.{w64}
use Rattle.recording.specs.Reading.{read_passkey_write}
use Rattle.replay_events.proofs.Laws.{length_behind, last_of, before_last, field_at, number_is, refused, taken, given_passkey_write}
use Rattle.replay_events.proofs.passkey_write.Goals as goal

pub returns-in_err-link : goal.returns-in_err-link
unfolding read_passkey_write
returns-in_err-link c =
    let r = c.args.«record».now in
    refused c.args.device.now _ (lt-leb 31 (length r) (omega (arith, c.in_err-link.ensures))) c.from_residual.ensures

pub returns-in_err-block : goal.returns-in_err-block
unfolding read_passkey_write
returns-in_err-block c =
    let r = c.args.«record».now in
    let ok = c.in_ok-link.ensures in
    let long = length_behind r 11 ok.3 ok.0 in
    refused c.args.device.now _ (lt-leb 31 (length r) (omega (arith, long, c.in_err-block.ensures.cases)))
    c.from_residual-in_err-block.ensures

pub returns : goal.returns
unfolding read_passkey_write
returns c =
    let r = c.args.«record».now in
    let ok = c.in_ok-link.ensures in
    let cut = c.in_ok-block.ensures.cases in
    let whole : 31 ≤ length r = omega (arith, length_behind r 11 ok.3 ok.0, cut.2) in
    let at = length r - 20 in
    let tail = last_of r 11 ok.3 20 whole cut.1 in
    let salt = c.part-2.ensures ∙ field_at r at tail 0 12 at (omega arith) in
    let recorded = number_is w64 r (at + 12) (omega (arith, whole)) (c.part.ensures ∙ field_at r at tail 12 8 (at + 12) refl)
    c.from_be_bytes.ensures in
    taken c.args.device.now _ (le-leb 31 (length r) whole)
    (given_passkey_write c.args.device.now r ok.1 ok.2 at (before_last r 11 ok.3 20 whole cut.0) salt recorded c.lent-lent.ensures
    c.passkey_write.ensures.value)
