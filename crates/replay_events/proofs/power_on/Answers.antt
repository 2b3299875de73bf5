-- A record that is too short for its fields and its list is a marker, and any other is a power-on with what it has.
use mathlib.Core.Path.{◌≡◌, refl, ap, ◌∙◌}
use Prim.Native.Nat.{ℕ, ◌+◌, ◌≤◌}
use native.Mathlib.Omega.{arith}
use lib.ListN.{length, take, drop, length-drop}
use lib.Seq.{drop-drop}
use borrow.Author.Tests.{le-leb, lt-leb}
use Rattle.laws.proofs.Lists.{take_drop_rest}
use Rattle.recording.specs.Reading.{list_length, read_power_on}
use Rattle.replay_events.proofs.Laws.{list_length_is, start_is, refused, taken, given_power_on}
use Rattle.replay_events.proofs.power_on.Goals as goal

pub returns-in_default : goal.returns-in_default
unfolding read_power_on
returns-in_default c =
    let r = c.args.«record».now in
    refused c.args.device.now _ (lt-leb (21 + list_length r) (length r) (omega (arith, c.in_default.len_below))) refl

pub returns-in_err-stored : goal.returns-in_err-stored
unfolding read_power_on
returns-in_err-stored c =
    let r = c.args.«record».now in
    let n = c.from.ensures ∙ list_length_is r c.in-len4-up.len_at_least c.from_be_bytes-length.ensures in
    let short = rw (take_drop_rest 4 r) at c.in_err-stored.ensures.cases in
    refused c.args.device.now _
    (lt-leb (21 + list_length r) (length r) (omega (arith, n, short, length-drop 4 r))) c.from_residual.ensures

pub returns-in_err-start : goal.returns-in_err-start
unfolding read_power_on
returns-in_err-start c =
    let r = c.args.«record».now in
    let n = c.from.ensures ∙ list_length_is r c.in-len4-up.len_at_least c.from_be_bytes-length.ensures in
    let split = rw (take_drop_rest 4 r) at c.in_ok-stored.ensures.cases in
    refused c.args.device.now _
    (lt-leb (21 + list_length r) (length r)
    (omega (arith, n, split.0, split.4, c.in_err-start.ensures.cases, length-drop 4 r))) c.from_residual-in_err-start.ensures

pub returns : goal.returns
unfolding read_power_on
returns c =
    let r = c.args.«record».now in
    let n = c.from.ensures ∙ list_length_is r c.in-len4-up.len_at_least c.from_be_bytes-length.ensures in
    let split = rw (take_drop_rest 4 r) at c.in_ok-stored.ensures.cases in
    let chunk = c.in_ok-start.ensures.cases in
    let behind = split.2 ∙ drop-drop c.from.result 4 r in
    let whole : 21 + c.from.result ≤ length r = omega (arith, split.0, split.4, chunk.2, length-drop 4 r) in
    let place : 4 + c.from.result + 17 ≡ 21 + c.from.result = omega arith in
    let name = chunk.1 ∙ ap (drop 17) behind ∙ drop-drop 17 (4 + c.from.result) r ∙ ap (λ (j : ℕ). drop j r) place in
    let start = c.read_start.ensures ∙ start_is r (4 + c.from.result) (omega (arith, whole)) (chunk.0 ∙ ap (take 17) behind) in
    taken c.args.device.now _ (le-leb (21 + list_length r) (length r) (omega (arith, n, whole)))
    (given_power_on c.args.device.now r n split.1 name start c.power_on.ensures)
