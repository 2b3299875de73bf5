-- A record that is too short, or whose flag or element is none, is a marker, and any other is a key-based write.
use mathlib.Core.Path.{◌≡◌, refl, sym, ap, ◌∙◌}
use Prim.Native.Nat.{ℕ, ◌+◌, ◌-◌, ◌≤◌}
use native.Mathlib.Omega.{arith}
use lib.Dec.{eqb}
use lib.ListN.{length}
use Rattle.std.specs.Int.{w64}
use Rattle.recording.specs.Reading.{is_flag, secret_if, is_element, is_element_at, element_at, read_key_based_write}
use Rattle.replay_events.proofs.Laws.{length_behind, last_of, before_last, field_at, byte_at, number_is, request_short, request_no_flag, request_no_element, request_whole, refused, taken, given_key_based_write}
use Rattle.replay_events.proofs.key_based_write.Goals as goal

pub returns-in_err-link : goal.returns-in_err-link
unfolding read_key_based_write
returns-in_err-link c =
    refused c.args.device.now _ (request_short c.args.«record».now (omega (arith, c.in_err-link.ensures))) c.from_residual.ensures

pub returns-in_err-request : goal.returns-in_err-request
unfolding read_key_based_write
returns-in_err-request c =
    let r = c.args.«record».now in
    let ok = c.in_ok-link.ensures in
    let long = length_behind r 11 ok.3 ok.0 in
    refused c.args.device.now _ (request_short r (omega (arith, long, c.in_err-request.ensures.cases)))
    c.from_residual-in_err-request.ensures

pub returns-in_err-flag : goal.returns-in_err-flag
unfolding read_key_based_write
returns-in_err-flag c =
    let r = c.args.«record».now in
    let ok = c.in_ok-link.ensures in
    let cut = c.in_ok-request.ensures.cases in
    let whole : 77 ≤ length r = omega (arith, length_behind r 11 ok.3 ok.0, cut.2) in
    let tail = last_of r 11 ok.3 66 whole cut.1 in
    let byte = byte_at r (length r - 66) tail 0 (length r - 66) (omega arith) in
    refused c.args.device.now _ (request_no_flag r whole (ap is_flag (sym byte) ∙ c.in_err-flag.ensures))
    c.from_residual-in_err-flag.ensures

pub returns-in_err-element : goal.returns-in_err-element
unfolding read_key_based_write
returns-in_err-element c =
    let r = c.args.«record».now in
    let ok = c.in_ok-link.ensures in
    let cut = c.in_ok-request.ensures.cases in
    let whole : 77 ≤ length r = omega (arith, length_behind r 11 ok.3 ok.0, cut.2) in
    let at = length r - 66 in
    let tail = last_of r 11 ok.3 66 whole cut.1 in
    let byte = byte_at r at tail 0 at (omega arith) in
    let accepted = c.in_ok-flag.ensures.1 ∙ ap (λ (b : ℕ). eqb b 1) byte in
    let secret = c.part.ensures ∙ field_at r at tail 1 32 (at + 1) refl in
    let none : is_element_at at r ≡ _ = (λ i. is_element (sym accepted i) (sym secret i)) ∙ c.in_err-element.ensures in
    refused c.args.device.now _ (request_no_element r whole (ap is_flag (sym byte) ∙ c.in_ok-flag.ensures.0) none)
    c.from_residual-in_err-element.ensures

pub returns : goal.returns
unfolding read_key_based_write
returns c =
    let r = c.args.«record».now in
    let ok = c.in_ok-link.ensures in
    let cut = c.in_ok-request.ensures.cases in
    let whole : 77 ≤ length r = omega (arith, length_behind r 11 ok.3 ok.0, cut.2) in
    let at = length r - 66 in
    let tail = last_of r 11 ok.3 66 whole cut.1 in
    let byte = byte_at r at tail 0 at (omega arith) in
    let is = c.in_ok-element.ensures in
    let accepted = c.in_ok-flag.ensures.1 ∙ ap (λ (b : ℕ). eqb b 1) byte in
    let secret = c.part.ensures ∙ field_at r at tail 1 32 (at + 1) refl in
    let whole-element : is_element_at at r ≡ _ = (λ i. is_element (sym accepted i) (sym secret i)) ∙ is.0 in
    let element : c.in_ok-element.element ≡ element_at at r = is.1 ∙ (λ i. secret_if (accepted i) (secret i)) in
    let out = number_is w64 r (at + 50) (omega (arith, whole)) (c.part-2.ensures ∙ field_at r at tail 50 8 (at + 50) refl)
    c.from_be_bytes.ensures in
    let packet = number_is w64 r (at + 58) (omega (arith, whole)) (c.part-3.ensures ∙ field_at r at tail 58 8 (at + 58) refl)
    c.from_be_bytes-2.ensures in
    taken c.args.device.now _
    (request_whole r whole (ap is_flag (sym byte) ∙ c.in_ok-flag.ensures.0) whole-element)
    (given_key_based_write c.args.device.now r ok.1 ok.2 at (before_last r 11 ok.3 66 whole cut.0) element
    (c.part-4.ensures ∙ field_at r at tail 33 9 (at + 33) refl) (c.part-5.ensures ∙ field_at r at tail 42 8 (at + 42) refl)
    out c.lent-out_length.ensures packet c.lent-packet_length.ensures c.key_based_write.ensures.value)
