-- What an event gives depends on its lent outputs only by whether they are long enough.
-- Assumes nothing.
use mathlib.Core.Bool.{Bool, true, false, not}
use mathlib.Core.List.{List, [], ◌∷◌}
use mathlib.Core.Path.{◌≡◌, refl, ap, ◌∙◌}
use Prim.Native.Nat.{ℕ, min}
use native.Mathlib.Nat.{min-le_left, min-le_right, min-eq_right}
use native.Mathlib.Omega.{arith}
use lib.Dec.{ltb}
use lib.ListN.{length, take, length-replicate}
use lib.Seq.{length-take-le}
use borrow.Author.Tests.{lt-ltb, le-ltb, ltb-true, ltb-false}
use Rattle.std.specs.Prelude.{if◌then◌else◌, Result, Ok, Err, Option}
use Rattle.basics.specs.declared.Answer.{Answer}
use Rattle.basics.specs.declared.Answer.TheVariants.{WrongLength}
use Rattle.key_based.specs.Request.{sized}
use Rattle.pairing.specs.Pairing.{PasskeyWrite}
use Rattle.provider.specs.Rules.Device.{Effect, after_checks, on_known_link}
use Rattle.provider.specs.Rules.Event.{OnLink, KeyBasedWrite, OnSession, response_room, outputs_room, on_link, step}
use Rattle.provider.specs.declared.Device.{Device}
use Rattle.provider.specs.declared.Outcome.{Outcome}
use Rattle.recording.specs.Reading.{zeros}

-- ---- the same write with other outputs

module _ (d : Device) (l t : ℕ) where
  -- what comes after the checks of an event gives the same, whatever the outputs, if it does on every device
  pub checks_give : (checked : Result Device Outcome) (outs outs' : List (List ℕ)) (rest rest' : Device → Effect)
      → ((x : Device) → (rest x).gives ≡ (rest' x).gives)
      → (after_checks checked outs rest).gives ≡ (after_checks checked outs' rest').gives
  checks_give (Ok x) outs outs' rest rest' h = h x
  checks_give (Err o) outs outs' rest rest' h = refl

  pub passkey_write_gives : (block salt out out' : List ℕ) → response_room (length out) ≡ response_room (length out')
      → (step d (OnLink l t (OnSession (PasskeyWrite block salt out)))).gives
      ≡ (step d (OnLink l t (OnSession (PasskeyWrite block salt out')))).gives
  passkey_write_gives block salt out out' e =
      let rest : List ℕ → Device → Effect = λ o x. on_link (OnSession (PasskeyWrite block salt o)) x l t in
      checks_give (on_known_link d l t (response_room (length out))) (out ∷ []) (out' ∷ []) (rest out) (rest out') (λ x. refl)
      ∙ ap (λ (a : Result Unit Answer). (after_checks (on_known_link d l t a) (out' ∷ []) (rest out')).gives) e

  pub key_based_write_gives : (request : List ℕ) (element : Option (List ℕ)) (salt nonce out packet out' packet' : List ℕ)
      → outputs_room (length out) (length packet) ≡ outputs_room (length out') (length packet')
      → (step d (OnLink l t (KeyBasedWrite request element salt nonce out packet))).gives
      ≡ (step d (OnLink l t (KeyBasedWrite request element salt nonce out' packet'))).gives
  key_based_write_gives request element salt nonce out packet out' packet' e =
      let early : Result Unit Answer → Result Unit Answer = λ a. if not (sized request) then Err WrongLength else a in
      let rest : List ℕ → List ℕ → Device → Effect = λ o p x. on_link (KeyBasedWrite request element salt nonce o p) x l t in
      checks_give (on_known_link d l t (early (outputs_room (length out) (length packet)))) (out ∷ packet ∷ []) (out' ∷ packet' ∷ [])
      (rest out packet) (rest out' packet') (λ x. refl)
      ∙ ap (λ (a : Result Unit Answer). (after_checks (on_known_link d l t (early a)) (out' ∷ packet' ∷ []) (rest out' packet')).gives) e

-- ---- an output of the length that was recorded, and one no longer than is asked for

least_room : (n k : ℕ) → ltb (min n k) k ≡ ltb n k
least_room n k = go (ltb n k) refl
  where
    go : (b : Bool) → ltb n k ≡ b → ltb (min n k) k ≡ b
    go true e = lt-ltb (min n k) k (omega (arith, min-le_left n k, ltb-true n k e))
    go false e = rw (min-eq_right (ltb-false n k e)) (le-ltb k k (omega arith))

module _ (o : List ℕ) (n : ℕ) {k m : ℕ} (long : length o ≡ m) (e : k ≡ min n m) where
  pub length_lent : length (take k o) ≡ k
  length_lent = length-take-le k o (omega (arith, long, e, min-le_right n m))

  lent-room : ltb (length (take k o)) m ≡ ltb (length (zeros n)) m
  lent-room = rw (length_lent, e, length-replicate {A = ℕ} n 0) (least_room n m)

pub same_response_room : (o : List ℕ) (n : ℕ) {k : ℕ} → length o ≡ 16 → k ≡ min n 16
    → response_room (length (take k o)) ≡ response_room (length (zeros n))
same_response_room o n long e = rw (lent-room o n long e)

pub same_outputs_room : (o p : List ℕ) (n m : ℕ) {j k : ℕ} → length o ≡ 16 → j ≡ min n 16 → length p ≡ 80 → k ≡ min m 80
    → outputs_room (length (take j o)) (length (take k p)) ≡ outputs_room (length (zeros n)) (length (zeros m))
same_outputs_room o p n m long e long' f = rw (lent-room o n long e, lent-room p m long' f)
