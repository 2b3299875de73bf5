-- The checks before an event.
-- Assumes nothing.
use mathlib.Core.Bool.{Bool, true, false, not}
use mathlib.Core.Path.{◌≡◌, refl, subst}
use Prim.Native.Nat.{ℕ, ◌≤◌}
use lib.Dec.{ltb}
use lib.ListN.{length}
use borrow.Author.Tests.{le-ltb}
use Rattle.std.specs.Prelude.{if◌then◌else◌, Result, Ok, Err, IfErr}
use Rattle.additional_data.specs.Packet.{packet_sized}
use Rattle.basics.specs.Answers.{is_taken}
use Rattle.basics.specs.declared.Answer.{Answer}
use Rattle.basics.specs.declared.Answer.TheVariants.{WrongLength, PasskeyTooLarge, OutputTooShort}
use Rattle.key_based.specs.Request.{sized}
use Rattle.pairing.specs.Pairing.{PairingStarted, ConfirmationNeeded, PasskeyWrite, PairingEnded, AccountKeyWrite, NameWrite}
use Rattle.provider.specs.Rules.Device.{clock_step, in_time, on_known_link}
use Rattle.provider.specs.Rules.Event.{LinkEvent, LinkUp, LinkDown, KeyBasedWrite, OnSession, early}
use Rattle.provider.specs.declared.Device.{Device}

-- an event in time, on a link of the eight
module _ (d : Device) (t : ℕ) where
  pub clock_on : d.clock.0 ≤ t → in_time d t ≡ Ok (clock_step t d)
  unfolding in_time
  clock_on h = rw (le-ltb t d.clock.0 h)

  pub known_link : (l : ℕ) → l ≤ 7 → on_known_link d l t (Ok tt) ≡ in_time d t
  unfolding on_known_link
  known_link l h = rw (le-ltb 7 l h)

-- ---- answers 2, 3 and 13

-- what holds of these holds of every early refusal
module _ (P : Answer → Type 0) (p : P WrongLength) (q : P PasskeyTooLarge) (r : P OutputTooShort) where
  abbrev Refuses : Result Unit Answer → Type 0
  Refuses x = IfErr x P

  early_all : (e : LinkEvent) → Refuses (early e)
  early_all LinkUp = tt
  early_all LinkDown = tt
  early_all (KeyBasedWrite request element salt nonce out packet) =
      go (sized request) (ltb (length packet) 80) (ltb (length out) 16)
    where
      go : (x y z : Bool) → Refuses (if not x then Err WrongLength else if y then Err OutputTooShort else
          if z then Err OutputTooShort else Ok tt)
      go false y z = p
      go true true z = r
      go true false true = r
      go true false false = tt
  early_all (OnSession (PairingStarted capability)) = tt
  early_all (OnSession (ConfirmationNeeded passkey)) = go (ltb 999999 passkey)
    where
      go : (b : Bool) → Refuses (if b then Err PasskeyTooLarge else Ok tt)
      go true = q
      go false = tt
  early_all (OnSession (PasskeyWrite block salt out)) = go (ltb (length out) 16)
    where
      go : (b : Bool) → Refuses (if b then Err OutputTooShort else Ok tt)
      go true = r
      go false = tt
  early_all (OnSession (PairingEnded success)) = tt
  early_all (OnSession (AccountKeyWrite block)) = tt
  early_all (OnSession (NameWrite packet)) = go (packet_sized packet)
    where
      go : (b : Bool) → Refuses (if not b then Err WrongLength else Ok tt)
      go true = tt
      go false = p

  pub early_ways : (e : LinkEvent) {a : Answer} → early e ≡ Err a → P a
  early_ways e h = subst Refuses h (early_all e)

-- each is a refusal
pub early_refuses : (e : LinkEvent) {a : Answer} → early e ≡ Err a → is_taken a ≡ false
early_refuses e h = early_ways (λ a. is_taken a ≡ false) refl refl refl e h
