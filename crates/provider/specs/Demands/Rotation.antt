-- Document 02 (vii): what begins and what lifts the wait for a rotation, and that no key-based write is accepted during it.
-- Assumes nothing.
use Rattle.std.specs.Prelude.{Bool, true, false, List, [], ◌∷◌, ◌⊎◌, ◌≡◌, ℕ, if◌then◌else◌}
use Rattle.laws.specs.Choice.{◌and◌, ◌or◌}
use Rattle.basics.specs.Answers.{is_taken}
use Rattle.key_based.specs.Named.{asks_rotation}
use Rattle.provider.specs.Demands.Gap.{Observed, is_request, Accepts}
use Rattle.provider.specs.Demands.Validity.{Valid}
use Rattle.provider.specs.Rules.Event.{Event, Overflow, PowerOn, OnDevice, PairingMode, AddressRotated, FactoryReset, OnLink, step, next, answer_of}
use Rattle.provider.specs.declared.Device.{Device}
use Rattle.provider.specs.declared.Reply.{Reply}
use Rattle.request_guard.specs.Guard.{locked}
use Rattle.request_guard.specs.Wait.{no_wait, wait_after}
use Rattle.request_guard.specs.declared.wait.RotationWait.{RotationWait}

-- "A marker does not lift it; rotation, power-on and factory reset do."
abbrev pub lifts : Event → Bool
lifts Overflow = false
lifts (PowerOn stored name start) = true
lifts (OnDevice t (PairingMode on)) = false
lifts (OnDevice t (AddressRotated ble salt)) = true
lifts (OnDevice t FactoryReset) = true
lifts (OnLink l t e) = false

-- the wait after an event: one of these lifts it if it is taken, and an answer that tells the BLE address begins it
abbrev pub wait_then : Event → Reply → RotationWait → RotationWait
wait_then e r w = if lifts e and is_taken r.answer then no_wait else wait_after (asks_rotation r.named) w

abbrev pub WaitFollows : Type 0
WaitFollows = (d : Device) (e : Event) → (next d e).wait ≡ wait_then e (step d e).gives.reply d.wait

-- what may begin it: a key-based write, on any link
abbrev pub may_begin : Event → Bool
may_begin Overflow = false
may_begin (PowerOn stored name start) = false
may_begin (OnDevice t e) = false
may_begin (OnLink l t e) = is_request e

-- so it depends on requests, rotations, power-on and reset alone: nothing else changes it, and neither does one of these that is
-- refused
abbrev pub WaitKept : Type 0
WaitKept =
    (d : Device) (e : Event) → ((lifts e or may_begin e) and is_taken (answer_of d e)) ≡ false → (next d e).wait ≡ d.wait

-- a wait implies a count of 0: rows 5 and 16 never both hold on a device that came from power-on or an event
abbrev pub NeverBoth : Type 0
NeverBoth = (d : Device) → Valid d → (locked d.guard and d.wait.on) ≡ false

module _ {S R : Type 0} (o : Observed S R) where
  -- a rotation, power-on or reset that is taken
  abbrev pub Lifted : S → Event → Type 0
  Lifted d e = (lifts e ≡ true) × (o.number d e ≡ 0)

  -- no key-based write is accepted, on any link, up to the event that lifts the wait
  abbrev pub NoneUntilLifted : S → List Event → Type 0
  NoneUntilLifted d [] = Unit
  NoneUntilLifted d (e ∷ es) =
      ((l : ℕ) → Accepts o l d e → ⊥) × (Lifted d e ⊎ NoneUntilLifted (o.next d e) es)

  -- "Until the rotation": so after every answer that asks the radio to rotate, whatever events follow
  abbrev pub NoneWhileAwaited : Type 0
  NoneWhileAwaited = (d : S) (e : Event) → o.rotate d e ≡ true → (es : List Event) → NoneUntilLifted (o.next d e) es
