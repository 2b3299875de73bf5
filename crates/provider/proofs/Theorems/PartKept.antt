-- A part of the device that only events of some kinds change, and only if they are taken.
-- Assumes nothing.
use mathlib.Core.Bool.{Bool, true, false}
use mathlib.Core.List.{List}
use mathlib.Core.Path.{◌≡◌, refl, sym, ◌∙◌}
use Prim.Native.Nat.{ℕ}
use Rattle.laws.proofs.Choice.{true_is, and_true_left}
use Rattle.laws.specs.Choice.{◌and◌}
use Rattle.basics.specs.Answers.{is_taken}
use Rattle.provider.proofs.Theorems.Ways as event
use Rattle.provider.proofs.Theorems.Ways.{way}
use Rattle.provider.specs.Rules.Device.{Effect, drop_all, clock_step}
use Rattle.provider.specs.Rules.Event.{DeviceEvent, LinkEvent, Event, PowerOn, OnDevice, OnLink, on_device, on_link, next, answer_of}
use Rattle.provider.specs.declared.Device.{Device}
use Rattle.provider.specs.declared.Start.{Start}

module _ {A : Type 0} (part : Device → A) (sets : Event → Bool)
    (dropped : (d : Device) → part (drop_all d) ≡ part d)
    (stepped : (d : Device) (t : ℕ) → part (clock_step t d) ≡ part d)
    (at-power-on : (stored name : List ℕ) (start : Start) → sets (PowerOn stored name start) ≡ true)
    (on_device_lem : (e : DeviceEvent) (d : Device) (t : ℕ) → sets (OnDevice t e) ≡ false → part (on_device e d) ≡ part d)
    (on_link_lem : (e : LinkEvent) (d : Device) (l t : ℕ)
    → (sets (OnLink l t e) and is_taken (on_link e d l t).gives.reply.answer) ≡ false
    → part (on_link e d l t).gives.next ≡ part d) where
  by_way : (d : Device) {e : Event} {x : Effect} → event.Way d e x → (sets e and is_taken x.gives.reply.answer) ≡ false
      → part x.gives.next ≡ part d
  by_way d event.marker h = dropped d
  by_way d (event.powered-on stored name start ks f n) h =
      absurd (true_is (sym (and_true_left (sets (PowerOn stored name start)) h) ∙ at-power-on stored name start))
  by_way d (event.malformed stored name start) h = refl
  by_way d (event.device-late t e) h = dropped d
  by_way d (event.device-changed t e) h =
      on_device_lem e (clock_step t d) t (and_true_left (sets (OnDevice t e)) h) ∙ stepped d t
  by_way d (event.unknown_link l t e) h = refl
  by_way d (event.refused_early l t e a p q) h = refl
  by_way d (event.link-late l t e) h = dropped d
  by_way d (event.on_link_lem l t e k) h = on_link_lem e (clock_step t d) l t h ∙ stepped d t

  pub part_kept : (d : Device) (e : Event) → (sets e and is_taken (answer_of d e)) ≡ false → part (next d e) ≡ part d
  part_kept d e = by_way d (way d e)
