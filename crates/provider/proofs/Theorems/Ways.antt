-- The ways that an event may go. A theorem about every event is a case for each.
-- Assumes nothing.
use mathlib.Core.Bool.{Bool, true, false}
use mathlib.Core.List.{List, []}
use mathlib.Core.Path.{◌≡◌, refl}
use Prim.Native.Nat.{ℕ, ◌≤◌, ◌<◌}
use native.Mathlib.Omega.{arith}
use lib.Dec.{ltb}
use borrow.Author.Tests.{ltb-false}
use Rattle.std.specs.Prelude.{if◌then◌else◌, Option, Some, None, Result, Ok, Err}
use Rattle.account_keys.specs.StoredList.{reading}
use Rattle.account_keys.specs.declared.AccountKeys.{AccountKeys}
use Rattle.basics.specs.Answers.{is_taken}
use Rattle.basics.specs.declared.Answer.{Answer}
use Rattle.basics.specs.declared.Answer.TheVariants.{UnknownLink, ClockWentBack, ListMalformed}
use Rattle.names.specs.Name.{is_name, name_of}
use Rattle.provider.proofs.Checks.{early_refuses}
use Rattle.provider.specs.Rules.Control.{started, by_list, power_on}
use Rattle.provider.specs.Rules.Device.{Effect, given, answers, takes, drop_all, clock_step, in_time, on_known_link, unless_refused, after_checks}
use Rattle.provider.specs.Rules.Event.{DeviceEvent, LinkEvent, Event, Overflow, PowerOn, OnDevice, OnLink, lent_on_link, early, on_device, on_link, step}
use Rattle.provider.specs.declared.Device.{Device}
use Rattle.provider.specs.declared.Start.{Start}
use Rattle.sessions.specs.Sessions.{link_count}

pub data Way (d : Device) : Event → Effect → Type 0 where
  marker : Way d Overflow (takes (drop_all d))
  powered-on : (stored name : List ℕ) (start : Start) (ks : AccountKeys) → reading stored ≡ Some ks → is_name name ≡ true
      → Way d (PowerOn stored name start) (takes (started ks (name_of name) start))
  malformed : (stored name : List ℕ) (start : Start) → Way d (PowerOn stored name start) (answers d ListMalformed [])
  device-late : (t : ℕ) (e : DeviceEvent) → Way d (OnDevice t e) (answers (drop_all d) ClockWentBack [])
  device-changed : (t : ℕ) (e : DeviceEvent) → Way d (OnDevice t e) (takes (on_device e (clock_step t d)))
  unknown_link : (l t : ℕ) (e : LinkEvent) → Way d (OnLink l t e) (answers d UnknownLink (lent_on_link e))
  refused_early : (l t : ℕ) (e : LinkEvent) (a : Answer) → early e ≡ Err a → is_taken a ≡ false
      → Way d (OnLink l t e) (answers d a (lent_on_link e))
  link-late : (l t : ℕ) (e : LinkEvent) → Way d (OnLink l t e) (answers (drop_all d) ClockWentBack (lent_on_link e))
  on_link_lem : (l t : ℕ) (e : LinkEvent) → l < link_count → Way d (OnLink l t e) (on_link e (clock_step t d) l t)

-- every event goes one of these ways
pub way : (d : Device) (e : Event) → Way d e (step d e)
unfolding power_on in_time on_known_link
way d Overflow = marker
way d (PowerOn stored name start) = go (reading stored) (is_name name) refl refl
  where
    go : (r : Option AccountKeys) (b : Bool) → reading stored ≡ r → is_name name ≡ b
        → Way d (PowerOn stored name start) (by_list d r (if b then Some (name_of name) else None) start)
    go (Some ks) true e h = powered-on stored name start ks e h
    go (Some ks) false e h = malformed stored name start
    go None b e h = malformed stored name start
way d (OnDevice t e) = go (ltb t d.clock.0)
  where
    go : (b : Bool) → Way d (OnDevice t e)
        (after_checks (if b then Err (given (drop_all d) ClockWentBack) else Ok (clock_step t d)) [] (λ x. takes (on_device e x)))
    go true = device-late t e
    go false = device-changed t e
way d (OnLink l t e) = go (ltb 7 l) (early e) (ltb t d.clock.0) refl refl
  where
    go : (a : Bool) (b : Result Unit Answer) (c : Bool) → ltb 7 l ≡ a → early e ≡ b → Way d (OnLink l t e)
        (after_checks (if a then Err (given d UnknownLink) else
        unless_refused d b (if c then Err (given (drop_all d) ClockWentBack) else Ok (clock_step t d)))
        (lent_on_link e) (λ x. on_link e x l t))
    go true b c k h = unknown_link l t e
    go false (Err a) c k h = refused_early l t e a h (early_refuses e h)
    go false (Ok u) true k h = link-late l t e
    go false (Ok u) false k h = on_link_lem l t e (let small : l ≤ 7 = ltb-false 7 l k in omega (arith, small))
