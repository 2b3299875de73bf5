-- Laws of the wait for a rotation: beside every guard that power-on or an event leaves it is uncounted.
-- Assumes nothing.
use mathlib.Core.Bool.{Bool, true, false, not}
use mathlib.Core.Path.{◌≡◌, refl, sym, ap}
use Prim.Native.Nat.{ℕ, ◌-◌}
use lib.Dec.{leb, eqb}
use borrow.Author.Tests.{eqb-true}
use Rattle.laws.proofs.Choice.{if_holds, or_right, and_false}
use Rattle.laws.specs.Choice.{◌and◌, ◌or◌}
use Rattle.std.specs.Prelude.{if◌then◌else◌}
use Rattle.request_guard.specs.Guard.{no_failures, fresh, locked, accepted_with, guard_at, cleaned}
use Rattle.request_guard.specs.Wait.{uncounted}
use Rattle.request_guard.specs.declared.Guard.{Guard}
use Rattle.request_guard.specs.declared.Salt.{Salt}
use Rattle.request_guard.specs.declared.wait.RotationWait.{RotationWait}

-- a guard without failures goes with any wait
pub fresh_uncounted : (w : RotationWait) → uncounted w fresh ≡ true
fresh_uncounted w = or_right (not w.on) true refl

module _ (w : RotationWait) (g : Guard) where
  -- an accepted request sets the count to 0
  pub accepted_uncounted : (s : Salt) → uncounted w (accepted_with s g) ≡ true
  accepted_uncounted s = or_right (not w.on) true refl

  -- nothing is awaited, so any count will do
  pub off_uncounted : w.on ≡ false → uncounted w g ≡ true
  off_uncounted e = rw e

  -- the clock step only takes failures away
  pub clock_uncounted : (t : ℕ) → uncounted w g ≡ true → uncounted w (guard_at t g) ≡ true
  unfolding guard_at
  clock_uncounted t h =
      if_holds (λ (x : Guard). uncounted w x ≡ true) (leb 300000 (t - g.failures.last.0))
      (or_right (not w.on) true refl) (λ _. h)

  -- what stands in places that are not in use does not count
  pub cleaned_uncounted : uncounted w (cleaned g) ≡ uncounted w g
  cleaned_uncounted = ap (λ (n : ℕ). not w.on or eqb n 0) (go (eqb g.failures.count 0) refl)
    where
      go : (b : Bool) → eqb g.failures.count 0 ≡ b → (if b then no_failures else g.failures).count ≡ g.failures.count
      go true e = sym (eqb-true g.failures.count 0 e)
      go false e = refl

  -- "A wait implies a count of 0": answers 5 and 16 never both apply
  pub never_both : uncounted w g ≡ true → (locked g and w.on) ≡ false
  never_both h = go w.on g.failures.count h
    where
      go : (on : Bool) (n : ℕ) → (not on or eqb n 0) ≡ true → (eqb n 10 and on) ≡ false
      go false n e = and_false (eqb n 10)
      go true n e = rw (eqb-true n 0 e)
