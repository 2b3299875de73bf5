-- The ways of the next key, and none left.
use Rattle.std.proofs.Common.{◌≡◌, ◌∙◌, sym, refl, false}
use Rattle.std.specs.Option.{is_some}
use Rattle.std.specs.Prelude.{Option, Some, None}
use Rattle.account_keys.specs.Keys.{held}
use Rattle.laws.proofs.Choice.{true_is}
use Rattle.key_based.proofs.Laws.{key_fits, key_passed, all_passed}
use Rattle.key_based.specs.declared.Found.{Found}
use Rattle.key_based.proofs.Addresses.try_owners.Goals as goal

nothing_found : {a : Option Found} → is_some a ≡ false → a ≡ None
nothing_found {a = None} e = refl
nothing_found {a = Some f} e = absurd (true_is (sym e))

pub loop-owner-preserved : goal.loop-owner-preserved
loop-owner-preserved c =
    let a = c.args in
    let misses = sym c.is_some.ensures ∙ c.if-is_some.false in (
      rw (c.loop-owner.invariant.0, nothing_found misses),
      key_passed a.self.ble a.self.public a.block (held a.keys) c.loop-owner.owner-index c.loop-owner.invariant.1
          c.loop-owner-test.true c.try_key.ensures misses,
    )

pub returns-then-is_some : goal.returns-then-is_some
returns-then-is_some c =
    let a = c.args in
    rw c.loop-owner.invariant.0 (key_fits a.self.ble a.self.public a.block (held a.keys) c.loop-owner.owner-index
    c.loop-owner.invariant.1 c.loop-owner-test.true c.try_key.ensures (sym c.is_some.ensures ∙ c.if-is_some.true))

pub returns-after-loop-owner : goal.returns-after-loop-owner
returns-after-loop-owner c =
    let a = c.args in
    c.loop-owner.invariant.0 ∙ all_passed a.self.ble a.self.public a.block (held a.keys) c.loop-owner.owner-index
    c.loop-owner.invariant.1 c.loop-owner-test.false
