-- One key more stands in the output.
use mathlib.Core.Path.{◌∙◌, refl}
use Rattle.account_keys.specs.Keys.{held}
use Rattle.account_keys.specs.StoredList.{key_bytes}
use Rattle.account_keys.proofs.StoredList.{key_bytes_more}
use Rattle.account_keys.proofs.AccountKeys.write_keys.Goals as goal

pub loop-i-init : goal.loop-i-init
unfolding key_bytes
loop-i-init c = (refl, refl)

pub loop-i-preserved : goal.loop-i-preserved
loop-i-preserved c =
    let ks = c.args.self in (
      c.copy.ensures ∙ key_bytes_more c.loop-i.out c.args.out.now (held ks) c.loop-i.i c.requires.0.sized
          c.loop-i-test.true c.loop-i.invariant.0,
      c.copy.auto.out ∙ c.loop-i.invariant.1,
    )
