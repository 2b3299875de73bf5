-- One key more is held, unless it is left out.
use mathlib.Core.Path.{ap, ◌∙◌}
use native.Mathlib.Omega.{arith}
use lib.ListN.{take, length-take}
use Rattle.account_keys.specs.Keys as rule
use Rattle.account_keys.specs.Keys.{kept}
use Rattle.account_keys.proofs.Laws.{held_kept}
use Rattle.account_keys.proofs.Without.{others_kept, without_more}
use Rattle.account_keys.proofs.AccountKeys.without.Goals as goal

pub push_unless-others-requires : goal.push_unless-others-requires
push_unless-others-requires c =
    let ks = c.args.self in
    rw c.loop-held.invariant
    (others_kept ks c.args.key c.loop-held.held-index c.requires (omega (arith, length-take ks.count ks.keys)))

pub loop-held-preserved : goal.loop-held-preserved
loop-held-preserved c =
    let ks = c.args.self in
    let before = rule.without (take c.loop-held.held-index (rule.held ks)) c.args.key in
    c.push_unless-others.ensures ∙ rw (c.loop-held.invariant, held_kept before)
    (ap kept (without_more (rule.held ks) c.loop-held.held-index c.args.key c.loop-held-test.true))
