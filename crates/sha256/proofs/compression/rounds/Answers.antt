-- After i rounds, four to a turn, the variables are those of the definition.
use Rattle.std.proofs.Common.{◌≡◌, refl, rules}
use Rattle.laws.proofs.Loops.{at_limit}
use Rattle.sha256.specs.Compression as spec
use Rattle.sha256.proofs.Laws.{rounds_more}
use Rattle.sha256.proofs.compression.rounds.Goals as goal

pub loop-i-init : goal.loop-i-init
unfolding spec.rounds
loop-i-init c = (search rules, refl, refl)

pub loop-i-preserved : goal.loop-i-preserved
loop-i-preserved c = (
  search rules,
  search rules,
  rounds_more _ _ _ c.loop-i.invariant.2 c.round-s.ensures c.round-s-in-loop-i.ensures
      c.round-s-in-loop-i-2.ensures c.round-s-in-loop-i-3.ensures,
)

pub returns : goal.returns
returns c =
    let given = c.args in
    at_limit (λ k. c.loop-i.s ≡ spec.rounds given.p given.w k) c.loop-i.invariant.0 c.loop-i-test.false
    c.loop-i.invariant.2
