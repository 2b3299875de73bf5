-- After i turns the bits of the first i numbers are set.
use Rattle.std.proofs.Common.{◌≡◌, ◌∙◌, refl, length, rules, arith}
use lib.ListN.{length-set}
use Rattle.advertising.proofs.Laws.{take_numbers, with_number_more}
use Rattle.advertising.proofs.set_bits.Goals as goal

pub loop-i-preserved : goal.loop-i-preserved
loop-i-preserved c =
    let given = c.args in (
      refl,
      simp length-set (search rules),
      with_number_more (length given.filter.now) given.filter.now given.hash c.loop-i.i
          c.loop-i-test.true c.loop-i.invariant.2 c.number_at.ensures,
    )

pub returns : goal.returns
returns c =
    let all : c.loop-i.i ≡ 8 = omega arith in
    c.loop-i.invariant.2 ∙ rw (all, take_numbers c.args.hash)
