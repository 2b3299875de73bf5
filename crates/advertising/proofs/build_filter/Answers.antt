-- After i turns the bits of the first i keys are set.
use Rattle.std.proofs.Common.{◌≡◌, ◌∙◌, length, replicate, arith}
use Rattle.account_keys.specs.Keys.{held}
use Rattle.advertising.specs.Filter.{filter_size}
use Rattle.advertising.proofs.Laws.{with_key_all, with_key_more}
use Rattle.advertising.proofs.build_filter.Goals as goal

pub loop-key-preserved : goal.loop-key-preserved
loop-key-preserved c =
    let size = filter_size c.args.keys.count in (
      c.set_bits.auto.filter ∙ c.loop-key.invariant.0,
      with_key_more size c.args.salt (replicate size 0) (held c.args.keys) c.loop-key.key-index c.loop-key-test.true
          c.loop-key.invariant.1 c.loop-key.invariant.0 c.salted_hash.ensures c.set_bits.ensures,
    )

pub returns : goal.returns
returns c =
    let all : c.loop-key.key-index ≡ length (held c.args.keys) = omega (arith, c.loop-key.auto.key-index-end, c.loop-key-test.false) in
    c.loop-key.invariant.1 ∙ rw all (with_key_all c.args.keys c.requires.0 c.args.salt)
