-- One byte more is joined with the value.
use Rattle.std.proofs.Common.{◌≡◌, refl, length, arith, rules}
use Rattle.std.specs.Int.Bits.{bit_xor}
use Rattle.laws.proofs.Lists.{map_more}
use Rattle.hmac_sha256.proofs.key_pad.Goals as goal

pub loop-byte-preserved : goal.loop-byte-preserved
loop-byte-preserved c =
    let long : length c.args.key ≡ 64 = search rules in
    map_more (λ b. bit_xor b c.args.value) c.args.key c.loop-byte.byte-index 0 c.loop-byte.invariant (omega arith) refl
