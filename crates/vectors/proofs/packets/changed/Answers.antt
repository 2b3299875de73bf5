-- The packet is longer.
use Rattle.std.proofs.Common.{◌≡◌, length, sym, length-take-le, arith, rules}
use Rattle.vectors.proofs.packets.changed.Goals as goal

pub slice_bounds-open-end : goal.slice_bounds-open-end
slice_bounds-open-end c =
    let packet = c.with_bit_changed-packet.result in
    let long : length packet ≡ 80 = search rules in sym (length-take-le 42 packet (omega (arith, long)))
