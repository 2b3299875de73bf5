-- Nonce and text are copied to their places, the text is put under the counter mode there, and the tag of both goes to the front.
use Prim.Native.Nat.{◌+◌, ◌-◌}
use native.Mathlib.Omega.{arith}
use borrow.Author.Rules.{rules}
use Rattle.names.proofs.ValidNames.{length_text}
use Rattle.names.specs.Name.{text_of}
use Rattle.additional_data.proofs.Packet.{packet_sealed}
use Rattle.additional_data.proofs.seal.Goals as goal

pub returns : goal.returns
returns c =
    let a = c.args in
    let long = length_text c.requires.0 in
    packet_sealed a.key a.nonce (text_of a.name) a.out.now (search rules) (omega (arith, c.requires.1))
    (16 + a.name.length - 16) (16 + a.name.length - 8) (omega (arith, long)) (omega (arith, long))
    c.copy.ensures c.copy-2.ensures c.counter_mode.ensures c.tag-t.ensures
    c.copy-3.ensures
