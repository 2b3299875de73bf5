-- The invariant: s is the state after the rounds before the i-th.
-- Assumes nothing.
use mathlib.Core.List.{map}
use mathlib.Core.Path.{refl, ◌∙◌}
use Prim.Native.Nat.{◌-◌}
use native.Mathlib.Omega.{arith}
use lib.Dec.{lit<}
use Rattle.aes128.specs.Cipher.{rounds}
use Rattle.aes128.specs.Words.{block_of}
use Rattle.aes128.proofs.RoundKeys.{key_at_lem}
use Rattle.aes128.proofs.Rounds.{rounds_more, cipher_made}
use Rattle.aes128.proofs.encrypt.Goals as goal

pub loop-i-init : goal.loop-i-init
unfolding rounds
loop-i-init c = refl

pub loop-i-preserved : goal.loop-i-preserved
loop-i-preserved c =
    let i = c.loop-i.i in
    rounds_more (map block_of c.round_keys-keys.result) (block_of c.add_round_key-s.result) i (omega arith)
    c.loop-i.invariant c.sub_bytes_shift_rows.ensures c.mix_columns.ensures
    (key_at_lem c.args.key c.round_keys-keys.result i c.round_keys-keys.ensures (omega arith))
    c.add_round_key-s-in-loop-i.ensures

pub returns : goal.returns
returns c =
    let given = c.args in
    let expanded = c.round_keys-keys.ensures in
    c.to_block.ensures
    ∙ cipher_made given.key given.block (c.loop-i.i - 1) expanded c.to_columns.ensures
    (key_at_lem given.key c.round_keys-keys.result 0 expanded (lit< tt)) c.add_round_key-s.ensures
    c.loop-i.invariant (omega arith) c.sub_bytes_shift_rows-2.ensures
    (key_at_lem given.key c.round_keys-keys.result 10 expanded (lit< tt)) c.add_round_key.ensures
