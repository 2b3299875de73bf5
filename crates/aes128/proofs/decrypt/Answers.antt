-- The invariant: the rounds that are left give from s what all nine give from the first state.
-- Assumes nothing.
use mathlib.Core.List.{map}
use mathlib.Core.Path.{◌∙◌}
use Prim.Native.Nat.{◌-◌}
use native.Mathlib.Omega.{arith}
use lib.Dec.{lit<}
use Rattle.aes128.specs.Words.{block_of}
use Rattle.aes128.proofs.RoundKeys.{key_at_lem}
use Rattle.aes128.proofs.Rounds.{inv_rounds_more, inv_cipher_made}
use Rattle.aes128.proofs.decrypt.Goals as goal

pub loop-i-preserved : goal.loop-i-preserved
loop-i-preserved c =
    let i = c.loop-i.i - 1 in
    inv_rounds_more (map block_of c.round_keys-keys.result) i (block_of c.loop-i.s) (omega arith) c.loop-i.invariant
    c.inv_shift_rows_sub_bytes.ensures
    (key_at_lem c.args.key c.round_keys-keys.result i c.round_keys-keys.ensures (omega arith))
    c.add_round_key.ensures c.inv_mix_columns-s.ensures

pub returns : goal.returns
returns c =
    let given = c.args in
    let expanded = c.round_keys-keys.ensures in
    c.to_block.ensures
    ∙ inv_cipher_made given.key given.block (c.loop-i.i - 1) (block_of c.loop-i.s) expanded c.to_columns.ensures
    (key_at_lem given.key c.round_keys-keys.result 10 expanded (lit< tt)) c.add_round_key-s.ensures
    c.loop-i.invariant (omega arith) c.inv_shift_rows_sub_bytes-2.ensures
    (key_at_lem given.key c.round_keys-keys.result 0 expanded (lit< tt)) c.add_round_key-2.ensures
