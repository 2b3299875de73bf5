-- The invariant: the round keys up to i are in their places, and the constant is that of the next one.
-- Assumes nothing.
use mathlib.Core.Path.{◌∙◌, ap}
use native.Mathlib.Omega.{arith}
use Rattle.laws.proofs.Filled.{filled_all}
use Rattle.aes128.specs.Cipher.{key_expansion}
use Rattle.aes128.specs.Words.{block_of}
use Rattle.aes128.proofs.RoundKeys.{expanded_first, expanded_more, rcon_first, rcon_more}
use Rattle.aes128.proofs.expansion.round_keys.Goals as goal

pub loop-i-init : goal.loop-i-init
loop-i-init c = (expanded_first c.to_columns-keys.result, rcon_first)

pub loop-i-preserved : goal.loop-i-preserved
loop-i-preserved c =
    let inv = c.loop-i.invariant in (
      expanded_more (block_of c.to_columns-keys.result) c.loop-i.i c.loop-i.keys
          _ c.loop-i.rcon inv.0 (omega arith) inv.1 c.next_round_key.ensures,
      rcon_more c.loop-i.i c.loop-i.rcon c.double_word-rcon.result c.double_word-rcon.ensures inv.1,
    )

pub returns : goal.returns
returns c =
    filled_all c.loop-i.invariant.0 (omega arith) ∙ ap key_expansion c.to_columns-keys.ensures
