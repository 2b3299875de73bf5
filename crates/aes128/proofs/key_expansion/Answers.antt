-- The loop fills the result with the round keys as blocks.
-- Assumes nothing.
use mathlib.Core.List.{[], map}
use mathlib.Core.Path.{◌∙◌}
use native.Mathlib.Omega.{arith}
use Rattle.laws.proofs.Filled.{filled_all, tabulate_get_or}
use Rattle.aes128.specs.Words.{block_of}
use Rattle.aes128.proofs.key_expansion.Goals as goal

pub returns : goal.returns
returns c =
    let expanded = c.round_keys-keys.ensures in
    filled_all c.loop-i.invariant (omega arith)
    ∙ tabulate_get_or 11 (map block_of c.round_keys-keys.result) [] (rw expanded)
    ∙ expanded
