-- The loop fills the result with the round keys as blocks.
-- Assumes nothing.
use mathlib.Core.List.{[], map}
use lib.ListN.{get_or}
use Rattle.laws.proofs.Filled.{Filled}
use Rattle.aes128.specs.Words.{block_of}
use Rattle.aes128.proofs.key_expansion.Given as goal

abbrev pub invariant-loop-i : goal.invariant-loop-i
invariant-loop-i l = Filled [] 11 (λ j. get_or (map block_of l.k-items) j []) l.i l.blocks
