-- The invariant: the rounds that are left give from s what all nine give from the first state.
-- Assumes nothing.
use mathlib.Core.List.{map}
use mathlib.Core.Path.{◌≡◌}
use Prim.Native.Nat.{◌-◌}
use Rattle.aes128.specs.Cipher.{inv_rounds}
use Rattle.aes128.specs.Words.{block_of}
use Rattle.aes128.proofs.decrypt.Given as goal

abbrev pub invariant-loop-i : goal.invariant-loop-i
invariant-loop-i l =
    inv_rounds (map block_of l.keys) (l.i - 1) (block_of l.s) ≡ inv_rounds (map block_of l.keys) 9 (block_of l.initial.s)
