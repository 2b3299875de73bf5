-- The invariant: s is the state after the rounds before the i-th.
-- Assumes nothing.
use mathlib.Core.List.{map}
use mathlib.Core.Path.{◌≡◌}
use Prim.Native.Nat.{◌-◌}
use Rattle.aes128.specs.Cipher.{rounds}
use Rattle.aes128.specs.Words.{block_of}
use Rattle.aes128.proofs.encrypt.Given as goal

abbrev pub invariant-loop-i : goal.invariant-loop-i
invariant-loop-i l = block_of l.s ≡ rounds (map block_of l.keys) (block_of l.initial.s) (l.i - 1)
