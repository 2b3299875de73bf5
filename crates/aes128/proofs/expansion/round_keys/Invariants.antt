-- The invariant: the round keys up to i are in their places, and the constant is that of the next one.
-- Assumes nothing.
use mathlib.Core.List.{[]}
use mathlib.Core.Path.{◌≡◌}
use Prim.Native.Nat.{◌+◌}
use lib.ListN.{get_or}
use Rattle.laws.specs.BigEndian.{bytes}
use Rattle.aes128.specs.KeyExpansion as expansion
use Rattle.aes128.specs.Words.{block_of}
use Rattle.aes128.proofs.RoundKeys.{Expanded}
use Rattle.aes128.proofs.expansion.round_keys.Given as goal

abbrev pub invariant-loop-i : goal.invariant-loop-i
invariant-loop-i l =
    Expanded (block_of (get_or l.initial.keys 0 [])) (l.i + 1) l.keys
    × (bytes 4 l.rcon ≡ expansion.rcon (l.i + 1))
