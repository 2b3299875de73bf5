-- The keys before the index stand in the output.
use mathlib.Core.List.{◌++◌}
use mathlib.Core.Path.{◌≡◌}
use Prim.Native.Nat.{◌*◌}
use lib.ListN.{length, take, drop}
use Rattle.account_keys.specs.Keys.{held}
use Rattle.account_keys.specs.StoredList.{key_bytes}
use Rattle.account_keys.proofs.AccountKeys.write_keys.Given as goal

abbrev pub invariant-loop-i : goal.invariant-loop-i
invariant-loop-i l =
    (l.out ≡ key_bytes (take l.i (held l.fn.self)) ++ drop (16 * l.i) l.initial.out)
    × (length l.out ≡ length l.initial.out)
