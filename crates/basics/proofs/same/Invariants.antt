-- What is left of both is equally long, and decides together with what was seen so far.
use Rattle.std.proofs.Common.{◌≡◌, length}
use Rattle.std.specs.Iterator.Adapters.{zip_first, zip_second}
use Rattle.std.specs.Slice.Iter.{iter_rest}
use Rattle.laws.specs.Choice.{◌and◌}
use Rattle.basics.specs.Bytes as spec
use Rattle.basics.proofs.same.Given as goal

abbrev pub invariant-loop-x : goal.invariant-loop-x
invariant-loop-x l =
    (length (iter_rest (zip_first l.x-iterator)) ≡ length (iter_rest (zip_second l.x-iterator)))
    × ((l.equal and spec.same (iter_rest (zip_first l.x-iterator)) (iter_rest (zip_second l.x-iterator))) ≡ spec.same l.a l.b)
