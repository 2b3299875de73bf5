-- What is left is hashed from the value so far.
use Rattle.std.proofs.Common.{◌≡◌, ◌/◌, length}
use Rattle.std.specs.Slice.Iter.{chunks_exact_rest, chunks_exact_size}
use Rattle.sha256.specs.Hash.{hashed}
use Rattle.sha256.proofs.absorb.Given as goal

abbrev pub invariant-loop-block : goal.invariant-loop-block
invariant-loop-block l =
    (chunks_exact_size l.block-iterator ≡ 64)
    × (hashed l.s (chunks_exact_rest l.block-iterator) (length (chunks_exact_rest l.block-iterator) / 64)
    ≡ hashed l.initial.s l.src (length l.src / 64))
