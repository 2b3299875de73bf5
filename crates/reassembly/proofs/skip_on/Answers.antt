-- The part ends in the record, or the record in the part.
use Prim.Native.Nat.{◌-◌}
use lib.ListN.{length}
use borrow.Author.Tests.{le-ltb}
use Rattle.reassembly.proofs.skip_on.Goals as goal

pub returns : goal.returns
returns c =
    let a = c.args in
    rw (le-ltb (length a.part.now - a.at) a.skip c.if-left-skip.false, c.skipping-2.ensures)
