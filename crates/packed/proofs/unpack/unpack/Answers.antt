-- Whatever is read is valid.
use Rattle.std.proofs.Common.{rules}
use Rattle.packed.proofs.ReadsBack.{any_device}
use Rattle.packed.specs.Packed.{unpacked}
use Rattle.packed.proofs.unpack.unpack.Goals as goal

pub returns-clause-valid : goal.returns-clause-valid
unfolding unpacked
returns-clause-valid c =
    any_device c.args.from c.with_parts.result (search rules)
