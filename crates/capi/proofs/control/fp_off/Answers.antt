-- The device before any is valid.
use Rattle.provider.proofs.Theorems.ValidParts.{off_valid}
use Rattle.capi.proofs.control.fp_off.Goals as goal

pub pack-requires : goal.pack-requires
pack-requires c = rw c.off.ensures off_valid
