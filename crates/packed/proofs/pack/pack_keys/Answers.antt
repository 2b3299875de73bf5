-- The longest list has room, so that all of it is written.
use Rattle.packed.proofs.StoredKeys.{list_packed}
use Rattle.packed.proofs.pack.pack_keys.Goals as goal

pub returns : goal.returns
returns c =
    list_packed c.args.keys c.requires c.write.ensures.value c.unwrap_or-length.ensures c.write.ensures.out_after
