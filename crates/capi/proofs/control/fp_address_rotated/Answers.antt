-- The next device is valid.
use Rattle.capi.proofs.Laws.{next_valid}
use Rattle.provider.specs.Rules.Event.{OnDevice, AddressRotated}
use Rattle.capi.proofs.control.fp_address_rotated.Goals as goal

pub pack_outcome-requires : goal.pack_outcome-requires
pack_outcome-requires c =
    next_valid c.in-Some.d (OnDevice c.args.clock (AddressRotated c.args.ble c.args.salt.now)) _ c.in-Some.ensures.valid c.address_rotated.ensures
