-- The next device is valid.
use Rattle.capi.proofs.Laws.{next_valid}
use Rattle.provider.specs.Rules.Event.{OnLink, KeyBasedWrite}
use Rattle.capi.proofs.requests.fp_key_based_write.Goals as goal

pub pack_outcome-requires : goal.pack_outcome-requires
pack_outcome-requires c =
    next_valid c.in-Some.d (OnLink c.args.link c.args.clock (KeyBasedWrite c.args.request.now c.element-point.result c.args.salt.now c.args.nonce.now c.args.out.now c.args.packet.now)) _ c.in-Some.ensures.valid c.key_based_write.ensures.value
