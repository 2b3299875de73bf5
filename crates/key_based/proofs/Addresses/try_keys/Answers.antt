-- The three ways of the definition: account keys, a rejected point, the key from the secret.
use Rattle.account_keys.specs.Keys.{held}
use Rattle.key_based.proofs.Laws.{from_owners, rejected, from_secret}
use Rattle.key_based.proofs.Addresses.try_keys.Goals as goal

pub returns-then-request-ne80 : goal.returns-then-request-ne80
returns-then-request-ne80 c =
    from_owners c.args.self.ble c.args.self.public c.args.request.now (held c.args.keys)
    c.args.secret c.if-request-ne80.true c.part-block.ensures c.try_owners.ensures

pub returns-in_default : goal.returns-in_default
returns-in_default c =
    rejected c.args.self.ble c.args.self.public c.args.request.now (held c.args.keys)
    c.args.secret c.if-request-ne80.false c.in_default.is c.none_fits.ensures

pub returns : goal.returns
returns c =
    from_secret c.args.self.ble c.args.self.public c.args.request.now (held c.args.keys)
    c.args.secret c.if-request-ne80.false c.in-Some.is c.part-block.ensures
    c.digest-digest.ensures c.part.ensures c.try_key.ensures
