-- A store in the first free place, and the count that goes with it.
use Rattle.account_keys.proofs.Laws.{kept_push}
use Rattle.account_keys.proofs.AccountKeys.push.Goals as goal

pub returns : goal.returns
returns c = kept_push c.args.self c.args.key c.requires.0 c.requires.1
