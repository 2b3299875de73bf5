-- A store in the first free place, and the count that goes with it.
use Rattle.request_guard.proofs.Laws.{salts_push}
use Rattle.request_guard.proofs.SpentSalts.push.Goals as goal

pub returns : goal.returns
returns c = salts_push c.args.self c.args.salt c.requires.0 c.requires.1
