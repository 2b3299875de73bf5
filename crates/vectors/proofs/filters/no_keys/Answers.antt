-- The list with no key is valid.
use Rattle.std.proofs.Common.{[], refl, arith}
use Rattle.account_keys.specs.Keys.{owned}
use Rattle.account_keys.proofs.Laws.{kept_valid}
use Rattle.vectors.proofs.filters.no_keys.Goals as goal

pub returns : goal.returns
unfolding owned
returns c = (c.none.ensures, rw c.none.ensures (kept_valid [] (omega arith) tt refl))
