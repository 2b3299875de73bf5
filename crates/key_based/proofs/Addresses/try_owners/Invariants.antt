-- No key passed fits: the search through the rest, with their number, is the whole search.
use mathlib.Core.Path.{◌≡◌}
use Rattle.account_keys.specs.Keys.{held}
use Rattle.key_based.proofs.Laws.{Passed}
use Rattle.key_based.specs.Search.{none_fits}
use Rattle.key_based.proofs.Addresses.try_owners.Given as goal

abbrev pub invariant-loop-owner : goal.invariant-loop-owner
invariant-loop-owner l =
    (l.search ≡ none_fits l.owner-index) × Passed l.fn.self.ble l.fn.self.public l.fn.block (held l.fn.keys) l.owner-index
