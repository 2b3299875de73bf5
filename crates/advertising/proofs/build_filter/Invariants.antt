-- After i turns the bits of the first i keys are set.
use mathlib.Core.List.{foldl}
use mathlib.Core.Path.{◌≡◌}
use lib.ListN.{length, take, replicate}
use Rattle.account_keys.specs.Keys.{held}
use Rattle.advertising.specs.Filter.{filter_size, with_key}
use Rattle.advertising.proofs.build_filter.Given as goal

abbrev pub invariant-loop-key : goal.invariant-loop-key
invariant-loop-key l =
    (length l.filter ≡ filter_size l.fn.keys.count) ×
    (l.filter ≡ foldl (with_key (filter_size l.fn.keys.count) l.salt) (replicate (filter_size l.fn.keys.count) 0) (take l.key-index (held l.fn.keys)))
