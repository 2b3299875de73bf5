-- The links before the index are as they stand at the moment.
use mathlib.Core.List.{map, ◌++◌}
use mathlib.Core.Path.{◌≡◌}
use lib.ListN.{take, drop}
use Rattle.sessions.specs.Sessions.{at_clock}
use Rattle.sessions.proofs.Sessions.expire.Given as goal

abbrev pub invariant-loop-session : goal.invariant-loop-session
invariant-loop-session l =
    l.session-items ≡ map (at_clock l.now.0) (take l.session-index l.fn.self.links) ++ drop l.session-index l.fn.self.links
