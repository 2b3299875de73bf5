-- After i turns the first i links are read.
use lib.ListN.{get_or}
use Rattle.laws.proofs.Filled.{Filled}
use Rattle.sessions.specs.Sessions.{link_count, absent_session}
use Rattle.packed.specs.Packed.{session_of, no_session}
use Rattle.packed.proofs.unpack.links_of.Given as goal

abbrev pub invariant-loop-i : goal.invariant-loop-i
invariant-loop-i l = Filled absent_session link_count (λ k. session_of (get_or l.fn.from k no_session)) l.i
    l.sessions.links
