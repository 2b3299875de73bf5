-- After i turns the first i links are read.
use mathlib.Core.Path.{ap}
use lib.ListN.{length}
use Rattle.laws.proofs.Filled.{filled_none, filled_set, filled_all}
use Rattle.sessions.specs.declared.Sessions.{Sessions}
use Rattle.packed.proofs.unpack.links_of.Goals as goal

pub loop-i-init : goal.loop-i-init
loop-i-init c = filled_none (ap (λ (x : Sessions). length x.links) c.all_idle-sessions.ensures)

pub loop-i-preserved : goal.loop-i-preserved
loop-i-preserved c =
    filled_set c.loop-i.invariant c.loop-i-test.true c.session_of.ensures

pub returns : goal.returns
returns c = λ i. record { links = filled_all c.loop-i.invariant c.loop-i-test.false i }
