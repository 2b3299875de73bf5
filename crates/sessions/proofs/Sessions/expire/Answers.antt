-- One link more stands as it does at the moment.
use native.Mathlib.Omega.{arith}
use Rattle.laws.proofs.Lists.{map_more}
use Rattle.sessions.specs.Sessions.{absent_session, at_clock}
use Rattle.sessions.proofs.Sessions.expire.Goals as goal

pub loop-session-preserved : goal.loop-session-preserved
loop-session-preserved c =
    map_more (at_clock c.args.now.0) c.args.self.links c.loop-session.session-index absent_session
    c.loop-session.invariant (omega (arith, c.requires)) c.at_clock.ensures
