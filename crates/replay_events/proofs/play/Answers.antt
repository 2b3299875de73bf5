-- A record that is an event has the kind that it was read as.
use Rattle.replay_events.proofs.Laws.{played_event}
use Rattle.replay_events.proofs.play.Goals as goal

pub returns-in-Some : goal.returns-in-Some
returns-in-Some c = played_event c.args.device c.args.«record».now c.read_kind-kind.ensures c.in-Some.ensures
