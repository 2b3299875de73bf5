-- Nothing is held, or the line of a marker is printed and written.
use Rattle.fp_replay.proofs.Turns.{finished_none, finished_line}
use Rattle.fp_replay.proofs.part.finish.Goals as goal

pub returns-in_default : goal.returns-in_default
returns-in_default c =
    finished_none c.args.stream c.args.out.now c.end.ensures c.in_default.is

pub returns-in-Some : goal.returns-in-Some
returns-in-Some c =
    finished_line c.args.stream c.args.out.now c.end.ensures c.in-Some.is c.print-filled.ensures.result_after
