-- What is before the clock is a pattern's, and the clock is the chunk behind it.
use mathlib.Core.Path.{refl}
use Rattle.std.specs.Int.{w64}
use Rattle.replay_events.proofs.Laws.{chunk_is, number_is}
use Rattle.replay_events.proofs.fields.on_link.Goals as goal

pub returns : goal.returns
returns c =
    let r = c.args.«record».now in
    let chunk = chunk_is r 3 8 c.in-len3-up.len_at_least c.in_ok-clock.ensures.cases in
    (chunk.0, refl, number_is w64 r 3 chunk.0 chunk.1 c.from_be_bytes.ensures, chunk.2)
