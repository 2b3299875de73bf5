-- What the parts print is what the joined recording prints.
-- Assumes nothing.
use mathlib.Core.Path.{ap}
use Rattle.replay.proofs.Theorems.Parts.{parts_joined}
use Rattle.replay_text.specs.Text.{texts}
use Rattle.fp_replay.specs.Promises.{PrintsJoined}

pub prints_joined : PrintsJoined
prints_joined parts = ap texts (parts_joined parts).printed
