-- A replay's device is valid, whatever is read.
-- Assumes nothing.
use Rattle.std.proofs.Common.{Bool, true, false}
use Rattle.std.specs.Prelude.{if◌then◌else◌}
use Rattle.provider.proofs.Theorems.Validity.{stays_valid}
use Rattle.provider.proofs.Theorems.ValidParts.{off_valid}
use Rattle.provider.specs.Demands.Validity.{Valid}
use Rattle.provider.specs.Rules.Event.{step}
use Rattle.recording.specs.Layout.{kind_of}
use Rattle.replay.specs.Promises.{ShowsValid}
use Rattle.replay.specs.Replay.{start, one_more, has_device, shown_of, answered, refused}

pub start_valid : Valid start.device
start_valid = off_valid

pub shows_valid : ShowsValid
unfolding shown_of answered refused
shows_valid r e v = by-test (has_device r.started (kind_of e) (step r.device e).gives.reply.answer)
  where
    by-test : (b : Bool)
        → Valid (if b then answered (one_more r.number) (kind_of e) (step r.device e).gives
        else refused (one_more r.number) (kind_of e) r.device).next.device
    by-test true = stays_valid r.device e v
    by-test false = v
