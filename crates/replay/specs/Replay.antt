-- Document 02 (iii): the replay of a recording, one line for each event.
-- Assumes nothing.
use Rattle.std.specs.Prelude.{ℕ, ◌+◌, ◌%◌, ◌^◌, Bool, true, false, List, [], ◌∷◌, nat_eq, if◌then◌else◌}
use Rattle.laws.specs.Choice.{◌and◌, ◌or◌}
use Rattle.basics.specs.Answers.{answer_number, is_taken}
use Rattle.basics.specs.declared.Answer.{Answer}
use Rattle.provider.specs.Rules.Control.{off}
use Rattle.provider.specs.Rules.Event.{Event}
use Rattle.provider.specs.declared.Device.{Device}
use Rattle.provider.specs.declared.Outcome.{Outcome}
use Rattle.recording.specs.Layout.{kind_byte}
use Rattle.recording.specs.Reading.{events}
use Rattle.recording.specs.declared.Kind.{Kind}
use Rattle.recording.specs.declared.Kind.TheVariants as kind
use Rattle.replay_events.specs.Played.{played}
use Rattle.replay_events.specs.declared.Played.{Played}
use Rattle.replay.specs.declared.Line.{Line}
use Rattle.replay.specs.declared.Replay.{Replay}
use Rattle.replay.specs.declared.Shown.{Shown}

-- no event yet, and no device
abbrev pub start : Replay
start = record { started = false; number = 0; device = off }

-- numbers are counted in 64 bits
abbrev pub one_more : ℕ → ℕ
one_more n = (n + 1) % 2 ^ 64

-- whether there is a device once an event came: "the first power-on taken" makes one
abbrev pub has_device : Bool → Kind → Answer → Bool
has_device started k a = started or (nat_eq (kind_byte k) (kind_byte kind.PowerOn) and is_taken a)

-- "its number, kind, answer and list size"; "a refused power-on later leaves the device as it was", as the event gives it back
unfoldable pub answered : ℕ → Kind → Outcome → Shown
answered n k o =
    record {
      next = record { started = true; number = n; device = o.next };
      line = record { number = n; kind = k; answer = answer_number o.reply.answer; size = o.next.keys.count };
    }

-- "Before the first power-on taken, every event, marker too, shows 14 and size 0"
unfoldable pub refused : ℕ → Kind → Device → Shown
refused n k d =
    record {
      next = record { started = false; number = n; device = d };
      line = record { number = n; kind = k; answer = 14; size = 0 };
    }

unfoldable pub shown_of : Replay → Played → Shown
shown_of r p =
    if has_device r.started p.kind p.outcome.reply.answer
    then answered (one_more r.number) p.kind p.outcome
    else refused (one_more r.number) p.kind r.device

abbrev pub shown : Replay → Event → Shown
shown r e = shown_of r (played r.device e)

-- ---- a list of events, and a recording

unfoldable pub lines_from : Replay → List Event → List Line
lines_from r [] = []
lines_from r (e ∷ es) = (shown r e).line ∷ lines_from (shown r e).next es

unfoldable pub after_events : Replay → List Event → Replay
after_events r [] = r
after_events r (e ∷ es) = after_events (shown r e).next es

-- "one line for each event"
abbrev pub lines : List ℕ → List Line
lines recording = lines_from start (events recording)
