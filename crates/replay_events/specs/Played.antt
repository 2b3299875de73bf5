-- An event of a recording on a device.
-- Assumes nothing.
use Rattle.std.specs.Prelude.{Option, Some, None}
use Rattle.provider.specs.Rules.Event.{Event, Overflow, PowerOn, OnDevice, OnLink, step}
use Rattle.provider.specs.declared.Device.{Device}
use Rattle.provider.specs.declared.Outcome.{Outcome}
use Rattle.recording.specs.Layout.{kind_of}
use Rattle.replay_events.specs.declared.Played as declared

-- its kind, and the outcome
abbrev pub played : Device → Event → declared.Played
played d e = record { kind = kind_of e; outcome = (step d e).gives }

-- the outcome of what a record was read as, and None for a marker
abbrev pub outcome_of : Device → Event → Option Outcome
outcome_of d Overflow = None
outcome_of d (PowerOn stored name start) = Some (step d (PowerOn stored name start)).gives
outcome_of d (OnDevice t e) = Some (step d (OnDevice t e)).gives
outcome_of d (OnLink l t e) = Some (step d (OnLink l t e)).gives
