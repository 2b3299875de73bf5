-- The kind decides which event the record is.
use Rattle.recording.specs.Reading.{read_as}
use Rattle.replay_events.proofs.outcome.Goals as goal

pub returns-in-Marker : goal.returns-in-Marker
unfolding read_as
returns-in-Marker c = rw c.in-Marker.is

pub returns-in-PowerOn : goal.returns-in-PowerOn
unfolding read_as
returns-in-PowerOn c = rw c.in-PowerOn.is c.power_on.ensures

pub returns-in-KeyBasedWrite : goal.returns-in-KeyBasedWrite
unfolding read_as
returns-in-KeyBasedWrite c = rw c.in-KeyBasedWrite.is c.key_based_write.ensures

pub returns-in-PasskeyWrite : goal.returns-in-PasskeyWrite
unfolding read_as
returns-in-PasskeyWrite c = rw c.in-PasskeyWrite.is c.passkey_write.ensures
