-- The next device of any event is valid.
-- Assumes nothing.
use mathlib.Core.Path.{◌≡◌}
use Rattle.provider.proofs.Theorems.Validity.{stays_valid}
use Rattle.provider.specs.Demands.Validity.{Valid}
use Rattle.provider.specs.Rules.Event.{Event, step}
use Rattle.provider.specs.declared.Device.{Device}
use Rattle.provider.specs.declared.Outcome.{Outcome}

pub next_valid : (d : Device) (event : Event) (o : Outcome) → Valid d → o ≡ (step d event).gives → Valid o.next
next_valid d event o v e = rw e (stays_valid d event v)
