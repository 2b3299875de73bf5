-- What every device has that came from power-on or an event, and demand 2's sentence about its stored list.
-- Assumes nothing.
use Rattle.std.specs.Prelude.{true, List, ◌≡◌, ℕ, length, Some}
use Rattle.laws.specs.Lists.{All}
use Rattle.account_keys.specs.Keys as keys
use Rattle.account_keys.specs.StoredList.{reading, writing}
use Rattle.basics.specs.declared.Answer.TheVariants.{Taken}
use Rattle.names.specs.Name as names
use Rattle.provider.specs.Rules.Event.{Event, PowerOn, next, answer_of}
use Rattle.provider.specs.declared.Device.{Device}
use Rattle.provider.specs.declared.Start.{Start}
use Rattle.request_guard.specs.Guard as guard
use Rattle.request_guard.specs.Wait.{uncounted}
use Rattle.sessions.specs.Sessions.{link_count, Canonical}

pub record Valid (d : Device) : Type 0 where
  pub keys : keys.Valid d.keys
  pub links : length d.sessions.links ≡ link_count
  pub sessions : All Canonical d.sessions.links
  pub guard : guard.Valid d.guard
  pub wait : uncounted d.wait d.guard ≡ true
  pub name : names.Valid d.name

-- every event keeps it
abbrev pub StaysValid : Type 0
StaysValid = (d : Device) (e : Event) → Valid d → Valid (next d e)

-- a taken power-on makes it
abbrev pub StartsValid : Type 0
StartsValid =
    (d : Device) (stored name : List ℕ) (start : Start) → answer_of d (PowerOn stored name start) ≡ Taken
    → Valid (next d (PowerOn stored name start))

-- the stored list written out
abbrev pub written : Device → List ℕ
written d = writing (keys.held d.keys)

-- "The stored list reads back as it was written."
abbrev pub StoredListReadsBack : Type 0
StoredListReadsBack =
    (d : Device) → Valid d → reading (written d) ≡ Some d.keys
