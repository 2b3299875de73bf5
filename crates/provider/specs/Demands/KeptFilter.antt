-- Document 02 (v), "Keep the filter instead of building it": the kept filter is the one that would be built afresh, so the payload
-- is document 01's; and which events build it.
-- Assumes nothing.
use Rattle.std.specs.Prelude.{Bool, true, false, List, ◌≡◌, ℕ}
use Rattle.laws.specs.Choice.{◌and◌}
use Rattle.account_keys.specs.Keys.{held}
use Rattle.account_keys.specs.declared.AccountKey.{AccountKey}
use Rattle.advertising.specs.Beacon.{Current}
use Rattle.advertising.specs.Payload.{payload}
use Rattle.advertising.specs.declared.Prompt.{Prompt}
use Rattle.basics.specs.Answers.{is_taken}
use Rattle.basics.specs.declared.Answer.TheVariants.{Taken}
use Rattle.provider.specs.Demands.Gap.{rules, Stores}
use Rattle.provider.specs.Demands.Validity.{Valid}
use Rattle.provider.specs.Rules.Control.{advertised}
use Rattle.provider.specs.Rules.Event.{Event, Overflow, PowerOn, OnDevice, PairingMode, AddressRotated, FactoryReset, OnLink, next, answer_of, after}
use Rattle.provider.specs.declared.Device.{Device}
use Rattle.provider.specs.declared.Start.{Start}

-- "it equals the filter built afresh from the list and salt"
abbrev pub FilterCurrent : Device → Type 0
FilterCurrent d = Current d.beacon (held d.keys)

-- "After every event", taken or refused
abbrev pub StaysCurrent : Type 0
StaysCurrent = (d : Device) (e : Event) → Valid d → FilterCurrent d → FilterCurrent (next d e)

-- document 01's payload of a device: "For each key, SHA-256 of key and salt .."
abbrev pub payload_afresh : Device → Prompt → List ℕ
payload_afresh d prompt =
    payload d.beacon.pairing d.identity.model (held d.keys) d.beacon.salt prompt

-- "rotation, eviction, reset and power-on included": whatever events follow a taken power-on, the filter is the one built afresh,
-- and "Payload bytes stay those of document 01"
abbrev pub FilterKept : Type 0
FilterKept =
    (d : Device) (stored name : List ℕ) (start : Start) → answer_of d (PowerOn stored name start) ≡ Taken
    → (es : List Event)
    → FilterCurrent (after (next d (PowerOn stored name start)) es)
    × ((prompt : Prompt) → advertised (after (next d (PowerOn stored name start)) es) prompt
    ≡ payload_afresh (after (next d (PowerOn stored name start)) es) prompt)

-- ---- what builds the filter

-- what gives the device another salt or another list
abbrev pub rebuilds : Event → Bool
rebuilds Overflow = false
rebuilds (PowerOn stored name start) = true
rebuilds (OnDevice t (PairingMode on)) = false
rebuilds (OnDevice t (AddressRotated ble salt)) = true
rebuilds (OnDevice t FactoryReset) = true
rebuilds (OnLink l t e) = false

-- "A change of order alone changes none of its bytes": unless one of these is taken or a key is stored, the bytes stay, whatever
-- they are
abbrev pub FilterUntouched : Type 0
FilterUntouched =
    (d : Device) (e : Event) → Valid d → (rebuilds e and is_taken (answer_of d e)) ≡ false
    → ((k : AccountKey) → Stores rules d e k → ⊥) → (next d e).beacon.filter ≡ d.beacon.filter
