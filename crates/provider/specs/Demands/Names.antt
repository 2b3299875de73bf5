-- Document 02 (i): what changes the name, and "A sent packet that comes back unchanged under the same K must read as the name sent."
-- Assumes nothing.
use Rattle.std.specs.Prelude.{Bool, true, false, List, [], ◌≡◌, ℕ, ◌+◌, ◌≤◌, ◌<◌, length, take, get_or, Option}
use Rattle.laws.specs.Choice.{◌and◌}
use Rattle.additional_data.specs.Packet.{sealed}
use Rattle.basics.specs.Answers.{is_taken}
use Rattle.basics.specs.declared.Answer.TheVariants.{Taken}
use Rattle.names.specs.Name.{is_name, name_of}
use Rattle.pairing.specs.Pairing.{NameWrite}
use Rattle.provider.specs.Demands.Gap.{writes_name}
use Rattle.provider.specs.Demands.Validity.{Valid}
use Rattle.provider.specs.Rules.Device.{Effect, takes, with_name, clock_step}
use Rattle.provider.specs.Rules.Event.{Event, Overflow, PowerOn, OnDevice, PairingMode, AddressRotated, FactoryReset, OnLink, KeyBasedWrite, OnSession, step, next, answer_of}
use Rattle.provider.specs.declared.Device.{Device}
use Rattle.sessions.specs.Sessions.{is_stage, session_at}
use Rattle.sessions.specs.declared.Session.{Session}
use Rattle.sessions.specs.declared.Stage.TheVariants.{Idle, Paired}

-- "given at power-on .. and emptied by factory reset", and taken from a name write
abbrev pub sets_name : Event → Bool
sets_name Overflow = false
sets_name (PowerOn stored name start) = true
sets_name (OnDevice t (PairingMode on)) = false
sets_name (OnDevice t (AddressRotated ble salt)) = false
sets_name (OnDevice t FactoryReset) = true
sets_name (OnLink l t e) = writes_name (OnLink l t e)

-- nothing else changes it, and neither does one of these that is refused: "old name kept"
abbrev pub NameKept : Type 0
NameKept = (d : Device) (e : Event) → (sets_name e and is_taken (answer_of d e)) ≡ false → (next d e).name ≡ d.name

-- the write of a packet on link l at moment u
abbrev pub name_written : ℕ → ℕ → List ℕ → Event
name_written l u packet = OnLink l u (OnSession (NameWrite packet))

-- link l at moment u, once its timer was looked at
abbrev pub session_then : Device → ℕ → ℕ → Session
session_then d l u = session_at (clock_step u d).sessions l

-- the packet of a name under the K of a link from asked to proved: the write gets 0 and makes it the name, beside the clock step
abbrev pub PacketReads : Type 0
PacketReads =
    (d : Device) (l u : ℕ) (nonce text : List ℕ) → l ≤ 7 → d.clock.0 ≤ u → length nonce ≡ 8 → is_name text ≡ true
    → is_stage (session_then d l u).stage Idle ≡ false → is_stage (session_then d l u).stage Paired ≡ false
    → step d (name_written l u (sealed (session_then d l u).key nonce text)) ≡ takes (with_name (clock_step u d) (name_of text))

-- the packet that an event sent, at the front of its second output
abbrev pub sent_by : Effect → List ℕ
sent_by x = take x.gives.reply.packet (get_or x.leaves 1 [])

-- a packet that event e sent is written on link l at moment u, right after it: it gets 0 and leaves all but the clock step
abbrev pub ComesBack : Device → Event → ℕ → ℕ → Type 0
ComesBack d e l u = step (next d e) (name_written l u (sent_by (step d e))) ≡ takes (clock_step u (next d e))

-- so of every accepted request with 0x20, in time
abbrev pub PacketComesBack : Type 0
PacketComesBack =
    (d : Device) (l t u : ℕ) (request : List ℕ) (element : Option (List ℕ)) (salt nonce out packet : List ℕ) → Valid d
    → length nonce ≡ 8
    → answer_of d (OnLink l t (KeyBasedWrite request element salt nonce out packet)) ≡ Taken
    → 0 < (step d (OnLink l t (KeyBasedWrite request element salt nonce out packet))).gives.reply.packet
    → t ≤ u → u < t + 10000
    → ComesBack d (OnLink l t (KeyBasedWrite request element salt nonce out packet)) l u
