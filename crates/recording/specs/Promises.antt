-- What is promised of recordings.
-- Assumes nothing.
use Rattle.std.specs.Prelude.{List, [], ◌∷◌, ◌++◌, map, ◌≡◌, ◌⊎◌, ℕ, ◌<◌, ◌≤◌, ◌^◌, length, IfSome}
use Rattle.laws.specs.Lists.{All}
use Rattle.pairing.specs.Pairing.{PairingEvent, PairingStarted, ConfirmationNeeded, PasskeyWrite, PairingEnded, AccountKeyWrite, NameWrite}
use Rattle.provider.specs.Rules.Event.{Event, Overflow, PowerOn, OnDevice, OnLink, DeviceEvent, PairingMode, AddressRotated, FactoryReset, LinkEvent, LinkUp, LinkDown, KeyBasedWrite, OnSession}
use Rattle.provider.specs.declared.Start.{Start}
use Rattle.recording.specs.Layout.{body, framed, «record»}
use Rattle.recording.specs.Reading.{zeros, event_in, divide, events}

-- ---- events as code hands them over: every field has its size

abbrev pub IsByte : ℕ → Type 0
IsByte b = b < 2 ^ 8

abbrev pub FitsStart : Start → Type 0
FitsStart s =
    (length s.ble.bytes ≡ 6)
    × (length s.identity.public.bytes ≡ 6)
    × (length s.identity.model ≡ 3)
    × (length s.salt ≡ 2)

abbrev pub FitsOnDevice : DeviceEvent → Type 0
FitsOnDevice (PairingMode on) = Unit
FitsOnDevice (AddressRotated ble salt) = (length ble.bytes ≡ 6) × (length salt ≡ 2)
FitsOnDevice FactoryReset = Unit

abbrev pub FitsOnSession : PairingEvent → Type 0
FitsOnSession (PairingStarted capability) = Unit
FitsOnSession (ConfirmationNeeded passkey) = passkey < 2 ^ 32
FitsOnSession (PasskeyWrite block salt out) = (length salt ≡ 12) × (length out < 2 ^ 64)
FitsOnSession (PairingEnded success) = Unit
FitsOnSession (AccountKeyWrite block) = Unit
FitsOnSession (NameWrite packet) = Unit

abbrev pub FitsOnLink : LinkEvent → Type 0
FitsOnLink LinkUp = Unit
FitsOnLink LinkDown = Unit
FitsOnLink (KeyBasedWrite request element salt nonce out packet) =
    IfSome element (λ secret. length secret ≡ 32)
    × (length salt ≡ 9)
    × (length nonce ≡ 8)
    × (length out < 2 ^ 64)
    × (length packet < 2 ^ 64)
FitsOnLink (OnSession e) = FitsOnSession e

abbrev pub Fits : Event → Type 0
Fits Overflow = Unit
Fits (PowerOn stored name start) = FitsStart start
Fits (OnDevice t e) = (t < 2 ^ 64) × FitsOnDevice e
Fits (OnLink l t e) = (t < 2 ^ 64) × FitsOnLink e

-- ---- what a record keeps of an event: of a lent output its length

abbrev pub kept_on_session : PairingEvent → PairingEvent
kept_on_session (PairingStarted capability) = PairingStarted capability
kept_on_session (ConfirmationNeeded passkey) = ConfirmationNeeded passkey
kept_on_session (PasskeyWrite block salt out) = PasskeyWrite block salt (zeros (length out))
kept_on_session (PairingEnded success) = PairingEnded success
kept_on_session (AccountKeyWrite block) = AccountKeyWrite block
kept_on_session (NameWrite packet) = NameWrite packet

abbrev pub kept_on_link : LinkEvent → LinkEvent
kept_on_link LinkUp = LinkUp
kept_on_link LinkDown = LinkDown
kept_on_link (KeyBasedWrite request element salt nonce out packet) =
    KeyBasedWrite request element salt nonce (zeros (length out)) (zeros (length packet))
kept_on_link (OnSession e) = OnSession (kept_on_session e)

abbrev pub kept : Event → Event
kept Overflow = Overflow
kept (PowerOn stored name start) = PowerOn stored name start
kept (OnDevice t e) = OnDevice t e
kept (OnLink l t e) = OnLink l t (kept_on_link e)

-- ---- promises

-- an event that the writer took
pub record Recorded (e : Event) : Type 0 where
  pub sized : Fits e
  pub short : length (body e) ≤ 1024

-- reading a record gives the event that was written
abbrev pub RecordReads : Type 0
RecordReads = (e : Event) → Recorded e → event_in (body e) ≡ kept e

-- and only such bytes are read as that event; all others are markers
abbrev pub OnlyRecordsRead : Type 0
OnlyRecordsRead = (r : List ℕ) → All IsByte r → (event_in r ≡ Overflow) ⊎ (body (event_in r) ≡ r)

-- records one after the other
abbrev pub joined : List (List ℕ) → List ℕ
joined [] = []
joined (r ∷ rs) = framed r ++ joined rs

-- every recording is its whole records and what is left behind them, to its last byte
abbrev pub ReadToEnd : Type 0
ReadToEnd = (bs : List ℕ) → All IsByte bs → joined (divide bs).whole ++ (divide bs).rest ≡ bs

-- what is left is one record that is not whole: the longest has 65,535 bytes after its length field
abbrev pub RestShort : Type 0
RestShort = (bs : List ℕ) → All IsByte bs → length (divide bs).rest ≤ 65536

-- the records of a list of events, as the writer leaves them
abbrev pub records_of : List Event → List ℕ
records_of [] = []
records_of (e ∷ es) = «record» e ++ records_of es

-- a recording whose last record is whole, and more behind it
abbrev pub ReadOn : Type 0
ReadOn = (before more : List ℕ) → (divide before).rest ≡ [] → events (before ++ more) ≡ events before ++ events more

-- what the writer took reads as the events that it took
abbrev pub RecordsRead : Type 0
RecordsRead =
    (es : List Event) → All Recorded es → ((divide (records_of es)).rest ≡ []) × (events (records_of es) ≡ map kept es)
