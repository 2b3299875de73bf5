-- Document 02 (iii), docs/RECORDING.md: the record of an event, byte by byte.
-- Assumes nothing.
use Rattle.std.specs.Prelude.{Bool, List, [], ◌∷◌, ◌++◌, ℕ, length, replicate, Option, if◌then◌else◌}
use Rattle.std.specs.Option.{is_some, unwrap_or}
use Rattle.laws.specs.BigEndian.{bytes}
use Rattle.pairing.specs.Pairing.{PairingEvent, PairingStarted, ConfirmationNeeded, PasskeyWrite, PairingEnded, AccountKeyWrite, NameWrite}
use Rattle.provider.specs.Rules.Event.{Event, Overflow, PowerOn, OnDevice, OnLink, DeviceEvent, PairingMode, AddressRotated, FactoryReset, LinkEvent, LinkUp, LinkDown, KeyBasedWrite, OnSession}
use Rattle.provider.specs.declared.Start.{Start}
use Rattle.recording.specs.declared.Kind.{Kind}
use Rattle.recording.specs.declared.Kind.TheVariants as kind

-- ---- kinds

-- "a kind byte"
abbrev pub kind_byte : Kind → ℕ
kind_byte kind.Marker = 0x01
kind_byte kind.LinkUp = 0x02
kind_byte kind.LinkDown = 0x03
kind_byte kind.PairingMode = 0x04
kind_byte kind.AddressRotated = 0x05
kind_byte kind.PowerOn = 0x06
kind_byte kind.FactoryReset = 0x07
kind_byte kind.KeyBasedWrite = 0x08
kind_byte kind.PairingStarted = 0x09
kind_byte kind.ConfirmationNeeded = 0x0A
kind_byte kind.PasskeyWrite = 0x0B
kind_byte kind.PairingEnded = 0x0C
kind_byte kind.AccountKeyWrite = 0x0D
kind_byte kind.NameWrite = 0x0E

abbrev pub kind_on_device : DeviceEvent → Kind
kind_on_device (PairingMode on) = kind.PairingMode
kind_on_device (AddressRotated ble salt) = kind.AddressRotated
kind_on_device FactoryReset = kind.FactoryReset

abbrev pub kind_on_session : PairingEvent → Kind
kind_on_session (PairingStarted capability) = kind.PairingStarted
kind_on_session (ConfirmationNeeded passkey) = kind.ConfirmationNeeded
kind_on_session (PasskeyWrite block salt out) = kind.PasskeyWrite
kind_on_session (PairingEnded success) = kind.PairingEnded
kind_on_session (AccountKeyWrite block) = kind.AccountKeyWrite
kind_on_session (NameWrite packet) = kind.NameWrite

abbrev pub kind_on_link : LinkEvent → Kind
kind_on_link LinkUp = kind.LinkUp
kind_on_link LinkDown = kind.LinkDown
kind_on_link (KeyBasedWrite request element salt nonce out packet) = kind.KeyBasedWrite
kind_on_link (OnSession e) = kind_on_session e

abbrev pub kind_of : Event → Kind
kind_of Overflow = kind.Marker
kind_of (PowerOn stored name start) = kind.PowerOn
kind_of (OnDevice t e) = kind_on_device e
kind_of (OnLink l t e) = kind_on_link e

-- ---- fields; a lent output is recorded by its length

abbrev pub flag : Bool → ℕ
flag b = if b then 1 else 0

-- "If the point was rejected, 32 zero bytes stand for the secret"
abbrev pub secret_of : Option (List ℕ) → List ℕ
secret_of element = unwrap_or element (replicate 32 0)

abbrev pub element_bytes : Option (List ℕ) → List ℕ
element_bytes element = flag (is_some element) ∷ secret_of element

-- "addresses, model ID and salt"
abbrev pub start_bytes : Start → List ℕ
start_bytes s = s.ble.bytes ++ s.identity.public.bytes ++ s.identity.model ++ s.salt

abbrev pub on_device_fields : DeviceEvent → List ℕ
on_device_fields (PairingMode on) = flag on ∷ []
on_device_fields (AddressRotated ble salt) = ble.bytes ++ salt
on_device_fields FactoryReset = []

abbrev pub on_session_fields : PairingEvent → List ℕ
on_session_fields (PairingStarted capability) = capability ∷ []
on_session_fields (ConfirmationNeeded passkey) = bytes 4 passkey
on_session_fields (PasskeyWrite block salt out) = block ++ salt ++ bytes 8 (length out)
on_session_fields (PairingEnded success) = flag success ∷ []
on_session_fields (AccountKeyWrite block) = block
on_session_fields (NameWrite packet) = packet

abbrev pub on_link_fields : LinkEvent → List ℕ
on_link_fields LinkUp = []
on_link_fields LinkDown = []
on_link_fields (KeyBasedWrite request element salt nonce out packet) =
    request ++ element_bytes element ++ salt ++ nonce ++ bytes 8 (length out) ++ bytes 8 (length packet)
on_link_fields (OnSession e) = on_session_fields e

-- "then that event's fields in document 01's order and the lengths of its lent outputs"
abbrev pub fields : Event → List ℕ
fields Overflow = []
fields (PowerOn stored name start) = bytes 2 (length stored) ++ stored ++ start_bytes start ++ name
fields (OnDevice t e) = bytes 8 t ++ on_device_fields e
fields (OnLink l t e) = l ∷ bytes 8 t ++ on_link_fields e

-- ---- the record

-- what follows the length field: "one version byte, a kind byte, then that event's fields"
abbrev pub body_of : Kind → List ℕ → List ℕ
body_of k fs = 0x01 ∷ kind_byte k ∷ fs

unfoldable pub body : Event → List ℕ
body e = body_of (kind_of e) (fields e)

-- "a two-byte big-endian length"
abbrev pub framed : List ℕ → List ℕ
framed b = bytes 2 (length b) ++ b

-- "each record"
abbrev pub «record» : Event → List ℕ
«record» e = framed (body e)
