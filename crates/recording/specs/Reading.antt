-- Document 02 (iii), docs/RECORDING.md: a recording, read by whole records; what is no record is an overflow marker.
-- Assumes nothing.
use Rattle.std.specs.Prelude.{◌≡◌, Result, MatchResult, Bool, not, List, [], ◌∷◌, ◌++◌, map, ℕ, zero, suc, ◌+◌, ◌-◌, eqb, ltb, leb, length, take, drop, get_or, replicate, Option, Some, None, if◌then◌else◌}
use Rattle.laws.specs.BigEndian.{number, number2}
use Rattle.laws.specs.Choice.{◌and◌, ◌or◌}
use Rattle.basics.specs.Bytes.{same}
use Rattle.pairing.specs.Pairing.{PairingStarted, ConfirmationNeeded, PasskeyWrite, PairingEnded, AccountKeyWrite, NameWrite}
use Rattle.provider.specs.Rules.Event.{Event, Overflow, PowerOn, OnDevice, OnLink, PairingMode, AddressRotated, FactoryReset, LinkEvent, LinkUp, LinkDown, KeyBasedWrite, OnSession}
use Rattle.provider.specs.declared.Start.{Start}
use Rattle.recording.specs.Layout.{kind_byte}
use Rattle.recording.specs.declared.Kind.{Kind}
use Rattle.recording.specs.declared.Kind.TheVariants as kind
use Rattle.recording.specs.declared.UnknownKind.{UnknownKind}
use Rattle.recording.specs.declared.reader.Next.{Next}
use Rattle.recording.specs.declared.reader.Next.TheVariants.{Record, Cut, End}

-- ---- one record: what follows its length field

-- the kind of a kind byte, among these; a marker for a byte that is none of theirs
abbrev pub kind_among : ℕ → List Kind → Kind
kind_among b [] = kind.Marker
kind_among b (k ∷ ks) = if eqb b (kind_byte k) then k else kind_among b ks

abbrev pub kinds : List Kind
kinds =
    kind.LinkUp
    ∷ kind.LinkDown
    ∷ kind.PairingMode
    ∷ kind.AddressRotated
    ∷ kind.PowerOn
    ∷ kind.FactoryReset
    ∷ kind.KeyBasedWrite
    ∷ kind.PairingStarted
    ∷ kind.ConfirmationNeeded
    ∷ kind.PasskeyWrite
    ∷ kind.PairingEnded
    ∷ kind.AccountKeyWrite
    ∷ kind.NameWrite
    ∷ []

abbrev pub kind_in : ℕ → Kind
kind_in b = kind_among b kinds

-- what the decoding of a kind byte gives: the kind whose byte it is, or an error with a byte that is no kind's
abbrev pub DecodesKind : ℕ → Result Kind UnknownKind → Type 0
DecodesKind b r = MatchResult r (λ k. kind_byte k ≡ b) (λ e. (e.0 ≡ b) × ((k : Kind) → kind_byte k ≡ b → ⊥))

-- n bytes from a place on, and the number that they stand for
abbrev pub part : ℕ → ℕ → List ℕ → List ℕ
part at n r = take n (drop at r)

abbrev pub number_at : ℕ → ℕ → List ℕ → ℕ
number_at at n r = number (part at n r)

-- a flag is 0 or 1; any other byte is "a value that no event has"
abbrev pub is_flag : ℕ → Bool
is_flag b = ltb b 2

abbrev pub zeros : ℕ → List ℕ
zeros n = replicate n 0

-- "fields of the wrong size or a value that no event has, is taken as an overflow marker"
abbrev pub or_marker : Bool → Event → Event
or_marker good e = if good then e else Overflow

-- an event on a link
abbrev pub link_event : List ℕ → LinkEvent → Event
link_event r e = OnLink (get_or r 2 0) (number_at 3 8 r) e

-- power-on: L bytes of stored list from place 4 on
abbrev pub list_length : List ℕ → ℕ
list_length r = number_at 2 2 r

abbrev pub start_at : ℕ → List ℕ → Start
start_at at r =
    record {
      identity = record { public = record { bytes = part (at + 6) 6 r }; model = part (at + 12) 3 r };
      ble = record { bytes = part at 6 r };
      salt = part (at + 15) 2 r;
    }

unfoldable pub read_power_on : List ℕ → Event
read_power_on r =
    or_marker (leb (21 + list_length r) (length r))
    (PowerOn (part 4 (list_length r) r) (drop (21 + list_length r) r) (start_at (4 + list_length r) r))

-- key-based write: 66 bytes stand behind the request. A rejected point has no secret
abbrev pub secret_if : Bool → List ℕ → Option (List ℕ)
secret_if accepted secret = if accepted then Some secret else None

abbrev pub element_at : ℕ → List ℕ → Option (List ℕ)
element_at at r = secret_if (eqb (get_or r at 0) 1) (part (at + 1) 32 r)

-- "If the point was rejected, 32 zero bytes stand for the secret"
abbrev pub is_element : Bool → List ℕ → Bool
is_element accepted secret = accepted or same secret (zeros 32)

abbrev pub is_element_at : ℕ → List ℕ → Bool
is_element_at at r = is_element (eqb (get_or r at 0) 1) (part (at + 1) 32 r)

abbrev pub key_based_fields : ℕ → List ℕ → LinkEvent
key_based_fields at r =
    KeyBasedWrite (part 11 (at - 11) r) (element_at at r) (part (at + 33) 9 r) (part (at + 42) 8 r)
    (zeros (number_at (at + 50) 8 r)) (zeros (number_at (at + 58) 8 r))

unfoldable pub read_key_based_write : List ℕ → Event
read_key_based_write r =
    or_marker
    (leb 77 (length r) and is_flag (get_or r (length r - 66) 0) and is_element_at (length r - 66) r)
    (link_event r (key_based_fields (length r - 66) r))

-- passkey write: 20 bytes stand behind the block
abbrev pub passkey_fields : ℕ → List ℕ → LinkEvent
passkey_fields at r =
    OnSession (PasskeyWrite (part 11 (at - 11) r) (part at 12 r) (zeros (number_at (at + 12) 8 r)))

unfoldable pub read_passkey_write : List ℕ → Event
read_passkey_write r = or_marker (leb 31 (length r)) (link_event r (passkey_fields (length r - 20) r))

unfoldable pub read_as : Kind → List ℕ → Event
read_as kind.Marker r = Overflow
read_as kind.LinkUp r = or_marker (eqb (length r) 11) (link_event r LinkUp)
read_as kind.LinkDown r = or_marker (eqb (length r) 11) (link_event r LinkDown)
read_as kind.PairingMode r =
    or_marker (eqb (length r) 11 and is_flag (get_or r 10 0)) (OnDevice (number_at 2 8 r) (PairingMode (eqb (get_or r 10 0) 1)))
read_as kind.AddressRotated r =
    or_marker (eqb (length r) 18)
    (OnDevice (number_at 2 8 r) (AddressRotated (record { bytes = part 10 6 r }) (part 16 2 r)))
read_as kind.PowerOn r = read_power_on r
read_as kind.FactoryReset r = or_marker (eqb (length r) 10) (OnDevice (number_at 2 8 r) FactoryReset)
read_as kind.KeyBasedWrite r = read_key_based_write r
read_as kind.PairingStarted r = or_marker (eqb (length r) 12) (link_event r (OnSession (PairingStarted (get_or r 11 0))))
read_as kind.ConfirmationNeeded r =
    or_marker (eqb (length r) 15) (link_event r (OnSession (ConfirmationNeeded (number_at 11 4 r))))
read_as kind.PasskeyWrite r = read_passkey_write r
read_as kind.PairingEnded r =
    or_marker (eqb (length r) 12 and is_flag (get_or r 11 0)) (link_event r (OnSession (PairingEnded (eqb (get_or r 11 0) 1))))
read_as kind.AccountKeyWrite r = or_marker (leb 11 (length r)) (link_event r (OnSession (AccountKeyWrite (drop 11 r))))
read_as kind.NameWrite r = or_marker (leb 11 (length r)) (link_event r (OnSession (NameWrite (drop 11 r))))

-- the kind that a record is read as: "a missing or unknown version or kind .. is taken as an overflow marker", and so is a record
-- "longer than 1,024 bytes after its length field"
unfoldable pub kind_read : List ℕ → Kind
kind_read r =
    if ltb (length r) 2 or ltb 1024 (length r) or not (eqb (get_or r 0 0) 0x01) then kind.Marker else kind_in (get_or r 1 0)

abbrev pub event_in : List ℕ → Event
event_in r = read_as (kind_read r) r

-- ---- a whole recording

-- what stands at a place of a recording: a whole record, from the first byte after its length field up to its end; a cut one; nothing
unfoldable pub next_at : List ℕ → ℕ → Next
next_at recording at =
    if leb (length recording) at then End else
    if ltb (length recording) (at + 2) then Cut else
    up_to (at + 2 + number2 (get_or recording at 0) (get_or recording (at + 1) 0))
  where
    up_to : ℕ → Next
    up_to end = if ltb (length recording) end then Cut else Record (at + 2) end

-- the place behind what stands at a place: a reader "moves by whole records", and a cut one is the last
abbrev pub behind : List ℕ → ℕ → Next → ℕ
behind recording at (Record start end) = end
behind recording at Cut = length recording
behind recording at End = at

abbrev pub place_after : List ℕ → ℕ → ℕ
place_after recording at = behind recording at (next_at recording at)

-- a recording divided: its whole records, each without its length field, and what is left behind them
pub record Division : Type 0 where
  pub whole : List (List ℕ)
  pub rest : List ℕ

abbrev pub no_record : List ℕ → Division
no_record bs = record { whole = []; rest = bs }

abbrev pub after : List ℕ → Division → Division
after r d = record { whole = r ∷ d.whole; rest = d.rest }

-- how many bytes of the record in front follow its length field; a byte that is not there counts as 0
abbrev pub size_in : List ℕ → ℕ
size_in bs = number2 (get_or bs 0 0) (get_or bs 1 0)

-- "moves by whole records"; every record takes two bytes and more, so that `fuel` of the recording's length is enough
unfoldable pub divide_within : ℕ → List ℕ → Division
divide_within zero bs = no_record bs
divide_within (suc fuel) [] = no_record []
divide_within (suc fuel) (a ∷ []) = no_record (a ∷ [])
divide_within (suc fuel) (a ∷ b ∷ bs) =
    if ltb (length bs) (number2 a b) then no_record (a ∷ b ∷ bs) else
    after (take (number2 a b) bs) (divide_within fuel (drop (number2 a b) bs))

abbrev pub divide : List ℕ → Division
divide recording = divide_within (length recording) recording

-- "A cut last record ends the replay as a marker too."
abbrev pub cut_events : List ℕ → List Event
cut_events [] = []
cut_events (b ∷ bs) = Overflow ∷ []

abbrev pub events_of : Division → List Event
events_of d = map event_in d.whole ++ cut_events d.rest

-- the events of a recording
abbrev pub events : List ℕ → List Event
events recording = events_of (divide recording)
