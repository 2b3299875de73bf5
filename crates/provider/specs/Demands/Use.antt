-- Document 02 (ii), "A use is being stored, being written again, or being the key of an accepted 16-byte request; the key moves to the
-- end": what changes the list, which key a request uses, that the order is that of use, who is evicted, and that
-- the order shows in no payload.
-- Assumes nothing.
use Rattle.std.specs.Prelude.{Bool, true, false, List, [], ◌∷◌, ◌⊎◌, ◌≡◌, ℕ, ◌-◌, length, get_or, Option}
use Rattle.laws.specs.Choice.{◌and◌, ◌or◌}
use Rattle.account_keys.specs.Keys.{limit, zero_key, held, kept, member, used}
use Rattle.account_keys.specs.Promises.{stands_before}
use Rattle.account_keys.specs.declared.AccountKey.{AccountKey}
use Rattle.advertising.specs.declared.Prompt.{Prompt}
use Rattle.basics.specs.Answers.{is_taken}
use Rattle.basics.specs.Bytes.{same}
use Rattle.basics.specs.declared.Answer.TheVariants.{Taken}
use Rattle.key_based.specs.Decision.{uses_key}
use Rattle.pairing.specs.Pairing.{is_account_key_write, written_key}
use Rattle.provider.specs.Demands.Gap.{rules, Stores}
use Rattle.provider.specs.Demands.Names.{session_then}
use Rattle.provider.specs.Demands.Validity.{Valid}
use Rattle.provider.specs.Rules.Control.{advertised}
use Rattle.provider.specs.Rules.Device.{Effect}
use Rattle.provider.specs.Rules.Event.{Event, Overflow, PowerOn, OnDevice, PairingMode, AddressRotated, FactoryReset, OnLink, LinkEvent, LinkUp, LinkDown, KeyBasedWrite, OnSession, step, next, answer_of, after}
use Rattle.provider.specs.declared.Device.{Device}
use Rattle.sessions.specs.Sessions.{session_at}

-- ---- what changes the list

-- what makes the list anew
abbrev pub restarts : Event → Bool
restarts Overflow = false
restarts (PowerOn stored name start) = true
restarts (OnDevice t (PairingMode on)) = false
restarts (OnDevice t (AddressRotated ble salt)) = false
restarts (OnDevice t FactoryReset) = true
restarts (OnLink l t e) = false

-- what uses a key, if it is taken: a request of 16 bytes, an account key write
abbrev pub may_use : Event → Bool
may_use Overflow = false
may_use (PowerOn stored name start) = false
may_use (OnDevice t e) = false
may_use (OnLink l t LinkUp) = false
may_use (OnLink l t LinkDown) = false
may_use (OnLink l t (KeyBasedWrite request element salt nonce out packet)) = uses_key request
may_use (OnLink l t (OnSession e)) = is_account_key_write e

-- nothing else changes it, not even its order, and neither does one of these that is refused
abbrev pub KeysKept : Type 0
KeysKept =
    (d : Device) (e : Event) → ((restarts e or may_use e) and is_taken (answer_of d e)) ≡ false → (next d e).keys ≡ d.keys

-- ---- the key that an accepted request uses

-- the key at the place that the answer tells, of the list as it stood before
abbrev pub told_key : Device → Effect → AccountKey
told_key d x = get_or (held d.keys) (x.gives.reply.tried - 1) zero_key

-- an event on link l uses the key at the told place: it is held, it is K now, and it moves to the end
pub record UsesToldKey (d : Device) (l : ℕ) (x : Effect) : Type 0 where
  pub was_held : member (held d.keys) (told_key d x) ≡ true
  pub is_k : (session_at x.gives.next.sessions l).key ≡ (told_key d x).bytes
  pub moves : x.gives.next.keys ≡ kept (used (held d.keys) (told_key d x))

abbrev pub RequestUsesToldKey : Type 0
RequestUsesToldKey =
    (d : Device) (l t : ℕ) (request : List ℕ) (element : Option (List ℕ)) (salt nonce out packet : List ℕ) → Valid d
    → uses_key request ≡ true
    → answer_of d (OnLink l t (KeyBasedWrite request element salt nonce out packet)) ≡ Taken
    → UsesToldKey d l (step d (OnLink l t (KeyBasedWrite request element salt nonce out packet)))

-- ---- the order of use, over whole runs

-- the key that an event uses
abbrev pub key_of : Device → Event → AccountKey
key_of d Overflow = zero_key
key_of d (PowerOn stored name start) = zero_key
key_of d (OnDevice t e) = zero_key
key_of d (OnLink l t LinkUp) = zero_key
key_of d (OnLink l t LinkDown) = zero_key
key_of d (OnLink l t (KeyBasedWrite request element salt nonce out packet)) =
    told_key d (step d (OnLink l t (KeyBasedWrite request element salt nonce out packet)))
key_of d (OnLink l t (OnSession e)) = written_key e (session_then d l t)

-- event e uses key k
abbrev pub Uses : Device → Event → AccountKey → Type 0
Uses d e k = (may_use e ≡ true) × (is_taken (answer_of d e) ≡ true) × (key_of d e ≡ k)

-- one of the events that follow uses it
abbrev pub UsedAmong : Device → List Event → AccountKey → Type 0
UsedAmong d [] k = ⊥
UsedAmong d (e ∷ es) k = Uses d e k ⊎ UsedAmong (next d e) es k

-- none of them makes the list anew
abbrev pub NoRestart : Device → List Event → Type 0
NoRestart d [] = Unit
NoRestart d (e ∷ es) = ((restarts e and is_taken (answer_of d e)) ≡ false) × NoRestart (next d e) es

-- the order changes by uses alone: whatever stands behind a key later stood there before, or was used since
abbrev pub OrderKept : Type 0
OrderKept =
    (es : List Event) (d : Device) (a b : AccountKey) → Valid d → NoRestart d es
    → stands_before (held (after d es).keys) a b ≡ true
    → (stands_before (held d.keys) a b ≡ true) ⊎ UsedAmong d es b

-- "The list order becomes order of use": whatever stands behind a key that was used has been used after it
abbrev pub OrderOfUse : Type 0
OrderOfUse =
    (d : Device) (e : Event) (es : List Event) (a b : AccountKey) → Valid d → Uses d e a → NoRestart (next d e) es
    → stands_before (held (after (next d e) es).keys) a b ≡ true
    → UsedAmong (next d e) es b

-- event e evicts key a: it was held and no longer is, though the list was not made anew
pub record Evicts (d : Device) (e : Event) (a : AccountKey) : Type 0 where
  pub goes_on : (restarts e and is_taken (answer_of d e)) ≡ false
  pub was_held : member (held d.keys) a ≡ true
  pub is_gone : member (held (next d e).keys) a ≡ false

-- key a stands before all others in a full list
pub record FirstOfFull (l : List AccountKey) (a : AccountKey) : Type 0 where
  pub full : length l ≡ limit
  pub first : (b : AccountKey) → member l b ≡ true → same a.bytes b.bytes ≡ false → stands_before l a b ≡ true

-- only such a key is evicted
abbrev pub EvictsFirst : Type 0
EvictsFirst = (d : Device) (e : Event) (a : AccountKey) → Valid d → Evicts d e a → FirstOfFull (held d.keys) a

-- and so the "least recently used": every other owner was used after it
abbrev pub EvictsLeastRecentlyUsed : Type 0
EvictsLeastRecentlyUsed =
    (d : Device) (e : Event) (es : List Event) (f : Event) (a b : AccountKey) → Valid d → Uses d e a → NoRestart (next d e) es
    → Evicts (after (next d e) es) f a
    → member (held (after (next d e) es).keys) b ≡ true
    → same a.bytes b.bytes ≡ false
    → UsedAmong (next d e) es b

-- ---- the payload

-- an event on a link that stores no key changes no byte of the payload
abbrev pub OrderNotAdvertised : Type 0
OrderNotAdvertised =
    (d : Device) (l t : ℕ) (e : LinkEvent) (prompt : Prompt) → Valid d
    → ((k : AccountKey) → Stores rules d (OnLink l t e) k → ⊥)
    → advertised (next d (OnLink l t e)) prompt ≡ advertised d prompt

-- so of every request, accepted or refused
abbrev pub RequestKeepsPayload : Type 0
RequestKeepsPayload =
    (d : Device) (l t : ℕ) (request : List ℕ) (element : Option (List ℕ)) (salt nonce out packet : List ℕ) (prompt : Prompt) → Valid d
    → advertised (next d (OnLink l t (KeyBasedWrite request element salt nonce out packet))) prompt ≡ advertised d prompt
