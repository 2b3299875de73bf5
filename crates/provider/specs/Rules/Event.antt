-- Document 01, "The two runs of demand 3": the kinds of event by their shape, with the name write of document 02 (i), one step and whole runs.
-- Assumes nothing.
use Rattle.std.specs.Prelude.{Bool, not, List, [], ◌∷◌, ℕ, ltb, length, if◌then◌else◌, Result, Ok, Err, Option}
use Rattle.account_keys.specs.Keys.{held}
use Rattle.additional_data.specs.Packet.{packet_sized}
use Rattle.advertising.specs.Beacon.{refreshed}
use Rattle.basics.specs.declared.Address.{Address}
use Rattle.basics.specs.declared.Answer.{Answer}
use Rattle.basics.specs.declared.Answer.TheVariants.{WrongLength, PasskeyTooLarge, OutputTooShort}
use Rattle.key_based.specs.Decision.{decided, used_in, request_outputs, packet_length}
use Rattle.key_based.specs.Named.{asks_rotation}
use Rattle.key_based.specs.Request.{sized}
use Rattle.key_based.specs.declared.Context.{Context}
use Rattle.key_based.specs.declared.Decision.{Decision}
use Rattle.pairing.specs.Pairing.{PairingEvent, PairingStarted, ConfirmationNeeded, PasskeyWrite, PairingEnded, AccountKeyWrite, NameWrite, session_step, stored_in, adds_to, renamed_in}
use Rattle.pairing.specs.Pairing as pairing
use Rattle.pairing.specs.declared.SessionOutcome.{SessionOutcome}
use Rattle.provider.specs.Rules.Control.{overflow, pairing_mode, address_rotated, factory_reset, power_on}
use Rattle.provider.specs.Rules.Device.{Effect, reply_of, takes, in_time, on_known_link, after_checks, with_keys, with_guard, with_wait, with_beacon, with_name, with_link, drop_at}
use Rattle.provider.specs.declared.Device.{Device}
use Rattle.provider.specs.declared.Outcome.{Outcome}
use Rattle.provider.specs.declared.Start.{Start}
use Rattle.request_guard.specs.Wait.{wait_after}
use Rattle.sessions.specs.Sessions.{session_at}

-- ---- the kinds of event; a lent output is the list of its bytes beforehand

-- what happens to the whole device
pub data DeviceEvent : Type 0 where
  PairingMode : (on : Bool) → DeviceEvent
  AddressRotated : (ble : Address) (salt : List ℕ) → DeviceEvent
  FactoryReset : DeviceEvent

-- what happens on one link; `OnSession` is a pairing, passkey or account key event, or a name write
pub data LinkEvent : Type 0 where
  LinkUp : LinkEvent
  LinkDown : LinkEvent
  KeyBasedWrite : (request : List ℕ) (element : Option (List ℕ)) (salt nonce out packet : List ℕ) → LinkEvent
  OnSession : PairingEvent → LinkEvent

-- "Every event except the overflow marker and power-on carries a clock": t; a link is l
pub data Event : Type 0 where
  Overflow : Event
  PowerOn : (stored name : List ℕ) (start : Start) → Event
  OnDevice : (t : ℕ) → DeviceEvent → Event
  OnLink : (l t : ℕ) → LinkEvent → Event

-- the lent outputs as they were beforehand
abbrev pub lent_on_link : LinkEvent → List (List ℕ)
lent_on_link LinkUp = []
lent_on_link LinkDown = []
lent_on_link (KeyBasedWrite request element salt nonce out packet) = out ∷ packet ∷ []
lent_on_link (OnSession e) = pairing.lent e

abbrev pub lent : Event → List (List ℕ)
lent Overflow = []
lent (PowerOn stored name start) = []
lent (OnDevice t e) = []
lent (OnLink l t e) = lent_on_link e

-- ---- the rules

-- what happens to the whole device, after the clock step
abbrev pub on_device : DeviceEvent → Device → Device
on_device (PairingMode on) d = pairing_mode on d
on_device (AddressRotated ble salt) d = address_rotated ble salt d
on_device FactoryReset d = factory_reset d

-- 13, "lent output too short": "it needs 16 bytes, asked even where none will be written"
abbrev pub response_room : ℕ → Result Unit Answer
response_room n = if ltb n 16 then Err OutputTooShort else Ok tt

-- 3, "our passkey above 999,999"
abbrev pub passkey_range : ℕ → Result Unit Answer
passkey_range passkey = if ltb 999999 passkey then Err PasskeyTooLarge else Ok tt

-- document 02 (i): "a second output, which needs 80 bytes in every key-based write, else 13"
abbrev pub outputs_room : ℕ → ℕ → Result Unit Answer
outputs_room n m = if ltb m 80 then Err OutputTooShort else response_room n

-- 2, "key-based write not 16 or 80 bytes", before 13
abbrev pub request_size : List ℕ → ℕ → ℕ → Result Unit Answer
request_size request n m = if not (sized request) then Err WrongLength else outputs_room n m

-- 2, "Any size but 16 to 80 gets 2" in a name write
abbrev pub name_size : List ℕ → Result Unit Answer
name_size packet = if not (packet_sized packet) then Err WrongLength else Ok tt

-- the checks 2, 3 and 13 of an event, which need no device: the refusal, if they do not pass
abbrev pub early_on_session : PairingEvent → Result Unit Answer
early_on_session (PairingStarted capability) = Ok tt
early_on_session (ConfirmationNeeded passkey) = passkey_range passkey
early_on_session (PasskeyWrite block salt out) = response_room (length out)
early_on_session (PairingEnded success) = Ok tt
early_on_session (AccountKeyWrite block) = Ok tt
early_on_session (NameWrite packet) = name_size packet

abbrev pub early : LinkEvent → Result Unit Answer
early LinkUp = Ok tt
early LinkDown = Ok tt
early (KeyBasedWrite request element salt nonce out packet) = request_size request (length out) (length packet)
early (OnSession e) = early_on_session e

-- what a request is decided by
abbrev pub context_of : Device → Context
context_of d =
    record {
      ble = d.beacon.ble;
      public = d.identity.public;
      pairing = d.beacon.pairing;
      keys = d.keys;
      guard = d.guard;
      wait = d.wait;
      name = d.name;
    }

-- the keys with the one that a request uses at the end
abbrev pub with_used : Device → Decision → Device
with_used d r = with_keys d (used_in r.uses r.session.key d.keys)

-- the device after a request that was decided so; it waits if the request "named the BLE address"
abbrev pub requested : Device → ℕ → Decision → Outcome
requested d l r =
    record {
      next = with_link (with_wait (with_guard (with_used d r) r.guard) (wait_after (asks_rotation r.named) d.wait)) l r.session;
      reply = record (reply_of r.answer) {
        tried = r.tried;
        named = r.named;
        bond = r.bond;
        packet = packet_length r.sends d.name;
      };
    }

-- the keys with the one that an event stores; document 02 (v): the filter is built afresh if it is a new one, which may evict another
abbrev pub with_stored : Device → SessionOutcome → Device
with_stored d a =
    with_beacon (with_keys d (stored_in a d.keys))
    (refreshed d.beacon (adds_to a d.keys) (held (stored_in a d.keys)))

-- and with what an event made of its session
abbrev pub applied : Device → ℕ → SessionOutcome → Outcome
applied d l a =
    record {
      next = with_link (with_name (with_stored d a) (renamed_in a d.name)) l a.session;
      reply = record (reply_of a.answer) { confirm = a.confirm };
    }

-- what happens on link l at moment t, after the clock step
abbrev pub on_link : LinkEvent → Device → ℕ → ℕ → Effect
-- "Link up, link down. Both drop that link's K, also when repeated."
on_link LinkUp d l t = takes (drop_at d l)
on_link LinkDown d l t = takes (drop_at d l)
on_link (KeyBasedWrite request element salt nonce out packet) d l t =
    record {
      gives = requested d l (decided (context_of d) (session_at d.sessions l) t element request);
      leaves = request_outputs (context_of d) (session_at d.sessions l) t element request salt nonce out packet;
    }
on_link (OnSession e) d l t =
    record {
      gives = applied d l (session_step e t (session_at d.sessions l));
      leaves = pairing.leaves e t (session_at d.sessions l);
    }

-- what an event does to a device
abbrev pub step : Device → Event → Effect
step d Overflow = overflow d
step d (PowerOn stored name start) = power_on d stored name start
step d (OnDevice t e) = after_checks (in_time d t) [] (λ d'. takes (on_device e d'))
step d (OnLink l t e) = after_checks (on_known_link d l t (early e)) (lent_on_link e) (λ d'. on_link e d' l t)

-- the device after an event
abbrev pub next : Device → Event → Device
next d e = (step d e).gives.next

abbrev pub answer_of : Device → Event → Answer
answer_of d e = (step d e).gives.reply.answer

-- "Each event gets the state that the last one gave back"
unfoldable pub after : Device → List Event → Device
after d [] = d
after d (e ∷ es) = after (next d e) es
