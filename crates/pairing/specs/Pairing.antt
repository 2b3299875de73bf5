-- Document 01: pairing started, confirmation needed, passkey write, pairing ended, account key write; document 02 (i): name write.
-- Each is a function of the link's session alone.
-- Assumes nothing.
use Rattle.std.specs.Prelude.{Bool, true, false, not, List, [], ◌∷◌, ◌++◌, ℕ, eqb, ltb, length, drop, get_or, Option, Some, None, if◌then◌else◌}
use Rattle.laws.specs.BigEndian.{bytes, number3}
use Rattle.laws.specs.Choice.{◌or◌}
use Rattle.account_keys.specs.Keys.{held, kept, member, stored, zero_key}
use Rattle.account_keys.specs.declared.AccountKey.{AccountKey}
use Rattle.account_keys.specs.declared.AccountKeys.{AccountKeys}
use Rattle.additional_data.specs.Packet.{opened}
use Rattle.aes128.specs.Cipher.{cipher, inv_cipher}
use Rattle.basics.specs.Answers.{is_taken}
use Rattle.basics.specs.declared.Answer.{Answer}
use Rattle.basics.specs.declared.Answer.TheVariants.{Taken, LinkIdle, WrongStage, CapabilityRefused, BadBlock, NameRefused}
use Rattle.names.specs.declared.Name.{Name}
use Rattle.pairing.specs.declared.SessionOutcome.{SessionOutcome}
use Rattle.pairing.specs.declared.Confirm.{Confirm}
use Rattle.pairing.specs.declared.Confirm.TheVariants.{Yes, No}
use Rattle.sessions.specs.Sessions.{idle, is_stage, becomes}
use Rattle.sessions.specs.declared.Session.{Session}
use Rattle.sessions.specs.declared.Stage.{Stage}
use Rattle.sessions.specs.declared.Stage.TheVariants.{Idle, Asked, Pairing, Confirming, Proved, Paired}

-- "pairing, passkey and account key events" and the name write, with their fields; a lent output is the list of its bytes beforehand
pub data PairingEvent : Type 0 where
  PairingStarted : (capability : ℕ) → PairingEvent
  ConfirmationNeeded : (passkey : ℕ) → PairingEvent
  PasskeyWrite : (block salt out : List ℕ) → PairingEvent
  PairingEnded : (success : Bool) → PairingEvent
  AccountKeyWrite : (block : List ℕ) → PairingEvent
  NameWrite : (packet : List ℕ) → PairingEvent

abbrev pub is_account_key_write : PairingEvent → Bool
is_account_key_write (PairingStarted capability) = false
is_account_key_write (ConfirmationNeeded passkey) = false
is_account_key_write (PasskeyWrite block salt out) = false
is_account_key_write (PairingEnded success) = false
is_account_key_write (AccountKeyWrite block) = true
is_account_key_write (NameWrite packet) = false

abbrev pub is_name_write : PairingEvent → Bool
is_name_write (PairingStarted capability) = false
is_name_write (ConfirmationNeeded passkey) = false
is_name_write (PasskeyWrite block salt out) = false
is_name_write (PairingEnded success) = false
is_name_write (AccountKeyWrite block) = false
is_name_write (NameWrite packet) = true

-- ---- what an event makes of a session

-- an answer that confirms, stores and renames nothing, and the next session
abbrev pub answered : Answer → Session → SessionOutcome
answered a s =
    record {
      answer = a;
      confirm = None;
      session = s;
      key = None;
      name = None;
    }

-- "taken", with a word on the passkey
abbrev pub confirmed : Confirm → Session → SessionOutcome
confirmed c s =
    record {
      answer = Taken;
      confirm = Some c;
      session = s;
      key = None;
      name = None;
    }

-- "its K dropped"
abbrev pub dropped : Answer → SessionOutcome
dropped a = answered a idle

-- answers 9, "on an idle link", and 10, "link's stage is not the one this event needs"
unfoldable pub in_stage : Stage → (Session → SessionOutcome) → Session → SessionOutcome
in_stage needed rule s =
    if is_stage s.stage Idle then answered LinkIdle s else
    if not (is_stage s.stage needed) then dropped WrongStage else
    rule s

-- ---- the events, at moment t

-- "Capability 3 (NoInputNoOutput) or above 4 gives 11."
abbrev pub refused_capability : ℕ → Bool
refused_capability c = eqb c 3 or ltb 4 c

abbrev pub begun : ℕ → ℕ → Session → SessionOutcome
begun t c s = if refused_capability c then dropped CapabilityRefused else answered Taken (becomes Pairing t s)

-- "Pairing started (capability byte): asked to pairing."
unfoldable pub pairing_started : ℕ → ℕ → Session → SessionOutcome
pairing_started t c = in_stage Asked (begun t c)

-- our passkey, to be confirmed from moment t on
abbrev pub confirming : ℕ → ℕ → Session → Session
confirming t passkey s = record { stage = Confirming; key = s.key; since = record { 0 = t }; passkey = passkey }

-- "Confirmation needed (our passkey): pairing to confirming."
unfoldable pub confirmation_needed : ℕ → ℕ → Session → SessionOutcome
confirmation_needed t passkey = in_stage Pairing (λ s. answered Taken (confirming t passkey s))

-- a block that is not 16 bytes, or does not decrypt to the first byte wanted
abbrev pub bad_block : ℕ → List ℕ → List ℕ → Bool
bad_block first key block = not (eqb (length block) 16) or not (eqb (get_or (inv_cipher key block) 0 0) first)

-- what decryption hands over of a block that is as wanted, and none of a bad one
abbrev pub opened_block : ℕ → List ℕ → List ℕ → Option (List ℕ)
opened_block first key block = if bad_block first key block then None else Some (inv_cipher key block)

-- "bytes 1 to 3 are the passkey, big-endian"
abbrev pub passkey_in : List ℕ → ℕ
passkey_in plain = number3 (get_or plain 1 0) (get_or plain 2 0) (get_or plain 3 0)

-- "Equal to ours: reply yes, stage proved. Unequal: reply no, K dropped. Either way the answer is 0"
unfoldable pub compared_passkey : ℕ → Session → List ℕ → SessionOutcome
compared_passkey t s plain =
    if eqb (passkey_in plain) s.passkey then confirmed Yes (becomes Proved t s) else confirmed No idle

-- "Passkey write. In confirming, decrypt 16 bytes with K. Byte 0 must be 0x02"
abbrev pub opened_passkey : ℕ → List ℕ → Session → SessionOutcome
opened_passkey t block s =
    if bad_block 0x02 s.key block then dropped BadBlock else compared_passkey t s (inv_cipher s.key block)

unfoldable pub passkey_write : ℕ → List ℕ → Session → SessionOutcome
passkey_write t block = in_stage Confirming (opened_passkey t block)

-- "the response is 0x03, our passkey (3), event salt (12), encrypted"
abbrev pub passkey_response : Session → List ℕ → List ℕ
passkey_response s salt = cipher s.key (0x03 ∷ bytes 3 s.passkey ++ salt)

-- "Either way the answer is 0 and the response is ..": it stands in front of the lent output, whose other bytes stay
unfoldable pub passkey_output : List ℕ → List ℕ → Session → SessionOutcome → List ℕ
passkey_output salt out s a = if is_taken a.answer then passkey_response s salt ++ drop 16 out else out

-- "Failure: K dropped in any stage, answer 0"
abbrev pub pairing_failed : Session → SessionOutcome
pairing_failed s = if is_stage s.stage Idle then answered LinkIdle s else dropped Taken

-- "Pairing ended. Success: proved to paired. Failure: K dropped in any stage, answer 0."
unfoldable pub pairing_ended : ℕ → Bool → Session → SessionOutcome
pairing_ended t success s =
    if success then in_stage Proved (λ s. answered Taken (becomes Paired t s)) s else pairing_failed s

-- the key in an account key block: it is stored, and K is dropped
abbrev pub key_stored : List ℕ → SessionOutcome
key_stored plain =
    record {
      answer = Taken;
      confirm = None;
      session = idle;
      key = Some (record { bytes = plain });
      name = None;
    }

-- "In paired, decrypt 16 bytes. Byte 0 must be 0x04 .. K is dropped whatever the answer from 0 or 9 to 12."
abbrev pub opened_account_key : List ℕ → Session → SessionOutcome
opened_account_key block s =
    if bad_block 0x04 s.key block then dropped BadBlock else key_stored (inv_cipher s.key block)

unfoldable pub account_key_write : List ℕ → Session → SessionOutcome
account_key_write block = in_stage Paired (opened_account_key block)

-- the name in a packet: it is taken, and the session goes on as it was
abbrev pub name_taken : Session → Name → SessionOutcome
name_taken s name =
    record {
      answer = Taken;
      confirm = None;
      session = s;
      key = None;
      name = Some name;
    }

-- "a wrong tag or bad UTF-8 gets a new answer 15, old name kept. 0 and 15 keep K, stage and timer."
abbrev pub read_name : Session → Option Name → SessionOutcome
read_name s None = answered NameRefused s
read_name s (Some name) = name_taken s name

-- "A name write is taken from asked to proved, else 9 (idle) or 10 (paired)."
unfoldable pub name_write : List ℕ → Session → SessionOutcome
name_write packet s =
    if is_stage s.stage Idle then answered LinkIdle s else
    if is_stage s.stage Paired then dropped WrongStage else
    read_name s (opened s.key packet)

-- what an event makes of a session at moment t
abbrev pub session_step : PairingEvent → ℕ → Session → SessionOutcome
session_step (PairingStarted capability) t = pairing_started t capability
session_step (ConfirmationNeeded passkey) t = confirmation_needed t passkey
session_step (PasskeyWrite block salt out) t = passkey_write t block
session_step (PairingEnded success) t = pairing_ended t success
session_step (AccountKeyWrite block) t = account_key_write block
session_step (NameWrite packet) t = name_write packet

-- the lent outputs as they were beforehand
abbrev pub lent : PairingEvent → List (List ℕ)
lent (PairingStarted capability) = []
lent (ConfirmationNeeded passkey) = []
lent (PasskeyWrite block salt out) = out ∷ []
lent (PairingEnded success) = []
lent (AccountKeyWrite block) = []
lent (NameWrite packet) = []

-- and as the event leaves them
abbrev pub leaves : PairingEvent → ℕ → Session → List (List ℕ)
leaves (PairingStarted capability) t s = []
leaves (ConfirmationNeeded passkey) t s = []
leaves (PasskeyWrite block salt out) t s = passkey_output salt out s (passkey_write t block s) ∷ []
leaves (PairingEnded success) t s = []
leaves (AccountKeyWrite block) t s = []
leaves (NameWrite packet) t s = []

-- the account key in the block that is written on a link with session s; zero in every other event
abbrev pub written_key : PairingEvent → Session → AccountKey
written_key (PairingStarted capability) s = zero_key
written_key (ConfirmationNeeded passkey) s = zero_key
written_key (PasskeyWrite block salt out) s = zero_key
written_key (PairingEnded success) s = zero_key
written_key (AccountKeyWrite block) s = record { bytes = inv_cipher s.key block }
written_key (NameWrite packet) s = zero_key

-- the account keys after the event
abbrev pub with_stored : Option AccountKey → AccountKeys → AccountKeys
with_stored None ks = ks
with_stored (Some k) ks = kept (stored (held ks) k)

abbrev pub stored_in : SessionOutcome → AccountKeys → AccountKeys
stored_in a ks = with_stored a.key ks

-- whether the event stores a key that is not held: one that is held only moves
abbrev pub is_new : Option AccountKey → AccountKeys → Bool
is_new None ks = false
is_new (Some k) ks = not (member (held ks) k)

abbrev pub adds_to : SessionOutcome → AccountKeys → Bool
adds_to a ks = is_new a.key ks

-- the name after the event
abbrev pub with_taken : Option Name → Name → Name
with_taken None n = n
with_taken (Some taken) n = taken

abbrev pub renamed_in : SessionOutcome → Name → Name
renamed_in a n = with_taken a.name n
