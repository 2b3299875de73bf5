-- A device in plain numbers, as C holds it, and how it is read back.
-- Assumes nothing.
use Rattle.std.specs.Prelude.{Bool, true, false, List, [], ℕ, leb, eqb, length, take, get_or, replicate, Option, Some, None, Result, Ok, Err, is_some, unwrap_or, option_and_then, if◌then◌else◌}
use Rattle.std.specs.List.{list_all}
use Rattle.laws.specs.Choice.{◌and◌}
use Rattle.laws.specs.Lists.{padded}
use Rattle.laws.specs.Tabulate.{tabulate}
use Rattle.account_keys.specs.Keys.{held}
use Rattle.account_keys.specs.StoredList.{stored_list_max, reading, writing}
use Rattle.account_keys.specs.declared.AccountKeys.{AccountKeys}
use Rattle.basics.specs.declared.Address.{Address}
use Rattle.basics.specs.declared.Answer.{Answer}
use Rattle.basics.specs.declared.Answer.TheVariants.{Taken}
use Rattle.key_based.specs.Named.{named_number, asks_rotation}
use Rattle.packed.specs.declared.FpBond.{FpBond}
use Rattle.packed.specs.declared.FpDevice.{FpDevice}
use Rattle.packed.specs.declared.FpElement.{FpElement}
use Rattle.packed.specs.declared.FpOutcome.{FpOutcome}
use Rattle.packed.specs.declared.FpReply.{FpReply}
use Rattle.packed.specs.declared.FpReport.{FpReport}
use Rattle.packed.specs.declared.FpSession.{FpSession}
use Rattle.packed.specs.declared.FpStored.{FpStored}
use Rattle.basics.specs.Answers.{answer_number}
use Rattle.names.specs.Name.{read_again}
use Rattle.names.specs.declared.Name.{Name}
use Rattle.provider.specs.Rules.Control.{off}
use Rattle.pairing.specs.declared.Confirm.{Confirm}
use Rattle.pairing.specs.declared.Confirm.TheVariants.{Yes, No}
use Rattle.provider.specs.declared.Device.{Device}
use Rattle.provider.specs.declared.Outcome.{Outcome}
use Rattle.provider.specs.declared.Reply.{Reply}
use Rattle.request_guard.specs.Guard.{bounded, cleaned}
use Rattle.request_guard.specs.Wait.{uncounted}
use Rattle.request_guard.specs.declared.Guard.{Guard}
use Rattle.request_guard.specs.declared.wait.RotationWait.{RotationWait}
use Rattle.sessions.specs.Sessions.{link_count, idle, session_at, stage_number}
use Rattle.sessions.specs.declared.Session.{Session}
use Rattle.sessions.specs.declared.Sessions.{Sessions}
use Rattle.sessions.specs.declared.Stage.{Stage}
use Rattle.sessions.specs.declared.Stage.TheVariants.{Asked, Pairing, Confirming, Proved, Paired}

-- ---- links

-- what stands past the last link
abbrev pub no_session : FpSession
no_session = record { since = record { 0 = 0 }; passkey = 0; stage = 0; key = []; reserved = [] }

-- the stage by its number
abbrev pub packed_session : Session → FpSession
packed_session s =
    record { since = s.since; passkey = s.passkey; stage = stage_number s.stage; key = s.key; reserved = replicate 3 0 }

abbrev pub held_in : FpSession → Stage → Session
held_in f stage =
    record { stage = stage; key = f.key; since = f.since; passkey = f.passkey }

-- the stage of that number; an idle link holds nothing, whatever its other fields say
abbrev pub session_of : FpSession → Session
session_of f =
    if eqb f.stage 1 then held_in f Asked else
    if eqb f.stage 2 then held_in f Pairing else
    if eqb f.stage 3 then held_in f Confirming else
    if eqb f.stage 4 then held_in f Proved else
    if eqb f.stage 5 then held_in f Paired else
    idle

abbrev pub packed_links : Sessions → List FpSession
packed_links ss = tabulate link_count (λ l. packed_session (session_at ss l))

abbrev pub links_of : List FpSession → Sessions
links_of fs = record { links = tabulate link_count (λ l. session_of (get_or fs l no_session)) }

-- every link has the number of a stage, or 0
abbrev pub stages_known : List FpSession → Bool
stages_known fs = list_all (λ f. leb f.stage 5) fs

-- ---- account keys

abbrev pub packed_keys : AccountKeys → FpStored
packed_keys ks =
    record {
      length = length (writing (held ks));
      bytes = padded stored_list_max 0 (writing (held ks));
      reserved =
          replicate 4 0;
    }

abbrev pub list_of : FpStored → Option AccountKeys
list_of s = if leb s.length stored_list_max then reading (take s.length s.bytes) else None

-- ---- devices

abbrev pub flag : Bool → ℕ
flag false = 0
flag true = 1

unfoldable pub packed : Device → FpDevice
packed d =
    record {
      clock = d.clock;
      sessions = packed_links d.sessions;
      spent = d.guard.spent;
      failed = d.guard.failures.last;
      stored = packed_keys d.keys;
      name = d.name;
      identity = d.identity;
      ble = d.beacon.ble;
      salt = d.beacon.salt;
      filter = d.beacon.filter;
      pairing = flag d.beacon.pairing;
      failures = d.guard.failures.count;
      awaited = flag d.wait.on;
      reserved = replicate 5 0;
    }

abbrev pub guard_of : FpDevice → Guard
guard_of f =
    record { spent = f.spent; failures = record { count = f.failures; last = f.failed } }

abbrev pub wait_of : FpDevice → RotationWait
wait_of f = record { on = eqb f.awaited 1 }

-- counts and salts that a guard can have, and no failure counted while a rotation is awaited
abbrev pub guard_known : FpDevice → Bool
guard_known f = bounded (guard_of f) and uncounted (wait_of f) (guard_of f)

abbrev pub flags_known : FpDevice → Bool
flags_known f = leb f.pairing 1 and leb f.awaited 1

-- the numbers beside the keys and the name are within what the rules can be served on
abbrev pub numbers_known : FpDevice → Bool
numbers_known f = guard_known f and stages_known f.sessions and flags_known f

-- the device that they are, with its keys and its name; the filter is taken as it stands, since to check it is to build it
abbrev pub with_parts : FpDevice → AccountKeys → Name → Device
with_parts f keys name =
    record {
      clock = f.clock;
      keys = keys;
      sessions = links_of f.sessions;
      guard = cleaned (guard_of f);
      wait = wait_of f;
      identity = f.identity;
      beacon = record { ble = f.ble; salt = f.salt; filter = f.filter; pairing = eqb f.pairing 1 };
      name = name;
    }

-- the device that the bytes are, or none where they are not served; those in places that are not in use do not count
unfoldable pub unpacked : FpDevice → Option Device
unpacked f =
    option_and_then
    (λ keys. option_and_then (λ name. if numbers_known f then Some (with_parts f keys name) else None) (read_again f.name))
    (list_of f.stored)

abbrev pub is_device : FpDevice → Bool
is_device f = is_some (unpacked f)

-- bytes that are not served stand for the value before any device
abbrev pub device_of : FpDevice → Device
device_of f = unwrap_or (unpacked f) off

-- ---- answers

abbrev pub confirm_number : Option Confirm → ℕ
confirm_number None = 0
confirm_number (Some Yes) = 1
confirm_number (Some No) = 2

-- zeros where no address is handed out
abbrev pub packed_bond : Option Address → FpBond
packed_bond b = record { wanted = is_some b; address = unwrap_or b (record { bytes = replicate 6 0 }) }

abbrev pub packed_reply : Reply → FpReply
packed_reply r =
    record {
      answer = answer_number r.answer;
      tried = r.tried;
      confirm = confirm_number r.confirm;
      packet = r.packet;
      named = named_number r.named;
      rotate = asks_rotation r.named;
      bond = packed_bond r.bond;
    }

abbrev pub packed_outcome : Outcome → FpOutcome
packed_outcome o = record { next = packed o.next; reply = packed_reply o.reply; reserved = replicate 3 0 }

-- a length and an answer
abbrev pub report_numbers : ℕ → Answer → FpReport
report_numbers n a = record { length = n; answer = answer_number a; reserved = replicate 7 0 }

-- the length is handed out with 0
abbrev pub packed_report : Result ℕ Answer → FpReport
packed_report (Ok n) = report_numbers n Taken
packed_report (Err a) = report_numbers 0 a

-- what the secure element made of a point; 0 is a rejected one, which has no secret
abbrev pub element_of : FpElement → Option (List ℕ)
element_of e = if eqb e.accepted 0 then None else Some e.secret
