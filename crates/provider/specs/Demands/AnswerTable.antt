-- Demand 1: document 01's answer table, row by row, beside the rules of the events.
-- Assumes nothing.
use Rattle.std.specs.Prelude.{Bool, true, false, not, List, [], ◌∷◌, ◌++◌, ◌≡◌, ℕ, ltb, length, if◌then◌else◌, is_none}
use Rattle.account_keys.specs.StoredList.{reading}
use Rattle.basics.specs.Answers.{answer_number}
use Rattle.additional_data.specs.Packet.{opened, packet_sized}
use Rattle.key_based.specs.Decision.{salt_known, tried_keys, unwanted}
use Rattle.key_based.specs.Request.{sized}
use Rattle.names.specs.Name.{is_name}
use Rattle.pairing.specs.Pairing.{PairingEvent, PairingStarted, ConfirmationNeeded, PasskeyWrite, PairingEnded, AccountKeyWrite, NameWrite, refused_capability, bad_block}
use Rattle.provider.specs.Rules.Device.{clock_step}
use Rattle.provider.specs.Rules.Event.{Event, LinkEvent, LinkUp, LinkDown, KeyBasedWrite, OnSession, Overflow, PowerOn, OnDevice, OnLink, context_of, answer_of}
use Rattle.provider.specs.declared.Device.{Device}
use Rattle.request_guard.specs.Guard.{locked}
use Rattle.sessions.specs.Sessions.{is_stage, session_at}
use Rattle.sessions.specs.declared.Session.{Session}
use Rattle.sessions.specs.declared.Stage.TheVariants.{Idle, Asked, Pairing, Confirming, Proved, Paired}

-- a row of the table for one event: the document's number, and whether its condition holds
pub record Row : Type 0 where
  pub number : ℕ
  pub given : Bool

abbrev pub row : ℕ → Bool → Row
row n b = record { number = n; given = b }

-- the number of the first row whose condition holds; 0, "taken", if none does
unfoldable pub first_given : List Row → ℕ
first_given [] = 0
first_given (r ∷ rs) = if r.given then r.number else first_given rs

-- 2: "key-based write not 16 or 80 bytes"; 3: "our passkey above 999,999"; 13: "lent output too short". Document 02 (i), 13: the
-- second output "needs 80 bytes in every key-based write"; 2 in a name write: "Any size but 16 to 80"
abbrev pub rows_before_clock : LinkEvent → List Row
rows_before_clock LinkUp = []
rows_before_clock LinkDown = []
rows_before_clock (KeyBasedWrite request element salt nonce out packet) =
    row 2 (not (sized request)) ∷ row 13 (ltb (length out) 16) ∷ row 13 (ltb (length packet) 80) ∷ []
rows_before_clock (OnSession (PairingStarted capability)) = []
rows_before_clock (OnSession (ConfirmationNeeded passkey)) = row 3 (ltb 999999 passkey) ∷ []
rows_before_clock (OnSession (PasskeyWrite block salt out)) = row 13 (ltb (length out) 16) ∷ []
rows_before_clock (OnSession (PairingEnded success)) = []
rows_before_clock (OnSession (AccountKeyWrite block)) = []
rows_before_clock (OnSession (NameWrite packet)) = row 2 (not (packet_sized packet)) ∷ []

-- 9: "on an idle link"; 10: "link's stage is not the one this event needs"; 11: "capability refused"; 12: "passkey or account
-- block not 16 bytes, or wrong first byte". Document 02 (i), name write: "9 (idle) or 10 (paired)"; 15, "after 10, a wrong tag or
-- bad UTF-8"
unfoldable pub rows_on_session : PairingEvent → Session → List Row
rows_on_session (PairingStarted capability) s =
    row 9 (is_stage s.stage Idle)
    ∷ row 10 (not (is_stage s.stage Asked))
    ∷ row 11 (refused_capability capability)
    ∷ []
rows_on_session (ConfirmationNeeded passkey) s =
    row 9 (is_stage s.stage Idle) ∷ row 10 (not (is_stage s.stage Pairing)) ∷ []
rows_on_session (PasskeyWrite block salt out) s =
    row 9 (is_stage s.stage Idle)
    ∷ row 10 (not (is_stage s.stage Confirming))
    ∷ row 12 (bad_block 0x02 s.key block)
    ∷ []
rows_on_session (PairingEnded true) s =
    row 9 (is_stage s.stage Idle) ∷ row 10 (not (is_stage s.stage Proved)) ∷ []
rows_on_session (PairingEnded false) s = row 9 (is_stage s.stage Idle) ∷ []
rows_on_session (AccountKeyWrite block) s =
    row 9 (is_stage s.stage Idle)
    ∷ row 10 (not (is_stage s.stage Paired))
    ∷ row 12 (bad_block 0x04 s.key block)
    ∷ []
rows_on_session (NameWrite packet) s =
    row 9 (is_stage s.stage Idle)
    ∷ row 10 (is_stage s.stage Paired)
    ∷ row 15 (is_none (opened s.key packet))
    ∷ []

-- 5: "count is 10"; document 02 (vii), 16, "after 5 and before 6": until the rotation; 6: "80 bytes, pairing mode off"; 7: "no candidate fits"; 8: "fits, salt remembered"
unfoldable pub rows_after_clock : LinkEvent → Device → ℕ → List Row
rows_after_clock LinkUp d l = []
rows_after_clock LinkDown d l = []
rows_after_clock (KeyBasedWrite request element salt nonce out packet) d l =
    row 5 (locked d.guard)
    ∷ row 16 d.wait.on
    ∷ row 6 (unwanted (context_of d) request)
    ∷ row 7 (is_none (tried_keys (context_of d) element request).found)
    ∷ row 8 (salt_known d.guard (tried_keys (context_of d) element request).found)
    ∷ []
rows_after_clock (OnSession e) d l = rows_on_session e (session_at d.sessions l)

-- 1: "link above 7"; 4: "clock below the stored clock". "Checked in this order: 1, 2, 3, 13, 4, then 5, 6, 7, 8 for key-based
-- writes, or 9, 10, 11, 12 for pairing, passkey and account key events. Power-on knows only 0 and 14."; 9, 10, 15 for name writes
unfoldable pub rows : Device → Event → List Row
rows d Overflow = []
rows d (PowerOn stored name start) =
    -- 14: "stored list malformed"; document 02 (i): "a bad one gets 14"
    row 14 (is_none (reading stored)) ∷ row 14 (not (is_name name)) ∷ []
rows d (OnDevice t e) = row 4 (ltb t d.clock.0) ∷ []
rows d (OnLink l t e) =
    row 1 (ltb 7 l) ∷ rows_before_clock e ++ (row 4 (ltb t d.clock.0) ∷ rows_after_clock e (clock_step t d) l)

-- "gets one answer from document 01's table": its number is that of the first row whose condition holds
abbrev pub AnswerTable : Type 0
AnswerTable = (d : Device) (e : Event) → answer_number (answer_of d e) ≡ first_given (rows d e)
