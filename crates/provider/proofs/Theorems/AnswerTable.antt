-- Every event gets its answer from document 01's table: what a rule checks next is the next row.
-- Assumes nothing.
use mathlib.Core.Bool.{Bool, true, false, not}
use mathlib.Core.List.{List, [], ◌∷◌, ◌++◌}
use mathlib.Core.Path.{◌≡◌, refl, sym, ap, ◌∙◌}
use Prim.Native.Nat.{ℕ}
use lib.Dec.{eqb, ltb}
use lib.ListN.{length}
use Rattle.std.specs.Prelude.{if◌then◌else◌, Option, Some, None, is_none, Result, Ok, Err}
use Rattle.additional_data.specs.Packet.{opened, packet_sized}
use Rattle.names.specs.Name.{is_name, name_of}
use Rattle.names.specs.declared.Name.{Name}
use Rattle.account_keys.specs.StoredList.{reading}
use Rattle.account_keys.specs.declared.AccountKeys.{AccountKeys}
use Rattle.basics.specs.Answers.{answer_number}
use Rattle.basics.specs.declared.Answer.{Answer}
use Rattle.basics.specs.declared.Answer.TheVariants.{Taken, UnknownLink, WrongLength, PasskeyTooLarge, ClockWentBack, OutputTooShort, LinkIdle, WrongStage, CapabilityRefused, BadBlock, LockedOut, NotInPairingMode, SaltSpent, RotationAwaited}
use Rattle.key_based.specs.Decision.{refused, accepted, salt_known, settled, settled_by, tried_keys, unwanted, uses_key, decided}
use Rattle.key_based.specs.declared.Found.{Found}
use Rattle.key_based.specs.Request.{sized}
use Rattle.key_based.specs.declared.Context.{Context}
use Rattle.pairing.specs.Pairing.{PairingEvent, PairingStarted, ConfirmationNeeded, PasskeyWrite, PairingEnded, AccountKeyWrite, NameWrite, read_name, name_write, answered, dropped, in_stage, refused_capability, begun, bad_block, passkey_in, compared_passkey, opened_passkey, opened_account_key, confirming, pairing_started, confirmation_needed, passkey_write, pairing_ended, account_key_write, session_step}
use Rattle.pairing.specs.declared.SessionOutcome.{SessionOutcome}
use Rattle.provider.specs.Demands.AnswerTable.{Row, row, first_given, rows_before_clock, rows_on_session, rows_after_clock, rows, AnswerTable}
use Rattle.provider.specs.Rules.Control.{by_list, power_on}
use Rattle.provider.specs.Rules.Device.{given, takes, drop_all, clock_step, in_time, unless_refused, on_known_link, after_checks}
use Rattle.provider.specs.Rules.Event.{LinkEvent, LinkUp, LinkDown, KeyBasedWrite, OnSession, Overflow, PowerOn, OnDevice, OnLink, lent_on_link, early, context_of, on_device, on_link}
use Rattle.provider.specs.declared.Device.{Device}
use Rattle.request_guard.specs.Guard.{locked}
use Rattle.sessions.specs.Sessions.{is_stage, becomes, session_at}
use Rattle.sessions.specs.declared.Session.{Session}
use Rattle.sessions.specs.declared.Stage.{Stage}
use Rattle.sessions.specs.declared.Stage.TheVariants.{Idle, Asked, Pairing, Confirming, Proved, Paired}

-- the number of the answer
abbrev number : SessionOutcome → ℕ
number a = answer_number a.answer

-- ---- pairing, passkey and account key events

-- answers 9 and 10, and the rows that come then
told_stage : (needed : Stage) (rule : Session → SessionOutcome) (s : Session) (rs : List Row) → number (rule s) ≡
    first_given rs
    → number (in_stage needed rule s)
    ≡ first_given (row 9 (is_stage s.stage Idle) ∷ row 10 (not (is_stage s.stage needed)) ∷ rs)
unfolding in_stage first_given
told_stage needed rule s rs p = go (is_stage s.stage Idle) (is_stage s.stage needed)
  where
    go : (x y : Bool)
        → answer_number (if x then answered LinkIdle s else if not y then dropped WrongStage else rule s).answer
        ≡ (if x then 9 else if not y then 10 else first_given rs)
    go true y = refl
    go false false = refl
    go false true = p

-- one row more, 11 or 12
told_drops : (n : ℕ) (b : Bool) (a : Answer) (x : SessionOutcome) → answer_number a ≡ n → number x ≡ 0
    → number (if b then dropped a else x) ≡ first_given (row n b ∷ [])
unfolding first_given
told_drops n true a x e p = e
told_drops n false a x e p = p

-- "Either way the answer is 0"
told_compared : (t : ℕ) (s : Session) (plain : List ℕ) → number (compared_passkey t s plain) ≡ 0
unfolding compared_passkey
told_compared t s plain = go (eqb (passkey_in plain) s.passkey) _ _ refl refl
  where
    go : (b : Bool) (x y : SessionOutcome) → x.answer ≡ Taken → y.answer ≡ Taken → answer_number
        (if b then x else y).answer ≡ 0
    go true x y p q = ap answer_number p
    go false x y p q = ap answer_number q

told_session : (e : PairingEvent) (t : ℕ) (s : Session) → number (session_step e t s) ≡ first_given (rows_on_session e s)
unfolding first_given rows_on_session pairing_started confirmation_needed passkey_write pairing_ended account_key_write name_write
told_session (PairingStarted capability) t s =
    told_stage Asked (begun t capability) s (row 11 (refused_capability capability) ∷ [])
    (told_drops 11 (refused_capability capability) CapabilityRefused _ refl refl)
told_session (ConfirmationNeeded passkey) t s =
    told_stage Pairing (λ u. answered Taken (confirming t passkey u)) s [] refl
told_session (PasskeyWrite block salt out) t s =
    told_stage Confirming (opened_passkey t block) s (row 12 (bad_block 0x02 s.key block) ∷ [])
    (told_drops 12 (bad_block 0x02 s.key block) BadBlock _ refl (told_compared t s _))
told_session (PairingEnded true) t s = told_stage Proved (λ u. answered Taken (becomes Paired t u)) s [] refl
told_session (PairingEnded false) t s = go (is_stage s.stage Idle)
  where
    go : (b : Bool) → number (if b then answered LinkIdle s else dropped Taken) ≡ first_given (row 9 b ∷ [])
    go true = refl
    go false = refl
told_session (AccountKeyWrite block) t s =
    told_stage Paired (opened_account_key block) s (row 12 (bad_block 0x04 s.key block) ∷ [])
    (told_drops 12 (bad_block 0x04 s.key block) BadBlock _ refl refl)
told_session (NameWrite packet) t s =
    go (is_stage s.stage Idle) (is_stage s.stage Paired) (opened s.key packet)
  where
    go : (x y : Bool) (z : Option Name)
        → number (if x then answered LinkIdle s else if y then dropped WrongStage else read_name s z)
        ≡ (if x then 9 else if y then 10 else if is_none z then 15 else 0)
    go true y z = refl
    go false true z = refl
    go false false None = refl
    go false false (Some n) = refl

-- ---- events on a link

-- answers 5, 16, 6, 7 and 8
told_request : (c : Context) (s : Session) (t : ℕ) (element : Option (List ℕ)) (request : List ℕ)
    → answer_number (decided c s t element request).answer
    ≡ first_given (row 5 (locked c.guard) ∷ row 16 c.wait.on ∷ row 6 (unwanted c request)
    ∷ row 7 (is_none (tried_keys c element request).found)
    ∷ row 8 (salt_known c.guard (tried_keys c element request).found) ∷ [])
unfolding decided settled first_given
told_request c s t element request =
    go (locked c.guard) c.wait.on (unwanted c request) (tried_keys c element request).found
  where
    n : ℕ
    n = (tried_keys c element request).tried

    told_salt : (f : Found) (w : Bool)
        → answer_number (if w then refused c.guard s SaltSpent n else accepted c.guard t (uses_key request) n f).answer
        ≡ (if w then 8 else 0)
    told_salt f true = refl
    told_salt f false = refl

    go : (x v y : Bool) (z : Option Found)
        → answer_number (if x then refused c.guard s LockedOut 0 else
        if v then refused c.guard s RotationAwaited 0 else
        if y then refused c.guard s NotInPairingMode 0 else
        settled_by c.guard s t (uses_key request) n z).answer
        ≡ (if x then 5 else if v then 16 else if y then 6 else if is_none z then 7 else if salt_known c.guard z then 8 else 0)
    go true v y z = refl
    go false true y z = refl
    go false false true z = refl
    go false false false None = refl
    go false false false (Some f) = told_salt f (salt_known c.guard (Some f))

told_after_clock : (e : LinkEvent) (d : Device) (l t : ℕ)
    → answer_number (on_link e d l t).gives.reply.answer ≡ first_given (rows_after_clock e d l)
unfolding rows_after_clock first_given
told_after_clock LinkUp d l t = refl
told_after_clock LinkDown d l t = refl
told_after_clock (KeyBasedWrite request element salt nonce out packet) d l t =
    told_request (context_of d) (session_at d.sessions l) t element request
told_after_clock (OnSession e) d l t = told_session e t (session_at d.sessions l)

-- the number of an early refusal, or of what comes after it
abbrev early_number : Result Unit Answer → ℕ → ℕ
early_number (Ok u) n = n
early_number (Err a) n = answer_number a

-- the rows before the clock are the checks 2, 3 and 13
told_early : (e : LinkEvent) (rs : List Row)
    → first_given (rows_before_clock e ++ rs) ≡ early_number (early e) (first_given rs)
unfolding first_given
told_early LinkUp rs = refl
told_early LinkDown rs = refl
told_early (KeyBasedWrite request element salt nonce out packet) rs =
    go (sized request) (ltb (length out) 16) (ltb (length packet) 80)
  where
    go : (x y z : Bool) → (if not x then 2 else if y then 13 else if z then 13 else first_given rs)
        ≡ early_number (if not x then Err WrongLength else if z then Err OutputTooShort else if y then Err OutputTooShort else
        Ok tt) (first_given rs)
    go false y z = refl
    go true true true = refl
    go true true false = refl
    go true false true = refl
    go true false false = refl
told_early (OnSession (PairingStarted capability)) rs = refl
told_early (OnSession (ConfirmationNeeded passkey)) rs = go (ltb 999999 passkey)
  where
    go : (b : Bool) → (if b then 3 else first_given rs)
        ≡ early_number (if b then Err PasskeyTooLarge else Ok tt) (first_given rs)
    go true = refl
    go false = refl
told_early (OnSession (PasskeyWrite block salt out)) rs = go (ltb (length out) 16)
  where
    go : (b : Bool) → (if b then 13 else first_given rs)
        ≡ early_number (if b then Err OutputTooShort else Ok tt) (first_given rs)
    go true = refl
    go false = refl
told_early (OnSession (PairingEnded success)) rs = refl
told_early (OnSession (AccountKeyWrite block)) rs = refl
told_early (OnSession (NameWrite packet)) rs = go (packet_sized packet)
  where
    go : (b : Bool) → (if not b then 2 else first_given rs)
        ≡ early_number (if not b then Err WrongLength else Ok tt) (first_given rs)
    go true = refl
    go false = refl

-- ---- every event

pub answer_table : AnswerTable
unfolding first_given rows power_on in_time on_known_link
answer_table d Overflow = nothing_left
  where
    nothing_left : 0 ≡ first_given []
    nothing_left = refl
answer_table d (PowerOn stored name start) =
    go (reading stored) (is_name name)
  where
    go : (r : Option AccountKeys) (b : Bool)
        → answer_number (by_list d r (if b then Some (name_of name) else None) start).gives.reply.answer
        ≡ first_given (row 14 (is_none r) ∷ row 14 (not b) ∷ [])
    go (Some ks) true = refl
    go (Some ks) false = refl
    go None b = refl
answer_table d (OnDevice t e) = go (ltb t d.clock.0)
  where
    go : (b : Bool)
        → answer_number (after_checks (if b then Err (given (drop_all d) ClockWentBack) else Ok (clock_step t d)) []
        (λ x. takes (on_device e x))).gives.reply.answer
        ≡ first_given (row 4 b ∷ [])
    go true = refl
    go false = refl
answer_table d (OnLink l t e) = go (ltb 7 l) (early e) (ltb t d.clock.0) refl
  where
    go : (a : Bool) (b : Result Unit Answer) (c : Bool) → early e ≡ b
        → answer_number (after_checks (if a then Err (given d UnknownLink) else
        unless_refused d b (if c then Err (given (drop_all d) ClockWentBack) else Ok (clock_step t d)))
        (lent_on_link e) (λ x. on_link e x l t)).gives.reply.answer
        ≡ first_given (row 1 a ∷ rows_before_clock e ++ (row 4 c ∷ rows_after_clock e (clock_step t d) l))
    go true b c h = refl
    go false (Err a) c h = sym (told_early e (row 4 c ∷ rows_after_clock e (clock_step t d) l) ∙ rw h)
    go false (Ok u) true h = sym (told_early e (row 4 true ∷ rows_after_clock e (clock_step t d) l) ∙ rw h)
    go false (Ok u) false h =
        told_after_clock e (clock_step t d) l t
        ∙ sym (told_early e (row 4 false ∷ rows_after_clock e (clock_step t d) l) ∙ rw h)
