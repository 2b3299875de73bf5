-- What every pairing, passkey and account key event makes of a session.
-- Assumes nothing.
use mathlib.Core.Bool.{Bool, true, false, not}
use mathlib.Core.List.{List, [], ◌∷◌}
use mathlib.Core.Path.{◌≡◌, refl, sym, ap, subst, ◌∙◌}
use Prim.Native.Nat.{ℕ}
use native.Mathlib.Omega.{arith}
use lib.Dec.{eqb, ltb}
use lib.ListN.{length, get_or}
use borrow.Author.Tests.{eqb-true, ltb-true, not-false}
use Rattle.laws.proofs.Choice.{true_is, if_holds, or_false_right}
use Rattle.laws.specs.Choice.{◌and◌}
use Rattle.std.specs.Prelude.{Option, Some, None, if◌then◌else◌}
use Rattle.std.specs.Option.{is_some}
use Rattle.account_keys.specs.Keys.{Sized}
use Rattle.account_keys.specs.declared.AccountKey.{AccountKey}
use Rattle.aes128.proofs.Sizes.{length_inv_cipher}
use Rattle.aes128.specs.Cipher.{inv_cipher}
use Rattle.basics.specs.Answers.{answer_number, is_taken, is_one_of}
use Rattle.basics.specs.declared.Answer.{Answer}
use Rattle.basics.specs.declared.Answer.TheVariants.{Taken, LinkIdle, WrongStage, CapabilityRefused, BadBlock, NameRefused}
use Rattle.additional_data.proofs.Packet.{opened_valid}
use Rattle.additional_data.specs.Packet.{opened}
use Rattle.names.specs.Name as names
use Rattle.names.specs.declared.Name.{Name}
use Rattle.pairing.proofs.Laws as laws
use Rattle.pairing.specs.Pairing.{PairingEvent, PairingStarted, ConfirmationNeeded, PasskeyWrite, PairingEnded, AccountKeyWrite, NameWrite, is_account_key_write, is_name_write, answered, dropped, read_name, name_write, in_stage, refused_capability, begun, confirming, bad_block, passkey_in, compared_passkey, opened_passkey, key_stored, opened_account_key, pairing_failed, pairing_started, confirmation_needed, passkey_write, pairing_ended, account_key_write, session_step, lent, leaves}
use Rattle.pairing.specs.declared.SessionOutcome.{SessionOutcome}
use Rattle.sessions.specs.Sessions.{Canonical, idle, is_stage, stage_number, becomes}
use Rattle.sessions.specs.declared.Session.{Session}
use Rattle.sessions.specs.declared.Stage.{Stage}
use Rattle.sessions.specs.declared.Stage.TheVariants.{Idle, Asked, Pairing, Confirming, Proved, Paired}

-- the answers that these events give: 0, 9 to 12 and 15
pub data OnSessions : Answer → Type 0 where
  taken : OnSessions Taken
  link_idle : OnSessions LinkIdle
  wrong_stage : OnSessions WrongStage
  capability-refused : OnSessions CapabilityRefused
  bad-block : OnSessions BadBlock
  name_refused : OnSessions NameRefused

-- the session after a refusal: 9 and 15 leave it, and every other one drops it
abbrev pub refused_session : Answer → Session → Session
refused_session a s = if is_one_of (9 ∷ 15 ∷ []) a then s else idle

-- sixteen bytes that begin with 0x04
abbrev pub Storable : AccountKey → Type 0
Storable k = Sized k × (get_or k.bytes 0 0 ≡ 0x04)

-- what every outcome of session s has
pub record Lawful (s : Session) (a : SessionOutcome) : Type 0 where
  pub answer : OnSessions a.answer
  pub refusal : is_taken a.answer ≡ false → a ≡ answered a.answer (refused_session a.answer s)
  pub held : is_stage s.stage Idle ≡ false → eqb (answer_number a.answer) 9 ≡ false
  pub session : Canonical s → Canonical a.session
  pub storable : (k : AccountKey) → a.key ≡ Some k → Storable k
  pub name : (n : Name) → a.name ≡ Some n → names.Valid n

-- a session in a stage is no idle one
pub in_a_stage : (s : Session) → ltb 0 (stage_number s.stage) ≡ true → Canonical s
in_a_stage s h e =
    let z : stage_number s.stage ≡ 0 = ap stage_number e in
    absurd (omega (arith, ltb-true 0 (stage_number s.stage) h))

module _ {s : Session} where
  lawful-if : (b : Bool) {x y : SessionOutcome} → Lawful s x → (b ≡ false → Lawful s y) → Lawful s (if b then x else y)
  lawful-if = if_holds (Lawful s)

  -- the session goes on in a stage
  lawful-stays : (u : Session) → ltb 0 (stage_number u.stage) ≡ true → Lawful s (answered Taken u)
  lawful-stays u h = record {
    answer = taken;
    refusal = λ e. absurd (true_is (sym e));
    held = λ _. refl;
    session = λ _. in_a_stage u h;
    storable = λ k e. (cc);
    name = λ n e. (cc);
  }

  -- K is dropped
  lawful-drops : (a : Answer) → OnSessions a → is_one_of (9 ∷ 15 ∷ []) a ≡ false → eqb (answer_number a) 9 ≡ false
      → Lawful s (dropped a)
  lawful-drops a o h k = record {
    answer = o;
    refusal = λ _. rw h;
    held = λ _. k;
    session = λ _ _. refl;
    storable = λ k e. (cc);
    name = λ n e. (cc);
  }

  -- the link is idle
  lawful-idle : is_stage s.stage Idle ≡ true → Lawful s (answered LinkIdle s)
  lawful-idle h = record {
    answer = link_idle;
    refusal = λ _. refl;
    held = λ e. absurd (true_is (sym e ∙ h));
    session = λ c. c;
    storable = λ k e. (cc);
    name = λ n e. (cc);
  }

  lawful-stage : (needed : Stage) (rule : Session → SessionOutcome) → Lawful s (rule s) → Lawful s (in_stage needed rule s)
  unfolding in_stage
  lawful-stage needed rule p = go (is_stage s.stage Idle) refl
    where
      go : (b : Bool) → is_stage s.stage Idle ≡ b
          → Lawful s (if b then answered LinkIdle s else
          if not (is_stage s.stage needed) then dropped WrongStage else rule s)
      go true h = lawful-idle h
      go false h = lawful-if (not (is_stage s.stage needed)) (lawful-drops WrongStage wrong_stage refl refl) (λ _. p)

  lawful-failed : Lawful s (pairing_failed s)
  lawful-failed = go (is_stage s.stage Idle) refl
    where
      go : (b : Bool) → is_stage s.stage Idle ≡ b → Lawful s (if b then answered LinkIdle s else dropped Taken)
      go true h = lawful-idle h
      go false h = lawful-drops Taken taken refl refl

-- ---- the events

begun_lawful : (t c : ℕ) (s : Session) → Lawful s (begun t c s)
begun_lawful t c s =
    lawful-if (refused_capability c) (lawful-drops CapabilityRefused capability-refused refl refl)
    (λ _. lawful-stays (becomes Pairing t s) refl)

compared_lawful : (t : ℕ) (s : Session) (plain : List ℕ) → Lawful s (compared_passkey t s plain)
unfolding compared_passkey
compared_lawful t s plain =
    lawful-if (eqb (passkey_in plain) s.passkey)
    (record {
      answer = taken;
      refusal = λ e. absurd (true_is (sym e));
      held = λ _. refl;
      session = λ _. in_a_stage (becomes Proved t s) refl;
      storable = λ k e. (cc);
      name = λ n e. (cc);
    })
    (λ _. record {
      answer = taken;
      refusal = λ e. absurd (true_is (sym e));
      held = λ _. refl;
      session = λ _ _. refl;
      storable = λ k e. (cc);
      name = λ n e. (cc);
    })

passkey_lawful : (t : ℕ) (block : List ℕ) (s : Session) → Lawful s (opened_passkey t block s)
passkey_lawful t block s =
    lawful-if (bad_block 0x02 s.key block) (lawful-drops BadBlock bad-block refl refl)
    (λ _. compared_lawful t s (inv_cipher s.key block))

-- a block that is not bad begins as wanted
begins : (first : ℕ) (key block : List ℕ) → bad_block first key block ≡ false → get_or (inv_cipher key block) 0 0 ≡ first
begins first key block e =
    eqb-true _ _ (not-false _ (or_false_right (not (eqb (length block) 16))
    (not (eqb (get_or (inv_cipher key block) 0 0) first)) e))

account_key_lawful : (block : List ℕ) (s : Session) → Lawful s (opened_account_key block s)
account_key_lawful block s =
    lawful-if (bad_block 0x04 s.key block) (lawful-drops BadBlock bad-block refl refl) (λ e. record {
      answer = taken;
      refusal = λ h. absurd (true_is (sym h));
      held = λ _. refl;
      session = λ _ _. refl;
      storable = λ k h. let same : record { bytes = inv_cipher s.key block } ≡ k = (cc) in
          subst Storable same (length_inv_cipher s.key block, begins 0x04 s.key block e);
      name = λ n e. (cc);
    })

-- a name that was read, or 15
name_lawful : (s : Session) (r : Option Name) → ((n : Name) → r ≡ Some n → names.Valid n) → Lawful s (read_name s r)
name_lawful s None v = record {
  answer = name_refused;
  refusal = λ _. refl;
  held = λ _. refl;
  session = λ c. c;
  storable = λ k e. (cc);
  name = λ n e. (cc);
}
name_lawful s (Some x) v = record {
  answer = taken;
  refusal = λ e. absurd (true_is (sym e));
  held = λ _. refl;
  session = λ c. c;
  storable = λ k e. (cc);
  name = v;
}

name_write_lawful : (packet : List ℕ) (s : Session) → Lawful s (name_write packet s)
unfolding name_write
name_write_lawful packet s = go (is_stage s.stage Idle) refl
  where
    go : (b : Bool) → is_stage s.stage Idle ≡ b
        → Lawful s (if b then answered LinkIdle s else
        if is_stage s.stage Paired then dropped WrongStage else read_name s (opened s.key packet))
    go true h = lawful-idle h
    go false h = lawful-if (is_stage s.stage Paired) (lawful-drops WrongStage wrong_stage refl refl)
        (λ _. name_lawful s (opened s.key packet) (λ n e. opened_valid s.key packet e))

pub step_lawful : (e : PairingEvent) (t : ℕ) (s : Session) → Lawful s (session_step e t s)
unfolding pairing_started confirmation_needed passkey_write pairing_ended account_key_write
step_lawful (PairingStarted capability) t s = lawful-stage Asked (begun t capability) (begun_lawful t capability s)
step_lawful (ConfirmationNeeded passkey) t s =
    lawful-stage Pairing (λ u. answered Taken (confirming t passkey u)) (lawful-stays (confirming t passkey s) refl)
step_lawful (PasskeyWrite block salt out) t s =
    lawful-stage Confirming (opened_passkey t block) (passkey_lawful t block s)
step_lawful (PairingEnded true) t s =
    lawful-stage Proved (λ u. answered Taken (becomes Paired t u)) (lawful-stays (becomes Paired t s) refl)
step_lawful (PairingEnded false) t s = lawful-failed
step_lawful (AccountKeyWrite block) t s =
    lawful-stage Paired (opened_account_key block) (account_key_lawful block s)
step_lawful (NameWrite packet) t s = name_write_lawful packet s

-- ---- a key is stored by an account key write alone, and a name taken by a name write, with answer 0

pub record OwnParts (e : PairingEvent) (a : SessionOutcome) : Type 0 where
  pub key : is_some a.key ≡ true → (is_account_key_write e and is_taken a.answer) ≡ true
  pub name : is_some a.name ≡ true → (is_name_write e and is_taken a.answer) ≡ true

module _ {e : PairingEvent} where
  own-if : (b : Bool) {x y : SessionOutcome} → OwnParts e x → OwnParts e y → OwnParts e (if b then x else y)
  own-if b p q = if_holds (OwnParts e) b p (λ _. q)

  -- an outcome that brings neither
  neither : {a : SessionOutcome} → is_some a.key ≡ false → is_some a.name ≡ false → OwnParts e a
  neither p q = record { key = λ h. absurd (true_is (sym p ∙ h)); name = λ h. absurd (true_is (sym q ∙ h)) }

  own-stage : (needed : Stage) (rule : Session → SessionOutcome) (s : Session) → OwnParts e (rule s)
      → OwnParts e (in_stage needed rule s)
  unfolding in_stage
  own-stage needed rule s p =
      own-if (is_stage s.stage Idle) (neither refl refl)
      (own-if (not (is_stage s.stage needed)) (neither refl refl) p)

pub own_parts : (e : PairingEvent) (t : ℕ) (s : Session) → OwnParts e (session_step e t s)
unfolding pairing_started confirmation_needed passkey_write pairing_ended account_key_write compared_passkey name_write
own_parts (PairingStarted capability) t s =
    own-stage Asked (begun t capability) s (own-if (refused_capability capability) (neither refl refl) (neither refl refl))
own_parts (ConfirmationNeeded passkey) t s =
    own-stage Pairing (λ u. answered Taken (confirming t passkey u)) s (neither refl refl)
own_parts (PasskeyWrite block salt out) t s =
    own-stage Confirming (opened_passkey t block) s
    (own-if (bad_block 0x02 s.key block) (neither refl refl)
    (own-if (eqb (passkey_in (inv_cipher s.key block)) s.passkey) (neither refl refl) (neither refl refl)))
own_parts (PairingEnded true) t s =
    own-stage Proved (λ u. answered Taken (becomes Paired t u)) s (neither refl refl)
own_parts (PairingEnded false) t s =
    own-if (is_stage s.stage Idle) (neither refl refl) (neither refl refl)
own_parts (AccountKeyWrite block) t s =
    own-stage Paired (opened_account_key block) s
    (own-if (bad_block 0x04 s.key block) (neither refl refl)
    (record { key = λ _. refl; name = λ h. absurd (true_is h) }))
own_parts (NameWrite packet) t s =
    own-if (is_stage s.stage Idle) (neither refl refl)
    (own-if (is_stage s.stage Paired) (neither refl refl)
    (read-parts (opened s.key packet)))
  where
    read-parts : (r : Option Name) → OwnParts (NameWrite packet) (read_name s r)
    read-parts None = neither refl refl
    read-parts (Some n) = record { key = λ h. absurd (true_is h); name = λ _. refl }

-- an account key write that gets 0 stores the key in its block
pub account_key_taken : (block : List ℕ) (s : Session) → is_taken (account_key_write block s).answer ≡ true
    → account_key_write block s ≡ key_stored (inv_cipher s.key block)
unfolding account_key_write in_stage
account_key_taken block s =
    go (is_stage s.stage Idle) (is_stage s.stage Paired) (bad_block 0x04 s.key block)
  where
    stored : SessionOutcome
    stored = key_stored (inv_cipher s.key block)

    go : (x y z : Bool)
        → is_taken (if x then answered LinkIdle s else
        if not y then dropped WrongStage else if z then dropped BadBlock else stored).answer
        ≡ true
        → (if x then answered LinkIdle s else if not y then dropped WrongStage else if z then dropped BadBlock else stored)
        ≡ stored
    go true y z h = absurd (true_is h)
    go false false z h = absurd (true_is h)
    go false true true h = absurd (true_is h)
    go false true false h = refl

-- on an idle link every event gets 9, and changes nothing
module _ (t : ℕ) (s : Session) (h : s.stage ≡ Idle) where
  is-idle : is_stage s.stage Idle ≡ true
  is-idle = ap (λ (x : Stage). is_stage x Idle) h

  pub idle_step : (e : PairingEvent) → session_step e t s ≡ answered LinkIdle s
  unfolding pairing_started confirmation_needed passkey_write pairing_ended account_key_write name_write
  idle_step (PairingStarted capability) = laws.link_idle Asked (begun t capability) s is-idle
  idle_step (ConfirmationNeeded passkey) = laws.link_idle Pairing (λ u. answered Taken (confirming t passkey u)) s is-idle
  idle_step (PasskeyWrite block salt out) = laws.link_idle Confirming (opened_passkey t block) s is-idle
  idle_step (PairingEnded true) = laws.link_idle Proved (λ u. answered Taken (becomes Paired t u)) s is-idle
  idle_step (PairingEnded false) = rw is-idle
  idle_step (AccountKeyWrite block) = laws.link_idle Paired (opened_account_key block) s is-idle
  idle_step (NameWrite packet) = rw is-idle

-- a refusal leaves the lent outputs
pub refusal_leaves : (e : PairingEvent) (t : ℕ) (s : Session) → is_taken (session_step e t s).answer ≡ false
    → leaves e t s ≡ lent e
refusal_leaves (PairingStarted capability) t s h = refl
refusal_leaves (ConfirmationNeeded passkey) t s h = refl
refusal_leaves (PasskeyWrite block salt out) t s h =
    ap (λ (o : List ℕ). o ∷ []) (laws.output_kept salt out s (passkey_write t block s) h)
refusal_leaves (PairingEnded success) t s h = refl
refusal_leaves (AccountKeyWrite block) t s h = refl
refusal_leaves (NameWrite packet) t s h = refl
