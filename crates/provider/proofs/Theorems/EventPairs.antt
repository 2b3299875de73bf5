-- One event in the two runs of demand 3: the second does the same, or gets 9 on a link whose K it lost.
-- Assumes nothing.
use mathlib.Core.Bool.{Bool, true, false}
use mathlib.Core.List.{List}
use mathlib.Core.Logic.{◌⊎◌, inl, inr}
use mathlib.Core.Path.{◌≡◌, refl, sym, ap, subst}
use Prim.Native.Nat.{ℕ}
use lib.Dec.{ltb}
use borrow.Author.Tests.{eqb-true, eqb-false}
use Rattle.laws.proofs.Choice.{and_left, and_right, or_left, or_right}
use Rattle.laws.specs.Choice.{◌or◌}
use Rattle.std.specs.Prelude.{if◌then◌else◌, Option, Some, None, is_some, Result, Ok, Err}
use Rattle.account_keys.proofs.ReadBack.{reads_valid}
use Rattle.account_keys.specs.Keys as keys
use Rattle.account_keys.specs.Keys.{held}
use Rattle.account_keys.specs.StoredList.{reading}
use Rattle.account_keys.specs.declared.AccountKey.{AccountKey}
use Rattle.account_keys.specs.declared.AccountKeys.{AccountKeys}
use Rattle.advertising.specs.Beacon.{refreshed}
use Rattle.basics.specs.Answers.{answer_number, is_taken}
use Rattle.basics.specs.declared.Answer.{Answer}
use Rattle.basics.specs.declared.Answer.TheVariants.{Taken, UnknownLink, ClockWentBack, ListMalformed, LinkIdle, LockedOut, NotInPairingMode, NoKeyFits, SaltSpent, RotationAwaited}
use Rattle.key_based.specs.Decision.{refused, accepted, salt_known, settled, settled_by, tried_keys, unwanted, uses_key, decided, outputs_of}
use Rattle.key_based.specs.declared.Found.{Found}
use Rattle.key_based.specs.declared.Decision.{Decision}
use Rattle.key_based.specs.declared.Search.{Search}
use Rattle.names.specs.Name.{is_name, name_of}
use Rattle.names.specs.declared.Name.{Name}
use Rattle.pairing.proofs.SessionSteps.{OwnParts, own_parts, step_lawful, idle_step, refusal_leaves}
use Rattle.sessions.proofs.Laws.{stage_idle}
use Rattle.pairing.specs.Pairing as pairing
use Rattle.pairing.specs.Pairing.{PairingEvent, is_account_key_write, is_name_write, answered, session_step, stored_in, adds_to, renamed_in}
use Rattle.pairing.specs.declared.SessionOutcome.{SessionOutcome}
use Rattle.provider.proofs.Theorems.SessionPairs.{SameOrIdle, same, second-idle, EachSameOrIdle, each_replicate, each_at, each_set, each_expired}
use Rattle.provider.proofs.Theorems.ValidParts.{no_keys_valid}
use Rattle.provider.proofs.Theorems.Validity.{stored_valid, used_valid}
use Rattle.provider.specs.Demands.Gap.{writes_key, writes_name}
use Rattle.provider.specs.Rules.Control.{started, by_list, power_on}
use Rattle.provider.specs.Rules.Device.{Effect, reply_of, answers, takes, drop_all, with_sessions, with_keys, with_beacon, with_name, with_link, clock_step, given, in_time, unless_refused, on_known_link, after_checks}
use Rattle.provider.specs.Rules.Event.{DeviceEvent, PairingMode, AddressRotated, FactoryReset, LinkEvent, LinkUp, LinkDown, KeyBasedWrite, OnSession, Event, Overflow, PowerOn, OnDevice, OnLink, lent, lent_on_link, early, context_of, requested, applied, on_device, on_link, step}
use Rattle.provider.specs.declared.Device.{Device}
use Rattle.provider.specs.declared.Reply.{Reply}
use Rattle.provider.specs.declared.Start.{Start}
use Rattle.request_guard.specs.Guard.{locked, failed_at}
use Rattle.request_guard.specs.declared.Guard.{Guard}
use Rattle.sessions.specs.Sessions.{link_count, idle, all_idle, is_stage, session_at, with_session}
use Rattle.sessions.specs.declared.Session.{Session}
use Rattle.sessions.specs.declared.Sessions.{Sessions}
use Rattle.sessions.specs.declared.Stage.TheVariants.{Idle}

-- the first run's device, and the second's links; the list of keys is valid
pub record Before (d : Device) (ss : Sessions) : Type 0 where
  pub links : EachSameOrIdle link_count d.sessions.links ss.links
  pub valid : keys.Valid d.keys

-- the devices of both runs: they differ in their links only
pub record Related (d c : Device) : Type 0 where
  pub same : c ≡ with_sessions d c.sessions
  pub before : Before d c.sessions

-- the number of the answer
abbrev number : Effect → ℕ
number x = answer_number x.gives.reply.answer

-- event e parts the runs: it writes a key or a name, which the first takes; the second still holds the keys ks
pub record Parted (ks : AccountKeys) (e : Event) (x y : Effect) : Type 0 where
  pub writes : (writes_key e or writes_name e) ≡ true
  pub first : number x ≡ 0
  pub second : number y ≡ 9
  pub keys : y.gives.next.keys ≡ ks

-- the same reply and outputs in both runs
abbrev pub SameSeen : Effect → Effect → Type 0
SameSeen x y = (x.gives.reply ≡ y.gives.reply) × (x.leaves ≡ y.leaves)

-- the second run alone gets 9, and leaves the lent outputs
abbrev pub OnlySecondIdle : List (List ℕ) → Effect → Effect → Type 0
OnlySecondIdle outs x y = (number x ≡ 9 → ⊥) × (number y ≡ 9) × (y.leaves ≡ outs)

-- the effects of event e in both runs, where the keys were ks
pub record Paired (ks : AccountKeys) (e : Event) (x y : Effect) : Type 0 where
  pub seen : SameSeen x y ⊎ OnlySecondIdle (lent e) x y
  pub next : Related x.gives.next y.gives.next ⊎ Parted ks e x y

-- a rule of event e that pairs its effects on devices which differ in their links only
pub record Pairs (e : Event) (rule : Device → Effect) : Type 0 where
  pub paired : (d : Device) (ss : Sessions) → Before d ss → Paired d.keys e (rule d) (rule (with_sessions d ss))

-- ---- parts of rules

-- the same reply and outputs in both
replied : (d : Device) (ss : Sessions) (r : Reply) {outs : List (List ℕ)} {e : Event} {ks : AccountKeys} → Before d ss
    → Paired ks e (record { gives = record { next = d; reply = r }; leaves = outs })
    (record { gives = record { next = with_sessions d ss; reply = r }; leaves = outs })
replied d ss r b = record { seen = inl (refl, refl); next = inl (record { same = refl; before = b }) }

-- the same test in both
paired_if : (b : Bool) {ks : AccountKeys} {e : Event} {x y z w : Effect} → Paired ks e x z → Paired ks e y w
    → Paired ks e (if b then x else y) (if b then z else w)
paired_if true p q = p
paired_if false p q = q

-- a test of the event alone, and then one of two rules
pairs_if : (b : Bool) {e : Event} {p q : Device → Effect} → Pairs e p → Pairs e q
    → Pairs e (λ d. if b then p d else q d)
pairs_if true r s = r
pairs_if false r s = s

-- a refusal that changes nothing
pairs_refused : (a : Answer) {e : Event} → Pairs e (λ d. answers d a (lent e))
pairs_refused a = record { paired = λ d ss b. replied d ss (reply_of a) b }

-- other sessions of link l
before_set : (l : ℕ) {s u : Session} → SameOrIdle s u → {d : Device} {ss : Sessions} → Before d ss
    → Before (with_link d l s) (with_session ss l u)
before_set l p b = record { links = each_set b.links l p; valid = b.valid }

-- all links idle in both
before_dropped : (d : Device) (ss : Sessions) → Before d ss → Before (drop_all d) all_idle
before_dropped d ss b = record { links = each_replicate link_count idle; valid = b.valid }

-- the clock step in both
before_stepped : (d : Device) (ss : Sessions) (t : ℕ) → Before d ss
    → Before (clock_step t d) (clock_step t (with_sessions d ss)).sessions
unfolding clock_step
before_stepped d ss t b = record { links = each_expired t b.links; valid = b.valid }

-- answer 4, or a rule after the clock step
pairs_in_time : (t : ℕ) {e : Event} {rule : Device → Effect} → Pairs e rule
    → Pairs e (λ d. after_checks (in_time d t) (lent e) rule)
unfolding in_time clock_step
pairs_in_time t {e} {rule} r = record { paired = λ d ss b. go d ss b (ltb t d.clock.0) }
  where
    go : (d : Device) (ss : Sessions) → Before d ss → (late : Bool)
        → Paired d.keys e
        (after_checks (if late then Err (given (drop_all d) ClockWentBack) else Ok (clock_step t d)) (lent e) rule)
        (after_checks (if late then Err (given (drop_all (with_sessions d ss)) ClockWentBack) else
        Ok (clock_step t (with_sessions d ss))) (lent e) rule)
    go d ss b true = replied (drop_all d) all_idle (reply_of ClockWentBack) (before_dropped d ss b)
    go d ss b false = r.paired (clock_step t d) (clock_step t (with_sessions d ss)).sessions (before_stepped d ss t b)

-- ---- power-on and events of the whole device

-- both runs have the device that power-on made
pub before_started : (stored : List ℕ) (ks : AccountKeys) (n : Name) (start : Start) → reading stored ≡ Some ks
    → Before (started ks n start) all_idle
before_started stored ks n start e = record { links = each_replicate link_count idle; valid = reads_valid stored ks e }

power_on_pairs : (stored name : List ℕ) (start : Start) → Pairs (PowerOn stored name start) (λ d. power_on d stored name start)
unfolding power_on
power_on_pairs stored name start = record { paired = λ d ss b. go d ss b (reading stored) refl (is_name name) }
  where
    go : (d : Device) (ss : Sessions) → Before d ss → (r : Option AccountKeys) → reading stored ≡ r → (good : Bool)
        → Paired d.keys (PowerOn stored name start)
        (by_list d r (if good then Some (name_of name) else None) start)
        (by_list (with_sessions d ss) r (if good then Some (name_of name) else None) start)
    go d ss b (Some ks) e true =
        replied (started ks (name_of name) start) all_idle (reply_of Taken)
        (before_started stored ks (name_of name) start e)
    go d ss b (Some ks) e false = replied d ss (reply_of ListMalformed) b
    go d ss b None e good = replied d ss (reply_of ListMalformed) b

device_pairs : (t : ℕ) (e : DeviceEvent) → Pairs (OnDevice t e) (λ d. takes (on_device e d))
device_pairs t (PairingMode on) = record {
  paired = λ d ss b. replied (on_device (PairingMode on) d) ss (reply_of Taken) (record { links = b.links; valid = b.valid });
}
device_pairs t (AddressRotated ble salt) = record {
  paired = λ d ss b. replied (on_device (AddressRotated ble salt) d) ss (reply_of Taken)
      (record { links = b.links; valid = b.valid });
}
device_pairs t FactoryReset = record {
  paired = λ d ss b. replied (on_device FactoryReset d) all_idle (reply_of Taken)
      (record { links = each_replicate link_count idle; valid = no_keys_valid });
}

-- ---- key-based write: its answer does not depend on any session

-- what a decision does
abbrev decided_effect : ℕ → List ℕ → List ℕ → List ℕ → List ℕ → Device → Decision → Effect
decided_effect l salt nonce out packet d r =
    record {
      gives = requested d l r;
      leaves = outputs_of (context_of d) salt nonce out packet r;
    }

module _ (l t : ℕ) (request : List ℕ) (element : Option (List ℕ)) (salt nonce out packet : List ℕ) (d : Device) (ss : Sessions)
    (b : Before d ss) where
  -- both runs' effects of a decision
  abbrev BothDecide : Decision → Decision → Type 0
  BothDecide r q =
      Paired d.keys (OnLink l t (KeyBasedWrite request element salt nonce out packet))
      (decided_effect l salt nonce out packet d r) (decided_effect l salt nonce out packet (with_sessions d ss) q)

  -- a refusal leaves both sessions
  refused-pair : (g : Guard) (a : Answer) (n : ℕ) → is_taken a ≡ false
      → BothDecide (refused g (session_at d.sessions l) a n) (refused g (session_at ss l) a n)
  refused-pair g a n h = record {
    seen = inl (refl, rw h);
    next = inl (record {
      same = refl;
      before = before_set l (each_at b.links l) (record { links = b.links; valid = b.valid });
    });
  }

  -- an accepted request gives both the same session
  accepted-pair : (g : Guard) (uses : Bool) (n : ℕ) (f : Found) → BothDecide (accepted g t uses n f) (accepted g t uses n f)
  accepted-pair g uses n f = record {
    seen = inl (refl, refl);
    next = inl (record {
      same = refl;
      before = before_set l same (record { links = b.links; valid = used_valid uses f.key d.keys b.valid });
    });
  }

  -- a spent salt is refused in both
  salt-pair : (g : Guard) (uses : Bool) (n : ℕ) (f : Found) (known : Bool)
      → BothDecide (if known then refused g (session_at d.sessions l) SaltSpent n else accepted g t uses n f)
      (if known then refused g (session_at ss l) SaltSpent n else accepted g t uses n f)
  salt-pair g uses n f true = refused-pair g SaltSpent n refl
  salt-pair g uses n f false = accepted-pair g uses n f

  -- answers 7 and 8, and what is accepted
  settled-pair : (g : Guard) (uses : Bool) (n : ℕ) (f : Option Found)
      → BothDecide (settled_by g (session_at d.sessions l) t uses n f) (settled_by g (session_at ss l) t uses n f)
  settled-pair g uses n None = refused-pair (failed_at t g) NoKeyFits n refl
  settled-pair g uses n (Some f) = salt-pair g uses n f (salt_known g (Some f))

request_pairs : (l t : ℕ) (request : List ℕ) (element : Option (List ℕ)) (salt nonce out packet : List ℕ)
    → Pairs (OnLink l t (KeyBasedWrite request element salt nonce out packet))
    (λ d. on_link (KeyBasedWrite request element salt nonce out packet) d l t)
unfolding decided settled
request_pairs l t request element salt nonce out packet = record {
  paired = λ d ss b. go d ss b (locked d.guard) d.wait.on (unwanted (context_of d) request)
      (tried_keys (context_of d) element request);
}
  where
    go : (d : Device) (ss : Sessions) (b : Before d ss) (x v y : Bool) (r : Search)
        → BothDecide l t request element salt nonce out packet d ss b
        (if x then refused d.guard (session_at d.sessions l) LockedOut 0 else
        if v then refused d.guard (session_at d.sessions l) RotationAwaited 0 else
        if y then refused d.guard (session_at d.sessions l) NotInPairingMode 0 else
        settled_by d.guard (session_at d.sessions l) t (uses_key request) r.tried r.found)
        (if x then refused d.guard (session_at ss l) LockedOut 0 else
        if v then refused d.guard (session_at ss l) RotationAwaited 0 else
        if y then refused d.guard (session_at ss l) NotInPairingMode 0 else
        settled_by d.guard (session_at ss l) t (uses_key request) r.tried r.found)
    go d ss b true v y r = refused-pair l t request element salt nonce out packet d ss b d.guard LockedOut 0 refl
    go d ss b false true y r = refused-pair l t request element salt nonce out packet d ss b d.guard RotationAwaited 0 refl
    go d ss b false false true r = refused-pair l t request element salt nonce out packet d ss b d.guard NotInPairingMode 0 refl
    go d ss b false false false r = settled-pair l t request element salt nonce out packet d ss b d.guard (uses_key request)
        r.tried r.found

-- ---- pairing, passkey and account key events, and the name write

-- the outcome of a session in the device, and the lent outputs that it leaves
abbrev applied_effect : ℕ → Device → SessionOutcome → List (List ℕ) → Effect
applied_effect l d a outs = record { gives = applied d l a; leaves = outs }

-- the first run alone is served with outcome a: a key or a name that it takes parts the runs
module _ (e : PairingEvent) (l t : ℕ) (u : Session) (a : SessionOutcome) (own : OwnParts e a) (d : Device) (ss : Sessions)
    (b : Before d ss) (idle-second : u.stage ≡ Idle) (outs : List (List ℕ)) where
  abbrev first : Effect
  first = applied_effect l d a outs

  abbrev second : Effect
  second = applied_effect l (with_sessions d ss) (answered LinkIdle u) (pairing.lent e)

  abbrev Next : Type 0
  Next =
      Related first.gives.next second.gives.next
      ⊎ Parted d.keys (OnLink l t (OnSession e)) first second

  parted : (is_account_key_write e or is_name_write e) ≡ true → is_taken a.answer ≡ true → Next
  parted w h = inr (record { writes = w; first = eqb-true _ 0 h; second = refl; keys = refl })

  related : a.key ≡ None → a.name ≡ None → Next
  related p q = inl (record {
    same = λ i. with_name (with_beacon (with_keys (with_link (with_sessions d ss) l u) (sym same_keys i)) (sym same-beacon i))
        (sym same_name i);
    before = record { links = each_set b.links l (second-idle idle-second); valid = rw p b.valid };
  })
    where
      same_keys : stored_in a d.keys ≡ d.keys
      same_keys = rw p

      same-beacon : refreshed d.beacon (adds_to a d.keys) (held (stored_in a d.keys)) ≡ d.beacon
      same-beacon = rw p

      same_name : renamed_in a d.name ≡ d.name
      same_name = rw q

  next-alone : Next
  next-alone = go a.key a.name refl refl
    where
      k : Bool
      k = is_account_key_write e

      n : Bool
      n = is_name_write e

      go : (x : Option AccountKey) (y : Option Name) → a.key ≡ x → a.name ≡ y → Next
      go (Some x) y p q = let h = own.key (ap is_some p) in parted (or_left k n (and_left k _ h)) (and_right k _ h)
      go None (Some y) p q = let h = own.name (ap is_some q) in parted (or_right k n (and_left n _ h)) (and_right n _ h)
      go None None p q = related p q

session_pairs : (e : PairingEvent) (l t : ℕ) → Pairs (OnLink l t (OnSession e)) (λ d. on_link (OnSession e) d l t)
session_pairs e l t = record { paired = λ d ss b. go d ss b (each_at b.links l) }
  where
    -- the second run's link is idle
    lost : (d : Device) (ss : Sessions) (s u : Session) → Before d ss → u.stage ≡ Idle
        → Paired d.keys (OnLink l t (OnSession e))
        (applied_effect l d (session_step e t s) (pairing.leaves e t s))
        (applied_effect l (with_sessions d ss) (answered LinkIdle u) (pairing.lent e))
    lost d ss s u b h = record {
      seen = by (is_stage s.stage Idle) refl;
      next = next-alone e l t u (session_step e t s) (own_parts e t s) d ss b h (pairing.leaves e t s);
    }
      where
        by : (x : Bool) → is_stage s.stage Idle ≡ x
            → SameSeen (applied_effect l d (session_step e t s) (pairing.leaves e t s))
            (applied_effect l (with_sessions d ss) (answered LinkIdle u) (pairing.lent e))
            ⊎ OnlySecondIdle (pairing.lent e) (applied_effect l d (session_step e t s) (pairing.leaves e t s))
            (applied_effect l (with_sessions d ss) (answered LinkIdle u) (pairing.lent e))
        by true q =
            let a : session_step e t s ≡ answered LinkIdle s = idle_step t s (stage_idle s q) e in
            inl (
              ap (λ (x : SessionOutcome). (applied d l x).reply) a,
              refusal_leaves e t s (ap (λ (x : SessionOutcome). is_taken x.answer) a),
            )
        by false q = inr (eqb-false _ 9 ((step_lawful e t s).held q), refl, refl)

    go : (d : Device) (ss : Sessions) → Before d ss → {s u : Session} → SameOrIdle s u
        → Paired d.keys (OnLink l t (OnSession e))
        (applied_effect l d (session_step e t s) (pairing.leaves e t s))
        (applied_effect l (with_sessions d ss) (session_step e t u) (pairing.leaves e t u))
    go d ss b {s} same = record {
      seen = inl (refl, refl);
      next = inl (record {
        same = refl;
        before = before_set l same (record {
          links = b.links;
          valid = stored_valid (session_step e t s) d.keys b.valid (step_lawful e t s).storable;
        });
      });
    }
    go d ss b {s} {u} (second-idle h) =
        let a : session_step e t u ≡ answered LinkIdle u = idle_step t u h e in
        subst (λ (y : Effect). Paired d.keys (OnLink l t (OnSession e))
        (applied_effect l d (session_step e t s) (pairing.leaves e t s)) y)
        (λ i. applied_effect l (with_sessions d ss) (sym a i)
        (sym (refusal_leaves e t u (ap (λ (x : SessionOutcome). is_taken x.answer) a)) i))
        (lost d ss s u b h)

-- ---- every event

link_pairs : (e : LinkEvent) (l t : ℕ) → Pairs (OnLink l t e) (λ d. on_link e d l t)
link_pairs LinkUp l t = record {
  paired = λ d ss b. replied (with_link d l idle) (with_session ss l idle) (reply_of Taken) (before_set l same b);
}
link_pairs LinkDown l t = record {
  paired = λ d ss b. replied (with_link d l idle) (with_session ss l idle) (reply_of Taken) (before_set l same b);
}
link_pairs (KeyBasedWrite request element salt nonce out packet) l t =
    request_pairs l t request element salt nonce out packet
link_pairs (OnSession e) l t = session_pairs e l t

pub step_pairs : (e : Event) → Pairs e (λ d. step d e)
unfolding on_known_link
step_pairs Overflow = record {
  paired = λ d ss b. replied (drop_all d) all_idle (reply_of Taken) (before_dropped d ss b);
}
step_pairs (PowerOn stored name start) = power_on_pairs stored name start
step_pairs (OnDevice t e) = pairs_in_time t (device_pairs t e)
step_pairs (OnLink l t e) = go (ltb 7 l) (early e)
  where
    go : (unknown : Bool) (checked : Result Unit Answer) → Pairs (OnLink l t e)
        (λ d. after_checks (if unknown then Err (given d UnknownLink) else unless_refused d checked (in_time d t))
        (lent_on_link e) (λ x. on_link e x l t))
    go true checked = pairs_refused UnknownLink
    go false (Err a) = pairs_refused a
    go false (Ok u) = pairs_in_time t (link_pairs e l t)
