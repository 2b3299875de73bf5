-- Demand 3, "A gap only takes away": one claim about the whole list of events and every way of adding overflow markers.
-- Assumes nothing.
use Rattle.std.specs.Prelude.{Bool, true, false, List, [], ◌∷◌, ◌⊎◌, ◌≡◌, ℕ, eqb, Option, Some, None}
use Rattle.laws.specs.Choice.{◌and◌, ◌or◌}
use Rattle.account_keys.specs.Keys.{held, member}
use Rattle.account_keys.specs.StoredList.{reading}
use Rattle.account_keys.specs.declared.AccountKey.{AccountKey}
use Rattle.account_keys.specs.declared.AccountKeys.{AccountKeys}
use Rattle.basics.specs.Answers.{answer_number}
use Rattle.basics.specs.declared.Answer.TheVariants.{Taken}
use Rattle.key_based.specs.Named.{asks_rotation}
use Rattle.names.specs.Name.{text_of}
use Rattle.pairing.specs.Pairing.{PairingEvent, PairingStarted, ConfirmationNeeded, PasskeyWrite, PairingEnded, AccountKeyWrite, NameWrite, is_account_key_write, is_name_write}
use Rattle.provider.specs.Demands.Validity.{written}
use Rattle.provider.specs.Rules.Event.{Event, LinkEvent, LinkUp, LinkDown, KeyBasedWrite, OnSession, Overflow, PowerOn, OnDevice, OnLink, lent, step, next, answer_of}
use Rattle.provider.specs.declared.Device.{Device}
use Rattle.provider.specs.declared.Reply.{Reply}
use Rattle.provider.specs.declared.Start.{Start}

-- ---- events

-- fs is es with overflow markers added
pub data Marked : List Event → List Event → Type 0 where
  done : Marked [] []
  same : (e : Event) {es fs : List Event} → Marked es fs → Marked (e ∷ es) (e ∷ fs)
  added : {es fs : List Event} → Marked es fs → Marked es (Overflow ∷ fs)

-- an event on link l of a kind
abbrev pub is_of : (LinkEvent → Bool) → ℕ → Event → Bool
is_of kind l Overflow = false
is_of kind l (PowerOn stored name start) = false
is_of kind l (OnDevice t e) = false
is_of kind l (OnLink m t e) = eqb m l and kind e

abbrev pub any_kind : LinkEvent → Bool
any_kind e = true

abbrev pub is_request : LinkEvent → Bool
is_request LinkUp = false
is_request LinkDown = false
is_request (KeyBasedWrite request element salt nonce out packet) = true
is_request (OnSession e) = false

-- a passkey write, account key write or name write
abbrev pub needs_key : LinkEvent → Bool
needs_key LinkUp = false
needs_key LinkDown = false
needs_key (KeyBasedWrite request element salt nonce out packet) = false
needs_key (OnSession (PairingStarted capability)) = false
needs_key (OnSession (ConfirmationNeeded passkey)) = false
needs_key (OnSession (PasskeyWrite block salt out)) = true
needs_key (OnSession (PairingEnded success)) = false
needs_key (OnSession (AccountKeyWrite block)) = true
needs_key (OnSession (NameWrite packet)) = true

-- an event of a kind on a session, on any link
abbrev pub is_session_event : (PairingEvent → Bool) → Event → Bool
is_session_event kind Overflow = false
is_session_event kind (PowerOn stored name start) = false
is_session_event kind (OnDevice t e) = false
is_session_event kind (OnLink l t LinkUp) = false
is_session_event kind (OnLink l t LinkDown) = false
is_session_event kind (OnLink l t (KeyBasedWrite request element salt nonce out packet)) = false
is_session_event kind (OnLink l t (OnSession e)) = kind e

-- an account key write, of any key
abbrev pub writes_key : Event → Bool
writes_key = is_session_event is_account_key_write

abbrev pub writes_name : Event → Bool
writes_name = is_session_event is_name_write

-- ---- what is seen of a run: `S` is a state and `R` all that an answer hands out
pub record Observed (S R : Type 0) : Type 0 where
  pub next : S → Event → S
  pub number : S → Event → ℕ
  pub reply : S → Event → R
  pub leaves : S → Event → List (List ℕ)
  pub written : S → List ℕ
  pub name : S → List ℕ
  -- document 02 (vii): a rotation is awaited; the answer asks for one
  pub waits : S → Bool
  pub rotate : S → Event → Bool

-- the rules, so seen
abbrev pub rules : Observed Device Reply
rules =
    record {
      next = next;
      number = λ d e. answer_number (answer_of d e);
      reply = λ d e. (step d e).gives.reply;
      leaves = λ d e. (step d e).leaves;
      written = written;
      name = λ d. text_of d.name;
      waits = λ d. d.wait.on;
      rotate = λ d e. asks_rotation (step d e).gives.reply.named;
    }

-- a key of a list that was read; a malformed one holds none
abbrev pub listed : Option AccountKeys → AccountKey → Bool
listed (Some ks) k = member (held ks) k
listed None k = false

-- a key that a written list holds
abbrev pub Lists : List ℕ → AccountKey → Type 0
Lists b k = listed (reading b) k ≡ true

module _ {S R : Type 0} (o : Observed S R) where
  -- "stores a key exactly if the stored list written out after it holds a key that the one written out before it does not"
  abbrev pub Stores : S → Event → AccountKey → Type 0
  Stores d e k = Lists (o.written (o.next d e)) k × (Lists (o.written d) k → ⊥)

  -- "Compared are its answer number, all that the answer hands out .. and every byte of its lent outputs afterwards."
  abbrev pub Alike : S → S → Event → Type 0
  Alike d c e = (o.reply d e ≡ o.reply c e) × (o.leaves d e ≡ o.leaves c e)

  -- "Where only the second run gets 9, these are not compared, but that run's outputs keep their bytes."
  abbrev pub Lost : S → S → Event → Type 0
  Lost d c e = (o.number d e ≡ 9 → ⊥) × (o.number c e ≡ 9) × (o.leaves c e ≡ lent e)

  -- an event of the first run on state d and of the second on state c; where the second stores a key, the first stores the same
  abbrev pub Compared : S → S → Event → Type 0
  Compared d c e = (Alike d c e ⊎ Lost d c e) × ((k : AccountKey) → Stores c e k → Stores d e k)

  -- the parting, document 02 (ii): "the first account key write, of a new or a held key, or name that only the first run takes"; it
  -- gets 0 there, and 9 in the second run
  abbrev pub Parting : S → S → Event → Type 0
  Parting d c e = ((writes_key e or writes_name e) ≡ true) × (o.number d e ≡ 0) × (o.number c e ≡ 9)

  -- up to and including the parting every event compares, "this wait is alike in both runs" after it (document 02 (vii)), and after
  -- each event but the parting the written lists and the names are equal
  abbrev pub TwoRuns : (d c : S) {es fs : List Event} → Marked es fs → Type 0
  TwoRuns d c done = Unit
  TwoRuns d c (added m) = TwoRuns d (o.next c Overflow) m
  TwoRuns d c (same e m) =
      Compared d c e × (o.waits (o.next d e) ≡ o.waits (o.next c e))
      × (Parting d c e ⊎
      ((o.written (o.next d e) ≡ o.written (o.next c e)) × (o.name (o.next d e) ≡ o.name (o.next c e))
      × TwoRuns (o.next d e) (o.next c e) m))

  -- "A request is accepted .. exactly when its write gets 0"
  abbrev pub Accepts : ℕ → S → Event → Type 0
  Accepts l d e = (is_of is_request l e ≡ true) × (o.number d e ≡ 0)

  -- no passkey write, account key write or name write on link l gets 0, and no event on l stores a key
  abbrev pub Quiet : ℕ → S → Event → Type 0
  Quiet l d e =
      (is_of needs_key l e ≡ true → o.number d e ≡ 0 → ⊥)
      × (is_of any_kind l e ≡ true → (k : AccountKey) → Stores d e k → ⊥)

  abbrev pub QuietUntilRequest : ℕ → S → List Event → Type 0
  QuietUntilRequest l d [] = Unit
  QuietUntilRequest l d (e ∷ es) = Quiet l d e × (Accepts l d e ⊎ QuietUntilRequest l (o.next d e) es)

  -- the last sentence, about every run: after a marker each link is quiet until a request is accepted on it
  abbrev pub AfterMarkers : S → List Event → Type 0
  AfterMarkers d [] = Unit
  AfterMarkers d (e ∷ es) =
      (e ≡ Overflow → (l : ℕ) → QuietUntilRequest l (o.next d e) es) × AfterMarkers (o.next d e) es

  -- the claim, of two runs that start from state s
  abbrev pub OnlyTakesAway : S → Type 0
  OnlyTakesAway s =
      (es fs : List Event) (m : Marked es fs) → TwoRuns s s m × AfterMarkers s es × AfterMarkers s fs

-- "Both runs start from the state that the same taken power-on gave."
abbrev pub GapOnlyTakesAway : Type 0
GapOnlyTakesAway =
    (d : Device) (stored name : List ℕ) (start : Start) → answer_of d (PowerOn stored name start) ≡ Taken
    → OnlyTakesAway rules (next d (PowerOn stored name start))
