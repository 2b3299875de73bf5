-- Demand 1: what a refusal changes, leaves and hands out, and the number of keys tried and the address named that every
-- answer tells.
-- Assumes nothing.
use Rattle.std.specs.Prelude.{false, [], ◌∷◌, ◌≡◌, ℕ, if◌then◌else◌, Option, None}
use Rattle.basics.specs.Answers.{is_taken, is_one_of}
use Rattle.basics.specs.declared.Answer.{Answer}
use Rattle.key_based.specs.Decision.{tried_keys}
use Rattle.key_based.specs.Search.{none_fits, named_in}
use Rattle.key_based.specs.declared.Search.{Search}
use Rattle.key_based.specs.declared.named.Named.{Named}
use Rattle.provider.specs.Rules.Device.{clock_step, drop_all, drop_at, with_guard}
use Rattle.provider.specs.Rules.Event.{Event, LinkEvent, LinkUp, LinkDown, KeyBasedWrite, OnSession, Overflow, PowerOn, OnDevice, OnLink, lent, context_of, step, next, answer_of}
use Rattle.provider.specs.declared.Device.{Device}
use Rattle.provider.specs.declared.Reply.{Reply}
use Rattle.request_guard.specs.Guard.{failed_at}

-- the column "Changes": the device after refusal a of an event on link l at moment t
abbrev pub changed : Answer → Device → ℕ → ℕ → Device
changed a d l t =
    -- "nothing"
    if is_one_of (1 ∷ 2 ∷ 3 ∷ 13 ∷ []) a then d else
    -- "K dropped on all links; clock stays"
    if is_one_of (4 ∷ []) a then drop_all d else
    -- "count plus 1, this failure's moment stored"
    if is_one_of (7 ∷ []) a then with_guard (clock_step t d) (failed_at t (clock_step t d).guard) else
    -- "its K dropped"
    if is_one_of (10 ∷ 11 ∷ 12 ∷ []) a then drop_at (clock_step t d) l else
    -- 5, 6, 8, 9 and 16: "clock step only"; 15: "old name kept", and it keeps "K, stage and timer"
    clock_step t d

-- a marker is never refused, 14 changes nothing, and an event of the whole device is refused by 4 alone
abbrev pub refused_next : Answer → Device → Event → Device
refused_next a d Overflow = d
refused_next a d (PowerOn stored name start) = d
refused_next a d (OnDevice t e) = drop_all d
refused_next a d (OnLink l t e) = changed a d l t

-- "A refusal writes nothing to lent memory and changes only what its row names."
abbrev pub Refusals : Type 0
Refusals =
    (d : Device) (e : Event) → is_taken (answer_of d e) ≡ false
    → ((step d e).leaves ≡ lent e) × (next d e ≡ refused_next (answer_of d e) d e)

-- what trying the keys on an event comes to, if it comes to trying; on any but a key-based write there is none
abbrev pub search_on_link : LinkEvent → Device → Search
search_on_link LinkUp d = none_fits 0
search_on_link LinkDown d = none_fits 0
search_on_link (KeyBasedWrite request element salt nonce out packet) d = tried_keys (context_of d) element request
search_on_link (OnSession e) d = none_fits 0

abbrev pub search_in : Device → Event → Search
search_in d Overflow = none_fits 0
search_in d (PowerOn stored name start) = none_fits 0
search_in d (OnDevice t e) = none_fits 0
search_in d (OnLink l t e) = search_on_link e (clock_step t d)

-- "The answer tells the number of keys tried", with 0, 7 and 8. "An answer given before trying says 0."
abbrev pub told_tried : Answer → ℕ → ℕ
told_tried a n = if is_one_of (0 ∷ 7 ∷ 8 ∷ []) a then n else 0

abbrev pub NumberTried : Type 0
NumberTried = (d : Device) (e : Event) → (step d e).gives.reply.tried ≡ told_tried (answer_of d e) (search_in d e).tried

-- document 02 (vii): "The accepted answer hands this on": the address that was named. Every other answer names none
abbrev pub told_named : Answer → Option Named → Option Named
told_named a n = if is_taken a then n else None

abbrev pub AddressTold : Type 0
AddressTold = (d : Device) (e : Event) → (step d e).gives.reply.named ≡ told_named (answer_of d e) (named_in (search_in d e).found)

-- a refusal names no address and hands out none for bonding, no word on a passkey and no packet
abbrev pub refusing : Reply → Reply
refusing r =
    record { answer = r.answer; tried = r.tried; named = None; bond = None; confirm = None; packet = 0 }

abbrev pub RefusalsHandOutOnlyTried : Type 0
RefusalsHandOutOnlyTried =
    (d : Device) (e : Event) → is_taken (answer_of d e) ≡ false
    → (step d e).gives.reply ≡ refusing (step d e).gives.reply
