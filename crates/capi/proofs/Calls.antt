-- Calls are steps; demand 3 and the payload of calls: what holds of the rules holds of what firmware sees of them.
-- Assumes nothing.
use mathlib.Core.Bool.{Bool, true, false}
use mathlib.Core.List.{List, [], ◌∷◌}
use mathlib.Core.Logic.{inl, inr, ⊎_elim}
use mathlib.Core.Path.{◌≡◌, refl, sym, ap, subst, ◌∙◌}
use Prim.Native.Nat.{ℕ}
use lib.Dec.{eqb}
use borrow.Author.Tests.{eq-eqb}
use Rattle.account_keys.specs.StoredList.{stored_list_max}
use Rattle.account_keys.specs.declared.AccountKey.{AccountKey}
use Rattle.basics.proofs.Answers.{number_taken}
use Rattle.basics.specs.Answers.{answer_number}
use Rattle.basics.specs.Output.{report_of, placed}
use Rattle.packed.proofs.ReadsBack.{flag_back, packed_reads_back, unpacked_back, any_bytes}
use Rattle.capi.specs.Calls.{on_device, served, lent_back, returned, no_report, told, written_to}
use Rattle.capi.specs.Demands.{CallIsStep, after_calls, CallsAreSteps, calls, CallsOnlyTakeAway, AdvertisesAfresh, CallsAdvertiseAfresh, CallsAcceptNoneWhileAwaited}
use Rattle.packed.specs.Packed.{packed, packed_reply, packed_outcome, packed_report, unpacked, device_of}
use Rattle.packed.specs.declared.FpDevice.{FpDevice}
use Rattle.packed.specs.declared.FpOutcome.{FpOutcome}
use Rattle.packed.specs.declared.FpReply.{FpReply}
use Rattle.laws.proofs.Choice.{true_is}
use Rattle.laws.proofs.Padded.{take_padded}
use Rattle.std.specs.Prelude.{Option, Some, None, unwrap_or}
use Rattle.std.specs.Option.{option_map_or}
use Rattle.names.specs.Name.{text_of}
use Rattle.provider.proofs.Theorems.Gap.{gap_only_takes_away}
use Rattle.provider.proofs.Theorems.KeptFilter.{filter_kept}
use Rattle.provider.proofs.Theorems.Rotation.{none_while_awaited}
use Rattle.provider.proofs.Theorems.Validity.{stays_valid, starts_valid, after_valid}
use Rattle.provider.specs.Demands.Gap.{Marked, done, same, added, rules, Lists, Stores, Alike, Lost, Compared, Parting, TwoRuns, QuietUntilRequest, AfterMarkers}
use Rattle.provider.specs.Demands.KeptFilter.{payload_afresh}
use Rattle.provider.specs.Demands.Rotation.{NoneUntilLifted}
use Rattle.provider.specs.Demands.Validity.{Valid, written}
use Rattle.provider.specs.Rules.Control.{advertised, off}
use Rattle.provider.specs.Rules.Event.{Event, Overflow, PowerOn, step, next, answer_of, after}
use Rattle.provider.specs.declared.Device.{Device}

-- ---- a call is a step

pub call_is_step : CallIsStep
unfolding served lent_back
call_is_step d e v =
    let back = unpacked_back d v in (rw back, rw back)

pub calls_are_steps : CallsAreSteps
unfolding after_calls after
calls_are_steps d [] v = refl
calls_are_steps d (e ∷ es) v =
    ap (λ (o : FpOutcome). after_calls o.next es) (call_is_step d e v).0
    ∙ calls_are_steps (next d e) es (stays_valid d e v)

-- ---- what is seen of a call is what is seen of the rules' step

module _ (d : Device) (v : Valid d) (e : Event) where
  seen_next : (served (packed d) e).next ≡ packed (next d e)
  seen_next = ap (λ (o : FpOutcome). o.next) (call_is_step d e v).0

  seen-reply : (served (packed d) e).reply ≡ packed_reply (step d e).gives.reply
  seen-reply = ap (λ (o : FpOutcome). o.reply) (call_is_step d e v).0

  seen-number : (served (packed d) e).reply.answer ≡ answer_number (answer_of d e)
  seen-number = ap (λ (r : FpReply). r.answer) seen-reply

  seen-leaves : lent_back (packed d) e ≡ (step d e).leaves
  seen-leaves = (call_is_step d e v).1

-- the list in C's device is the list written out
seen_written : (d : Device) → calls.written (packed d) ≡ written d
unfolding packed
seen_written d = take_padded stored_list_max 0 (written d)

-- and the name in it the device's
seen_name : (d : Device) → calls.name (packed d) ≡ text_of d.name
unfolding packed
seen_name d = refl

-- and a rotation is awaited as in the device
seen_waits : (d : Device) → calls.waits (packed d) ≡ d.wait.on
unfolding packed
seen_waits d = flag_back d.wait.on

module _ (d : Device) (v : Valid d) (e : Event) where
  seen-written-next : calls.written (served (packed d) e).next ≡ written (next d e)
  seen-written-next = ap (λ (f : FpDevice). calls.written f) (seen_next d v e) ∙ seen_written (next d e)

  seen-name-next : calls.name (served (packed d) e).next ≡ text_of (next d e).name
  seen-name-next = ap (λ (f : FpDevice). calls.name f) (seen_next d v e) ∙ seen_name (next d e)

  seen-waits-next : calls.waits (served (packed d) e).next ≡ (next d e).wait.on
  seen-waits-next = ap (λ (f : FpDevice). calls.waits f) (seen_next d v e) ∙ seen_waits (next d e)

  -- both store the same keys
  to-calls : (k : AccountKey) → Stores rules d e k → Stores calls (packed d) e k
  to-calls k s = (
    subst (λ (b : List ℕ). Lists b k) (sym seen-written-next) s.0,
    λ h. s.1 (subst (λ (b : List ℕ). Lists b k) (seen_written d) h),
  )

  to-rules : (k : AccountKey) → Stores calls (packed d) e k → Stores rules d e k
  to-rules k s = (
    subst (λ (b : List ℕ). Lists b k) seen-written-next s.0,
    λ h. s.1 (subst (λ (b : List ℕ). Lists b k) (sym (seen_written d)) h),
  )

-- ---- one event in two runs

module _ (d c : Device) (v : Valid d) (w : Valid c) (e : Event) where
  alike : Alike rules d c e → Alike calls (packed d) (packed c) e
  alike a = (
    seen-reply d v e ∙ ap packed_reply a.0 ∙ sym (seen-reply c w e),
    seen-leaves d v e ∙ a.1 ∙ sym (seen-leaves c w e),
  )

  lost : Lost rules d c e → Lost calls (packed d) (packed c) e
  lost a = (
    λ h. a.0 (sym (seen-number d v e) ∙ h),
    seen-number c w e ∙ a.1,
    seen-leaves c w e ∙ a.2,
  )

  compared : Compared rules d c e → Compared calls (packed d) (packed c) e
  compared a = (
    ⊎_elim (λ x. inl (alike x)) (λ x. inr (lost x)) a.0,
    λ k s. to-calls d v e k (a.1 k (to-rules c w e k s)),
  )

  parting : Parting rules d c e → Parting calls (packed d) (packed c) e
  parting p = (p.0, seen-number d v e ∙ p.1, seen-number c w e ∙ p.2)

-- ---- runs

two_runs : {es fs : List Event} (m : Marked es fs) (d c : Device) → Valid d → Valid c → TwoRuns rules d c m
    → TwoRuns calls (packed d) (packed c) m
two_runs done d c v w r = tt
two_runs (added m) d c v w r =
    subst (λ (f : FpDevice). TwoRuns calls (packed d) f m) (sym (seen_next c w Overflow))
    (two_runs m d (next c Overflow) v (stays_valid c Overflow w) r)
two_runs (same e m) d c v w r = (
  compared d c v w e r.0,
  seen-waits-next d v e ∙ r.1 ∙ sym (seen-waits-next c w e),
  ⊎_elim (λ p. inl (parting d c v w e p)) (λ q. inr (
    seen-written-next d v e ∙ q.0 ∙ sym (seen-written-next c w e),
    seen-name-next d v e ∙ q.1 ∙ sym (seen-name-next c w e),
    subst (λ (f : FpDevice). TwoRuns calls f (served (packed c) e).next m) (sym (seen_next d v e))
        (subst (λ (f : FpDevice). TwoRuns calls (packed (next d e)) f m) (sym (seen_next c w e))
        (two_runs m (next d e) (next c e) (stays_valid d e v) (stays_valid c e w) q.2)),
  )) r.2,
)

quiet_until_request : (l : ℕ) (es : List Event) (d : Device) → Valid d → QuietUntilRequest rules l d es
    → QuietUntilRequest calls l (packed d) es
quiet_until_request l [] d v q = tt
quiet_until_request l (e ∷ es) d v q = (
  (λ n h. q.0.0 n (sym (seen-number d v e) ∙ h), λ n k s. q.0.1 n k (to-rules d v e k s)),
  ⊎_elim (λ a. inl (a.0, seen-number d v e ∙ a.1)) (λ r. inr
      (subst (λ (f : FpDevice). QuietUntilRequest calls l f es) (sym (seen_next d v e))
      (quiet_until_request l es (next d e) (stays_valid d e v) r))) q.1,
)

after_markers : (es : List Event) (d : Device) → Valid d → AfterMarkers rules d es → AfterMarkers calls (packed d) es
after_markers [] d v a = tt
after_markers (e ∷ es) d v a = (
  λ is l. subst (λ (f : FpDevice). QuietUntilRequest calls l f es) (sym (seen_next d v e))
      (quiet_until_request l es (next d e) (stays_valid d e v) (a.0 is l)),
  subst (λ (f : FpDevice). AfterMarkers calls f es) (sym (seen_next d v e))
      (after_markers es (next d e) (stays_valid d e v) a.1),
)

-- ---- from a taken power-on

-- what an answer says, and the one to bytes that are no device does not, comes of the device that the bytes are
of_device : (f : FpDevice) (e : Event) (says : FpReply → Bool) → says (returned f).reply ≡ false
    → says (served f e).reply ≡ true → served f e ≡ packed_outcome (step (device_of f) e).gives
unfolding served
of_device f e says n = go (unpacked f)
  where
    answer : Option Device → FpOutcome
    answer r = option_map_or (λ d. packed_outcome (step d e).gives) r (returned f)

    go : (r : Option Device) → says (answer r).reply ≡ true → answer r ≡ packed_outcome (step (unwrap_or r off) e).gives
    go (Some d) h = refl
    go None h = absurd (true_is (sym n ∙ h))

-- only bytes that are a device get 0
taken_is_device : (f : FpDevice) (e : Event) → (served f e).reply.answer ≡ 0
    → ((served f e).next ≡ packed (next (device_of f) e)) × (answer_number (answer_of (device_of f) e) ≡ 0)
taken_is_device f e h =
    let s = of_device f e (λ r. eqb r.answer 0) refl (eq-eqb (served f e).reply.answer 0 h) in
    (ap (λ (o : FpOutcome). o.next) s, sym (ap (λ (o : FpOutcome). o.reply.answer) s) ∙ h)

pub calls_only_take_away : CallsOnlyTakeAway
calls_only_take_away f stored name start h es fs m =
    let t = taken_is_device f (PowerOn stored name start) h in
    let d = device_of f in
    let taken = number_taken (answer_of d (PowerOn stored name start)) t.1 in
    let s = next d (PowerOn stored name start) in
    let v : Valid s = starts_valid d stored name start taken in
    let r = gap_only_takes_away d stored name start taken es fs m in
    rw t.0 (two_runs m s s v v r.0, after_markers es s v r.1, after_markers fs s v r.2)

-- ---- the wait for a rotation

none_until_lifted : (es : List Event) (d : Device) → Valid d → NoneUntilLifted rules d es
    → NoneUntilLifted calls (packed d) es
none_until_lifted [] d v q = tt
none_until_lifted (e ∷ es) d v q = (
  λ l a. q.0 l (a.0, sym (seen-number d v e) ∙ a.1),
  ⊎_elim (λ x. inl (x.0, seen-number d v e ∙ x.1)) (λ r. inr
      (subst (λ (f : FpDevice). NoneUntilLifted calls f es) (sym (seen_next d v e))
      (none_until_lifted es (next d e) (stays_valid d e v) r))) q.1,
)

pub calls_accept_none_while_awaited : CallsAcceptNoneWhileAwaited
calls_accept_none_while_awaited f e h es =
    let s = of_device f e (λ r. r.rotate) refl h in
    let d = device_of f in
    let asked = sym (ap (λ (o : FpOutcome). o.reply.rotate) s) ∙ h in
    subst (λ (g : FpDevice). NoneUntilLifted calls g es) (sym (ap (λ (o : FpOutcome). o.next) s))
    (none_until_lifted es (next d e) (stays_valid d e (any_bytes f)) (none_while_awaited d e asked es))

-- ---- the payload

-- what is told and written goes by the text of the device that was read
module _ (f : FpDevice) (text other : Device → List ℕ) (e : text (device_of f) ≡ other (device_of f)) (out : List ℕ) where
  same_answer : {A : Type 0} (of_text : List ℕ → A) (otherwise : A)
      → on_device f (λ d. of_text (text d)) otherwise ≡ on_device f (λ d. of_text (other d)) otherwise
  same_answer of_text otherwise = go (unpacked f) e
    where
      go : (r : Option Device) → text (unwrap_or r off) ≡ other (unwrap_or r off)
          → option_map_or (λ d. of_text (text d)) r otherwise ≡ option_map_or (λ d. of_text (other d)) r otherwise
      go (Some d) h = ap of_text h
      go None h = refl

  told-as : told f text out ≡ told f other out
  unfolding told
  told-as = same_answer (λ t. packed_report (report_of t out)) no_report

  written_as : written_to f text out ≡ written_to f other out
  unfolding written_to
  written_as = same_answer (λ t. placed t out) out

pub calls_advertise_afresh : CallsAdvertiseAfresh
calls_advertise_afresh f stored name start h es prompt =
    let t = taken_is_device f (PowerOn stored name start) h in
    let d = device_of f in
    let taken = number_taken (answer_of d (PowerOn stored name start)) t.1 in
    let s = next d (PowerOn stored name start) in
    let v : Valid s = starts_valid d stored name start taken in
    let c = after s es in
    let back = packed_reads_back c (after_valid es s v) in
    let same : advertised (device_of (packed c)) prompt ≡ payload_afresh (device_of (packed c)) prompt =
    rw back.1 ((filter_kept d stored name start taken es).1 prompt) in
    let hands : packed c ≡ after_calls (served f (PowerOn stored name start)).next es = sym
    (ap (λ (g : FpDevice). after_calls g es) t.0 ∙ calls_are_steps s es v) in
    subst (λ (g : FpDevice). AdvertisesAfresh g prompt) hands
    (λ out. (
      told-as (packed c) (λ d. advertised d prompt) (λ d. payload_afresh d prompt) same out,
      written_as (packed c) (λ d. advertised d prompt) (λ d. payload_afresh d prompt) same out,
    ))
