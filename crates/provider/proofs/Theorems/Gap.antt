-- Demand 3: a gap only takes away. Up to the parting the second run's device is the first's with other links, each the same or idle.
-- Assumes nothing.
use mathlib.Core.List.{List}
use mathlib.Core.Logic.{inl, inr, ⊎_elim}
use mathlib.Core.Path.{◌≡◌, refl, sym, ap, subst, ◌∙◌}
use Prim.Native.Nat.{ℕ}
use Rattle.account_keys.specs.Keys as keys
use Rattle.account_keys.specs.Keys.{held}
use Rattle.account_keys.specs.StoredList.{writing}
use Rattle.account_keys.specs.declared.AccountKey.{AccountKey}
use Rattle.account_keys.specs.declared.AccountKeys.{AccountKeys}
use Rattle.basics.proofs.Answers.{unlike}
use Rattle.basics.specs.declared.Answer.TheVariants.{Taken, ListMalformed}
use Rattle.names.specs.Name.{name_of, text_of}
use Rattle.provider.proofs.Theorems.AfterMarker.{after_markers}
use Rattle.provider.proofs.Theorems.EventPairs.{Related, Parted, Paired, before_started, step_pairs}
use Rattle.provider.proofs.Theorems.Rotation.{wait_alike}
use Rattle.provider.proofs.Theorems.SessionPairs.{each_idle}
use Rattle.provider.proofs.Theorems.Stores.{stores_none}
use Rattle.provider.proofs.Theorems.Validity.{starts_valid}
use Rattle.provider.proofs.Theorems.Ways as event
use Rattle.provider.proofs.Theorems.Ways.{way}
use Rattle.provider.specs.Demands.Gap.{Marked, done, same, added, rules, Lists, Stores, Compared, TwoRuns, GapOnlyTakesAway}
use Rattle.provider.specs.Demands.Validity.{written}
use Rattle.provider.specs.Rules.Device.{Effect}
use Rattle.provider.specs.Rules.Event.{Event, Overflow, PowerOn, step, next, answer_of}
use Rattle.provider.specs.declared.Device.{Device}
use Rattle.provider.specs.declared.Start.{Start}
use Rattle.request_guard.specs.declared.wait.RotationWait.{RotationWait}

-- ---- one event

-- related devices hold the same keys
same_keys : {d c : Device} → Related d c → c.keys ≡ d.keys
same_keys r = ap (λ (x : Device). x.keys) r.same

-- and write the same list
same_written : {d c : Device} → Related d c → written c ≡ written d
same_written r = ap (λ (ks : AccountKeys). writing (held ks)) (same_keys r)

-- and have the same name
same_name : {d c : Device} → Related d c → text_of c.name ≡ text_of d.name
same_name r = ap (λ (x : Device). text_of x.name) r.same

-- and wait for a rotation alike
same_wait : {d c : Device} → Related d c → d.wait ≡ c.wait
same_wait r = ap (λ (x : Device). x.wait) (sym r.same)

-- where the runs go on together, both store the same
stores_same : (d c : Device) (e : Event) → Related d c → Related (next d e) (next c e) → (k : AccountKey)
    → Stores rules c e k
    → Stores rules d e k
stores_same d c e r q k s = (
  subst (λ (b : List ℕ). Lists b k) (same_written q) s.0,
  λ h. s.1 (subst (λ (b : List ℕ). Lists b k) (sym (same_written r)) h),
)

-- where the runs part, the second stores no key
parted_none : (d c : Device) (e : Event) → Related d c → Parted d.keys e (step d e) (step c e) → (k : AccountKey)
    → Stores rules c e k → ⊥
parted_none d c e r p k =
    let same : (next c e).keys ≡ c.keys = p.keys ∙ sym (same_keys r) in
    let valid : keys.Valid c.keys = rw (same_keys r) r.before.valid in
    stores_none c e k valid (rw same valid) (λ m. rw (← same) m)

-- every event, from related devices on
paired : (d c : Device) (e : Event) → Related d c → Paired d.keys e (step d e) (step c e)
paired d c e r = rw r.same ((step_pairs e).paired d c.sessions r.before)

-- what `Compared` asks of every event, the parting included
compared : (d c : Device) (e : Event) (r : Related d c) → Paired d.keys e (step d e) (step c e)
    → Compared rules d c e
compared d c e r a =
    (a.seen, ⊎_elim (stores_same d c e r) (λ p k s. absurd (parted_none d c e r p k s)) a.next)

-- ---- the runs

-- a marker in the second run alone
marker_added : (d c : Device) → Related d c → Related d (next c Overflow)
marker_added d c r = record {
  same = ap (λ (x : Device). next x Overflow) r.same;
  before = record { links = each_idle r.before.links; valid = r.before.valid };
}

-- from related devices on, the runs compare up to the parting
two_runs : {es fs : List Event} (m : Marked es fs) (d c : Device) → Related d c → TwoRuns rules d c m
two_runs done d c r = tt
two_runs (added m) d c r = two_runs m d (next c Overflow) (marker_added d c r)
two_runs (same e m) d c r =
    let a : Paired d.keys e (step d e) (step c e) = paired d c e r in (
      compared d c e r a,
      ap (λ (w : RotationWait). w.on)
          (⊎_elim same_wait (λ p. wait_alike d c e p.writes (same_wait r)) a.next),
      ⊎_elim (λ q. inr (sym (same_written q), sym (same_name q), two_runs m (next d e) (next c e) q))
          (λ p. inl (p.writes, p.first, p.second))
          a.next,
    )

-- the state that a taken power-on gave, in both runs
started_related : (d : Device) (stored name : List ℕ) (start : Start) → answer_of d (PowerOn stored name start) ≡ Taken
    → Related (next d (PowerOn stored name start)) (next d (PowerOn stored name start))
started_related d stored name start = go (way d (PowerOn stored name start))
  where
    go : {x : Effect} → event.Way d (PowerOn stored name start) x → x.gives.reply.answer ≡ Taken
        → Related x.gives.next x.gives.next
    go (event.powered-on stored name start ks h n) e =
        record { same = refl; before = before_started stored ks (name_of name) start h }
    go (event.malformed stored name start) e = absurd (unlike ListMalformed Taken tt e)

pub gap_only_takes_away : GapOnlyTakesAway
gap_only_takes_away d stored name start taken es fs m =
    let s = next d (PowerOn stored name start) in
    let v = starts_valid d stored name start taken in
    (two_runs m s s (started_related d stored name start taken), after_markers s es v, after_markers s fs v)
