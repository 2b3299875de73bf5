-- The order of the list is that of use: what stands behind a key was used after it, and who is evicted is the least recently used.
-- Assumes nothing.
use mathlib.Core.Bool.{Bool, true, false}
use mathlib.Core.List.{List, [], ◌∷◌}
use mathlib.Core.Logic.{◌⊎◌, inl, inr, ⊎_elim}
use mathlib.Core.Path.{◌≡◌, refl, sym, ap, subst, ◌∙◌}
use Prim.Native.Nat.{ℕ}
use native.Mathlib.Omega.{arith}
use borrow.Author.Tests.{eqb-true}
use Rattle.laws.proofs.Choice.{true_is, and_left, and_right, both_fail}
use Rattle.laws.specs.Choice.{◌and◌}
use Rattle.account_keys.proofs.Laws.{held_kept, count_held, stored_held}
use Rattle.account_keys.proofs.Order.{stored_goes_last, only_first_removed}
use Rattle.account_keys.specs.Keys.{held, kept, member, stored}
use Rattle.account_keys.specs.Promises.{stands_before}
use Rattle.account_keys.specs.declared.AccountKey.{AccountKey}
use Rattle.account_keys.specs.declared.AccountKeys.{AccountKeys}
use Rattle.basics.proofs.Answers.{number_taken}
use Rattle.basics.proofs.Laws.{same_eq}
use Rattle.basics.specs.Bytes.{same}
use Rattle.basics.specs.Answers.{is_taken}
use Rattle.pairing.proofs.SessionSteps.{account_key_taken}
use Rattle.pairing.specs.Pairing.{PairingStarted, ConfirmationNeeded, PasskeyWrite, PairingEnded, AccountKeyWrite, NameWrite, written_key, stored_in}
use Rattle.pairing.specs.declared.SessionOutcome.{SessionOutcome}
use Rattle.provider.proofs.Theorems.Validity.{stays_valid, after_valid}
use Rattle.provider.proofs.Theorems.Ways as event
use Rattle.provider.proofs.Theorems.Ways.{way}
use Rattle.provider.specs.Demands.Names.{session_then}
use Rattle.provider.specs.Demands.Use.{restarts, may_use, told_key, key_of, Uses, OrderKept, OrderOfUse, Evicts, FirstOfFull, EvictsFirst, EvictsLeastRecentlyUsed}
use Rattle.provider.specs.Demands.Validity.{Valid}
use Rattle.provider.specs.Rules.Device.{Effect, clock_step}
use Rattle.provider.specs.Rules.Event.{LinkUp, LinkDown, KeyBasedWrite, OnSession, Event, Overflow, PowerOn, OnDevice, OnLink, step, next, answer_of, after}
use Rattle.provider.specs.declared.Device.{Device}
use Rattle.provider.proofs.Theorems.Use.{keys_kept, request_uses_told_key}

-- an account key write that gets 0 stores the key in its block
write_stores : (d : Device) {l t : ℕ} {block : List ℕ} {x : Effect}
    → event.Way d (OnLink l t (OnSession (AccountKeyWrite block))) x → is_taken x.gives.reply.answer ≡ true
    → x.gives.next.keys ≡ kept (stored (held d.keys) (written_key (AccountKeyWrite block) (session_then d l t)))
unfolding clock_step
write_stores d (event.unknown_link l t e) h = absurd (true_is h)
write_stores d (event.refused_early l t e a p q) h = absurd (true_is (sym q ∙ h))
write_stores d (event.link-late l t e) h = absurd (true_is h)
write_stores d {block = block} (event.on_link_lem l t e k) h =
    ap (λ (a : SessionOutcome). stored_in a d.keys) (account_key_taken block (session_then d l t) h)

-- every use stores its key: one that is held moves to the end
use_stores : (d : Device) (e : Event) → Valid d → may_use e ≡ true → is_taken (answer_of d e) ≡ true
    → (next d e).keys ≡ kept (stored (held d.keys) (key_of d e))
use_stores d Overflow v u h = absurd (true_is u)
use_stores d (PowerOn stored name start) v u h = absurd (true_is u)
use_stores d (OnDevice t e) v u h = absurd (true_is u)
use_stores d (OnLink l t LinkUp) v u h = absurd (true_is u)
use_stores d (OnLink l t LinkDown) v u h = absurd (true_is u)
use_stores d (OnLink l t (KeyBasedWrite request element salt nonce out packet)) v u h =
    let e : Event = OnLink l t (KeyBasedWrite request element salt nonce out packet) in
    let w = request_uses_told_key d l t request element salt nonce out packet v u
    (number_taken (answer_of d e) (eqb-true _ 0 h)) in
    w.moves ∙ ap kept (stored_held d.keys (told_key d (step d e)) v.keys.canonical w.was_held)
use_stores d (OnLink l t (OnSession (PairingStarted capability))) v u h = absurd (true_is u)
use_stores d (OnLink l t (OnSession (ConfirmationNeeded passkey))) v u h = absurd (true_is u)
use_stores d (OnLink l t (OnSession (PasskeyWrite block salt out))) v u h = absurd (true_is u)
use_stores d (OnLink l t (OnSession (PairingEnded success))) v u h = absurd (true_is u)
use_stores d (OnLink l t (OnSession (AccountKeyWrite block))) v u h =
    write_stores d (way d (OnLink l t (OnSession (AccountKeyWrite block)))) h
use_stores d (OnLink l t (OnSession (NameWrite packet))) v u h = absurd (true_is u)

module _ (d : Device) (e : Event) (v : Valid d) where
  -- the list after a use
  after-use : may_use e ≡ true → is_taken (answer_of d e) ≡ true → held (next d e).keys ≡ stored (held d.keys) (key_of d e)
  after-use u h = ap held (use_stores d e v u h) ∙ held_kept (stored (held d.keys) (key_of d e))

  -- the key that was used stands before none
  last-used : (a b : AccountKey) → Uses d e a → stands_before (held (next d e).keys) a b ≡ false
  last-used a b u =
      rw (after-use u.0 u.1, ← u.2) ((stored_goes_last (held d.keys) (key_of d e)).before_none b)

  -- whatever stands behind a key afterwards stood there before, or was used
  step-order : (a b : AccountKey) → (restarts e and is_taken (answer_of d e)) ≡ false
      → stands_before (held (next d e).keys) a b ≡ true → (stands_before (held d.keys) a b ≡ true) ⊎ Uses d e b
  step-order a b n h = go (may_use e and is_taken (answer_of d e)) (same (key_of d e).bytes b.bytes) refl refl
    where
      go : (x y : Bool) → (may_use e and is_taken (answer_of d e)) ≡ x → same (key_of d e).bytes b.bytes ≡ y
          → (stands_before (held d.keys) a b ≡ true) ⊎ Uses d e b
      go true true p q = inr (
        and_left (may_use e) (is_taken (answer_of d e)) p,
        and_right (may_use e) (is_taken (answer_of d e)) p,
        λ i. record { bytes = same_eq (key_of d e).bytes b.bytes q i },
      )
      go true false p q =
          let l = after-use (and_left (may_use e) (is_taken (answer_of d e)) p) (and_right (may_use e) (is_taken (answer_of d e)) p) in
          inl ((stored_goes_last (held d.keys) (key_of d e)).others_stay a b (rw l at h) q)
      go false y p q = inl (subst (λ (ks : AccountKeys). stands_before (held ks) a b ≡ true)
          (keys_kept d e (both_fail (restarts e) (may_use e) (is_taken (answer_of d e)) n p)) h)

  -- a key that is gone stood first
  gone-first : (a : AccountKey) → Evicts d e a → FirstOfFull (held d.keys) a
  gone-first a x = go (may_use e and is_taken (answer_of d e)) refl
    where
      go : (y : Bool) → (may_use e and is_taken (answer_of d e)) ≡ y → FirstOfFull (held d.keys) a
      go true p =
          let l = after-use (and_left (may_use e) (is_taken (answer_of d e)) p) (and_right (may_use e) (is_taken (answer_of d e)) p) in
          let r = only_first_removed (held d.keys) (key_of d e) a v.keys.known x.was_held (rw l at x.is_gone) in
          record {
            full = omega (arith, r.full, v.keys.canonical.few, count_held d.keys v.keys.canonical);
            first = r.first;
          }
      go false p =
          absurd (true_is (sym (subst (λ (ks : AccountKeys). member (held ks) a ≡ false)
          (keys_kept d e (both_fail (restarts e) (may_use e) (is_taken (answer_of d e)) x.goes_on p)) x.is_gone)
          ∙ x.was_held))

-- and so after all of them
pub order_kept : OrderKept
unfolding after
order_kept [] d a b v n h = inl h
order_kept (e ∷ es) d a b v n h =
    ⊎_elim (λ p. ⊎_elim (λ q. inl q) (λ q. inr (inl q)) (step-order d e v a b n.0 p)) (λ q. inr (inr q))
    (order_kept es (next d e) a b (stays_valid d e v) n.1 h)

pub order_of_use : OrderOfUse
order_of_use d e es a b v u n h =
    ⊎_elim (λ p. absurd (true_is (sym (last-used d e v a b u) ∙ p))) (λ q. q)
    (order_kept es (next d e) a b (stays_valid d e v) n h)

pub evicts_first : EvictsFirst
evicts_first d e a v x = gone-first d e v a x

pub evicts_least_recently_used : EvictsLeastRecentlyUsed
evicts_least_recently_used d e es f a b v u n x m k =
    let c = after (next d e) es in
    let w : Valid c = after_valid es (next d e) (stays_valid d e v) in
    order_of_use d e es a b v u n ((evicts_first c f a w x).first b m k)
