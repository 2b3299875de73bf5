-- The ways of a decision, as the functions need them.
-- Assumes nothing.
use mathlib.Core.Bool.{Bool, true, false}
use mathlib.Core.List.{List, [], ◌∷◌}
use mathlib.Core.Path.{◌≡◌, refl, sym}
use Prim.Native.Nat.{ℕ, ◌<◌}
use native.Mathlib.Omega.{arith}
use lib.ListN.{length, take, drop, get_or, length-drop}
use borrow.Author.Tests.{eqb-false}
use Rattle.std.specs.Prelude.{Option, Some, None, if◌then◌else◌}
use Rattle.laws.proofs.Choice.{true_is}
use Rattle.account_keys.specs.Keys.{held}
use Rattle.aes128.proofs.Sizes.{length_inv_cipher}
use Rattle.basics.specs.Answers.{is_taken}
use Rattle.basics.specs.declared.Address.{Address}
use Rattle.basics.specs.declared.Answer.TheVariants.{LockedOut, NotInPairingMode, NoKeyFits, SaltSpent, RotationAwaited}
use Rattle.key_based.specs.Decision.{refused, accepted, salt_known, settled_by, settled, tried_keys, unwanted, uses_key, decided, outputs_of}
use Rattle.key_based.specs.Named.{address_named}
use Rattle.key_based.specs.Request.{Place, found, nothing, candidates, flagged, opened, salt_at, request_salt}
use Rattle.key_based.specs.Search.{tried, with_named, fit, handed_over}
use Rattle.key_based.specs.declared.Context.{Context}
use Rattle.key_based.specs.declared.Decision.{Decision}
use Rattle.key_based.specs.declared.Found.{Found}
use Rattle.key_based.specs.declared.Search.{Search}
use Rattle.key_based.specs.declared.named.Named.{Named}
use Rattle.request_guard.proofs.Laws.{padded_proper}
use Rattle.request_guard.specs.Guard as guards
use Rattle.request_guard.specs.Guard.{Proper, Valid, failed_at}
use Rattle.request_guard.specs.declared.Guard.{Guard}
use Rattle.sessions.specs.declared.Session.{Session}

pub not_locked : (g : Guard) → Valid g → guards.locked g ≡ false → g.failures.count < 10
not_locked g v e =
    let h : g.failures.count ≡ 10 → ⊥ = eqb-false g.failures.count 10 e in
    omega (arith, v.bounded)

-- ---- the salt of a request

-- 2 or 8 bytes of a block of 16
salt_proper : (plain : List ℕ) → length plain ≡ 16 → Proper (request_salt plain)
salt_proper plain h = go (flagged 0x50 (get_or plain 1 0))
  where
    go : (b : Bool) → Proper (salt_at (if b then 14 else 8) plain)
    go true = let n : length (drop 14 plain) ≡ 2 = simp length-drop (omega arith) in padded_proper (drop 14 plain) (rw n)
    go false = let n : length (drop 8 plain) ≡ 8 = simp length-drop (omega arith) in padded_proper (drop 8 plain) (rw n)

-- what the search hands over is a block of 16 bytes
fit_proper : (ble public : Address) (request key : List ℕ) {f : Found} → fit ble public request key ≡ Some f
    → Proper (request_salt f.plain)
fit_proper ble public request key {f} = go (address_named ble public (opened key request))
  where
    go : (m : Option Named) → with_named key (opened key request) m ≡ Some f → Proper (request_salt f.plain)
    go None e = (cc)
    go (Some n) e =
        let same : opened key request ≡ f.plain = (cc) in
        rw same at (salt_proper (opened key request) (length_inv_cipher key (take 16 request)))

found_proper : (ble public : Address) (request : List ℕ) (x : Place) {f : Found}
    → (handed_over ble public request x).found ≡ Some f → Proper (request_salt f.plain)
found_proper ble public request (found n key) e = fit_proper ble public request key e
found_proper ble public request (nothing n) e = (cc)

-- ---- the ways that a decision may go, from what the search hands over

pub data Way (c : Context) (s : Session) (t : ℕ) (uses : Bool) (r : Search) : Decision → Type 0 where
  locked : Way c s t uses r (refused c.guard s LockedOut 0)
  awaited : Way c s t uses r (refused c.guard s RotationAwaited 0)
  unasked : Way c s t uses r (refused c.guard s NotInPairingMode 0)
  no-fit : guards.locked c.guard ≡ false → c.wait.on ≡ false
      → Way c s t uses r (refused (failed_at t c.guard) s NoKeyFits r.tried)
  spent : Way c s t uses r (refused c.guard s SaltSpent r.tried)
  taken : (f : Found) → r.found ≡ Some f → Proper (request_salt f.plain) → c.wait.on ≡ false
      → Way c s t uses r (accepted c.guard t uses r.tried f)

pub decided_way : (c : Context) (s : Session) (t : ℕ) (secret : Option (List ℕ)) (request : List ℕ)
    → Way c s t (uses_key request) (tried_keys c secret request) (decided c s t secret request)
unfolding decided settled
decided_way c s t secret request =
    go (guards.locked c.guard) c.wait.on (unwanted c request) (tried_keys c secret request).found refl refl refl
  where
    n : ℕ
    n = (tried_keys c secret request).tried

    salt : (f : Found) (w : Bool) → (tried_keys c secret request).found ≡ Some f → c.wait.on ≡ false
        → Way c s t (uses_key request) (tried_keys c secret request)
        (if w then refused c.guard s SaltSpent n else accepted c.guard t (uses_key request) n f)
    salt f true z a = spent
    salt f false z a = taken f z
        (found_proper c.ble c.public request (tried c.ble c.public request 0 (candidates (held c.keys) secret request)) z) a

    go : (x v y : Bool) (z : Option Found) → guards.locked c.guard ≡ x → c.wait.on ≡ v
        → (tried_keys c secret request).found ≡ z
        → Way c s t (uses_key request) (tried_keys c secret request)
        (if x then refused c.guard s LockedOut 0 else
        if v then refused c.guard s RotationAwaited 0 else
        if y then refused c.guard s NotInPairingMode 0 else
        settled_by c.guard s t (uses_key request) n z)
    go true v y z e a f = locked
    go false true y z e a f = awaited
    go false false true z e a f = unasked
    go false false false None e a f = no-fit e a
    go false false false (Some x) e a f = salt x (salt_known c.guard (Some x)) f a

-- a refusal leaves both lent outputs
module _ (c : Context) (salt nonce out packet : List ℕ) {s : Session} {t : ℕ} {uses : Bool} {f : Search} where
  pub outputs_kept : {r : Decision} → Way c s t uses f r → is_taken r.answer ≡ false
      → outputs_of c salt nonce out packet r ≡ out ∷ packet ∷ []
  outputs_kept locked h = refl
  outputs_kept awaited h = refl
  outputs_kept unasked h = refl
  outputs_kept (no-fit e a) h = refl
  outputs_kept spent h = refl
  outputs_kept (taken x p q a) h = absurd (true_is (sym h))
