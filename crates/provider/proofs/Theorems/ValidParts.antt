-- A valid device stays valid when one of its parts is changed to a valid one.
-- Assumes nothing.
use mathlib.Core.Bool.{true}
use mathlib.Core.List.{[]}
use mathlib.Core.Path.{◌∙◌, ◌≡◌, refl}
use Prim.Native.Nat.{ℕ}
use native.Mathlib.Omega.{arith}
use lib.ListN.{length, length-set}
use Rattle.laws.proofs.All.{all_set, all_replicate}
use Rattle.laws.specs.Lists.{All}
use Rattle.account_keys.specs.Keys.{owned, kept}
use Rattle.account_keys.specs.declared.AccountKeys.{AccountKeys}
use Rattle.advertising.specs.declared.Beacon.{Beacon}
use Rattle.names.proofs.ValidNames.{no_name_valid}
use Rattle.names.specs.Name as names
use Rattle.names.specs.declared.Name.{Name}
use Rattle.provider.specs.Rules.Control.{started, off}
use Rattle.provider.specs.Demands.Validity.{Valid}
use Rattle.provider.specs.Rules.Device.{with_sessions, drop_at, with_link, with_keys, with_guard, with_wait, with_beacon, with_name, drop_all, clock_step}
use Rattle.provider.specs.declared.Device.{Device}
use Rattle.provider.specs.declared.Start.{Start}
use Rattle.request_guard.proofs.Uncounted.{clock_uncounted}
use Rattle.request_guard.specs.Wait.{uncounted}
use Rattle.request_guard.specs.declared.Guard.{Guard}
use Rattle.request_guard.specs.declared.wait.RotationWait.{RotationWait}
use Rattle.sessions.specs.Sessions.{Canonical, all_idle, expired, link_count, idle}
use Rattle.sessions.specs.declared.Session.{Session}
use Rattle.sessions.specs.declared.Sessions.{Sessions}
use Rattle.request_guard.specs.Guard as guard
use Rattle.account_keys.specs.Keys as keys
use Rattle.account_keys.proofs.Laws.{kept_valid}
use Rattle.request_guard.proofs.Laws.{fresh_valid, clock_valid}
use Rattle.sessions.proofs.Laws.{length_expired, expired_all}

-- ---- idle links, and no keys

pub idle_holds_nothing : Canonical idle
idle_holds_nothing e = refl

all_idle_lem : All Canonical all_idle.links
all_idle_lem = all_replicate Canonical link_count idle idle_holds_nothing

pub no_keys_valid : keys.Valid (kept [])
unfolding owned
no_keys_valid = kept_valid [] (omega arith) tt refl

-- ---- devices

module _ {d : Device} (v : Valid d) where
  pub keys_valid : (ks : AccountKeys) → keys.Valid ks → Valid (with_keys d ks)
  keys_valid ks p =
      record { keys = p; links = v.links; sessions = v.sessions; guard = v.guard; wait = v.wait; name = v.name }

  pub guard_valid : (g : Guard) → guard.Valid g → uncounted d.wait g ≡ true → Valid (with_guard d g)
  guard_valid g p u =
      record { keys = v.keys; links = v.links; sessions = v.sessions; guard = p; wait = u; name = v.name }

  pub wait_valid : (w : RotationWait) → uncounted w d.guard ≡ true → Valid (with_wait d w)
  wait_valid w u =
      record { keys = v.keys; links = v.links; sessions = v.sessions; guard = v.guard; wait = u; name = v.name }

  pub beacon_valid : (b : Beacon) → Valid (with_beacon d b)
  beacon_valid b =
      record { keys = v.keys; links = v.links; sessions = v.sessions; guard = v.guard; wait = v.wait; name = v.name }

  pub name_valid : (n : Name) → names.Valid n → Valid (with_name d n)
  name_valid n p =
      record { keys = v.keys; links = v.links; sessions = v.sessions; guard = v.guard; wait = v.wait; name = p }

  pub sessions_valid : (ss : Sessions) → length ss.links ≡ link_count → All Canonical ss.links → Valid
      (with_sessions d ss)
  sessions_valid ss n p =
      record { keys = v.keys; links = n; sessions = p; guard = v.guard; wait = v.wait; name = v.name }

  pub link_valid : (l : ℕ) (s : Session) → Canonical s → Valid (with_link d l s)
  link_valid l s p =
      sessions_valid _ (rw length-set v.links) (all_set Canonical d.sessions.links l s v.sessions p)

  pub drop_at_valid : (l : ℕ) → Valid (drop_at d l)
  drop_at_valid l = link_valid l idle idle_holds_nothing

  pub drop_all_valid : Valid (drop_all d)
  drop_all_valid = sessions_valid all_idle refl all_idle_lem

  pub clock_step_valid : (t : ℕ) → Valid (clock_step t d)
  unfolding clock_step
  clock_step_valid t =
      let links : length (expired t d.sessions).links ≡ link_count = length_expired t d.sessions
      ∙ v.links in
      let held : All Canonical (expired t d.sessions).links = expired_all t
      d.sessions Canonical idle_holds_nothing v.sessions in
      record {
        keys = v.keys;
        links = links;
        sessions = held;
        guard = clock_valid d.guard v.guard t;
        wait = clock_uncounted d.wait d.guard t v.wait;
        name = v.name;
      }

-- power-on with a valid list and a valid name
pub started_valid : (ks : AccountKeys) (n : Name) (s : Start) → keys.Valid ks → names.Valid n → Valid (started ks n s)
started_valid ks n s p q =
    record { keys = p; links = refl; sessions = all_idle_lem; guard = fresh_valid; wait = refl; name = q }

-- the value before any device
pub off_valid : Valid off
off_valid =
    record {
      keys = no_keys_valid;
      links = refl;
      sessions = all_idle_lem;
      guard = fresh_valid;
      wait = refl;
      name = no_name_valid;
    }
