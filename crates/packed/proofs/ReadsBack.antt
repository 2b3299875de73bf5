-- A device in packed numbers reads back, and any bytes are read as a valid device.
-- Assumes nothing.
use mathlib.Core.Bool.{Bool, true, false}
use mathlib.Core.Path.{◌≡◌, refl, subst, ◌∙◌}
use lib.Dec.{leb, eqb}
use lib.ListN.{get_or}
use Rattle.laws.proofs.All.{all_tabulate}
use Rattle.laws.proofs.Choice.{and_left, and_right}
use Rattle.laws.specs.Choice.{◌and◌}
use Rattle.std.specs.Prelude.{Option, Some, None, unwrap_or, option_and_then, if◌then◌else◌}
use Rattle.account_keys.specs.Keys as account
use Rattle.account_keys.specs.declared.AccountKeys.{AccountKeys}
use Rattle.names.proofs.ValidNames.{read_again_valid, valid_reads_again}
use Rattle.names.specs.Name.{read_again}
use Rattle.names.specs.Name as names
use Rattle.names.specs.declared.Name.{Name}
use Rattle.packed.proofs.Links.{links_back, known_back, session_canonical}
use Rattle.packed.proofs.StoredKeys.{list_back, list_valid}
use Rattle.packed.specs.Promises.{ReadsBack, AnyBytes, RejectedSecretUnread}
use Rattle.packed.specs.Packed.{no_session, session_of, stages_known, list_of, flag, packed, guard_of, wait_of, guard_known, flags_known, numbers_known, with_parts, unpacked}
use Rattle.packed.specs.declared.FpDevice.{FpDevice}
use Rattle.provider.proofs.Theorems.ValidParts.{off_valid}
use Rattle.provider.specs.Rules.Control.{off}
use Rattle.provider.specs.Demands.Validity.{Valid}
use Rattle.provider.specs.declared.Device.{Device}
use Rattle.request_guard.proofs.Laws.{cleaned_valid, valid_bounded, valid_cleaned}
use Rattle.request_guard.proofs.Uncounted.{cleaned_uncounted}
use Rattle.request_guard.specs.Guard.{bounded}
use Rattle.request_guard.specs.Wait.{uncounted}
use Rattle.sessions.specs.Sessions.{Canonical, link_count}

-- ---- devices

flag_known : (on : Bool) → leb (flag on) 1 ≡ true
flag_known true = refl
flag_known false = refl

pub flag_back : (on : Bool) → eqb (flag on) 1 ≡ on
flag_back true = refl
flag_back false = refl

pub unpacked_back : (d : Device) → Valid d → unpacked (packed d) ≡ Some d
unfolding unpacked packed
unpacked_back d v =
    rw (
      list_back d.keys v.keys,
      valid_reads_again d.name v.name,
      valid_bounded d.guard v.guard,
      flag_back d.wait.on,
      v.wait,
      known_back d.sessions,
      flag_known d.beacon.pairing,
      flag_known d.wait.on,
      links_back d.sessions v.links v.sessions,
      valid_cleaned d.guard v.guard,
      flag_back d.beacon.pairing,
    )

pub packed_reads_back : ReadsBack
packed_reads_back d v = let back = unpacked_back d v in (rw back, rw back)

-- ---- any bytes

-- what the parts that read make
with_parts_valid : (f : FpDevice) (keys : AccountKeys) (name : Name) → account.Valid keys → names.Valid name
    → numbers_known f ≡ true → Valid (with_parts f keys name)
with_parts_valid f keys name k n known =
    let guarded : guard_known f ≡ true = and_left (guard_known f) (stages_known f.sessions and flags_known f) known in
    record {
      keys = k;
      links = refl;
      sessions = all_tabulate Canonical link_count (λ l. session_of (get_or f.sessions l no_session))
          (λ l. session_canonical (get_or f.sessions l no_session));
      guard = cleaned_valid (guard_of f) (and_left (bounded (guard_of f)) (uncounted (wait_of f) (guard_of f)) guarded);
      wait = cleaned_uncounted (wait_of f) (guard_of f)
          ∙ and_right (bounded (guard_of f)) (uncounted (wait_of f) (guard_of f)) guarded;
      name = n;
    }

pub any_device : (f : FpDevice) (d : Device) → Some d ≡ unpacked f → Valid d
unfolding unpacked
any_device f d = by_keys (list_of f.stored) refl
  where
    by_numbers : (keys : AccountKeys) (name : Name) (b : Bool) → list_of f.stored ≡ Some keys → read_again f.name ≡ Some name
        → numbers_known f ≡ b → Some d ≡ (if b then Some (with_parts f keys name) else None) → Valid d
    by_numbers keys name true k n known e =
        let same : with_parts f keys name ≡ d = cc in
        subst Valid same (with_parts_valid f keys name (list_valid f.stored k) (read_again_valid f.name n) known)
    by_numbers keys name false k n known e = cc

    by_name : (keys : AccountKeys) (r : Option Name) → list_of f.stored ≡ Some keys → read_again f.name ≡ r
        → Some d ≡ option_and_then (λ name. if numbers_known f then Some (with_parts f keys name) else None) r → Valid d
    by_name keys None k n e = cc
    by_name keys (Some name) k n e = by_numbers keys name (numbers_known f) k n refl e

    by_keys : (r : Option AccountKeys) → list_of f.stored ≡ r
        → Some d ≡ option_and_then (λ keys. option_and_then (λ name. if numbers_known f then Some (with_parts f keys name) else None) (read_again f.name)) r
        → Valid d
    by_keys None k e = cc
    by_keys (Some keys) k e = by_name keys (read_again f.name) k refl e

pub any_bytes : AnyBytes
any_bytes f = go (unpacked f) refl
  where
    go : (r : Option Device) → r ≡ unpacked f → Valid (unwrap_or r off)
    go (Some d) e = any_device f d e
    go None e = off_valid

pub rejected_secret_unread : RejectedSecretUnread
rejected_secret_unread secret other = refl
