-- Document 01: overflow marker, power-on, pairing mode, rotation and factory reset; the advertisement. Document 02 (v): the filter
-- is built where the list or the salt changes, and the advertisement reads it; (vii): what lifts the wait for a rotation.
-- Assumes nothing.
use Rattle.std.specs.Prelude.{Bool, List, [], length, replicate, ℕ, Option, Some, None}
use Rattle.account_keys.specs.Keys.{held, kept}
use Rattle.account_keys.specs.StoredList.{reading}
use Rattle.account_keys.specs.declared.AccountKeys.{AccountKeys}
use Rattle.advertising.specs.Beacon as beacon
use Rattle.advertising.specs.Beacon.{in_pairing_mode, rotated, beacon_payload}
use Rattle.advertising.specs.declared.Prompt.{Prompt}
use Rattle.basics.specs.declared.Address.{Address}
use Rattle.basics.specs.declared.Answer.TheVariants.{ListMalformed}
use Rattle.names.specs.Name as names
use Rattle.names.specs.Name.{no_name}
use Rattle.names.specs.declared.Name.{Name}
use Rattle.provider.specs.Rules.Device.{Effect, answers, takes, drop_all, with_guard, with_wait, with_keys, with_beacon, with_name}
use Rattle.provider.specs.declared.Device.{Device}
use Rattle.provider.specs.declared.Start.{Start}
use Rattle.request_guard.specs.Guard.{fresh}
use Rattle.request_guard.specs.Wait.{no_wait}
use Rattle.sessions.specs.Sessions.{all_idle}

-- "Overflow marker. Has no clock and always gets 0. Drops K on all links. Nothing else changes."
abbrev pub overflow : Device → Effect
overflow d = takes (drop_all d)

-- "Pairing mode on or off .. Nothing else changes."
abbrev pub pairing_mode : Bool → Device → Device
pairing_mode on d = with_beacon d (in_pairing_mode d.beacon on)

-- "address rotated (new BLE address and new 2-byte filter salt). Nothing else changes." The filter is that of the new salt; document
-- 02 (vii): "rotation, power-on and factory reset do" lift the wait
abbrev pub address_rotated : Address → List ℕ → Device → Device
address_rotated ble salt d = with_wait (with_beacon d (rotated d.beacon ble salt (held d.keys))) no_wait

-- "Factory reset. Empties the key list and spent salts, drops every K, sets the count to 0."; document 02 (i): names are "emptied
-- by factory reset". The filter is that of no key
abbrev pub factory_reset : Device → Device
factory_reset d =
    with_beacon (with_name (with_keys (with_wait (with_guard (drop_all d) fresh) no_wait) (kept [])) no_name)
    (beacon.with_keys d.beacon [])

-- "Starts from a stored list, addresses, model ID and salt. All links idle, count 0, no spent salts, pairing mode off, clock 0.";
-- document 02 (i): names are "given at power-on"
abbrev pub started : AccountKeys → Name → Start → Device
started ks name s =
    record {
      clock = record { 0 = 0 };
      keys = ks;
      sessions = all_idle;
      guard = fresh;
      wait = no_wait;
      identity = s.identity;
      beacon = beacon.started s.ble s.salt (held ks);
      name = name;
    }

-- "given at power-on (a bad one gets 14)"
abbrev pub by_name : Device → AccountKeys → Option Name → Start → Effect
by_name d ks (Some name) s = takes (started ks name s)
by_name d ks None s = answers d ListMalformed []

-- "no device made; an earlier one stays as it was"
abbrev pub by_list : Device → Option AccountKeys → Option Name → Start → Effect
by_list d (Some ks) name s = by_name d ks name s
by_list d None name s = answers d ListMalformed []

-- "Power-on knows only 0 and 14."
unfoldable pub power_on : Device → List ℕ → List ℕ → Start → Effect
power_on d stored name s = by_list d (reading stored) (names.reading name) s

-- the value before any device
abbrev pub no_address : Address
no_address = record { bytes = replicate 6 0 }

abbrev pub off : Device
off =
    record {
      clock = record { 0 = 0 };
      keys = kept [];
      sessions = all_idle;
      guard = fresh;
      wait = no_wait;
      identity = record { public = no_address; model = replicate 3 0 };
      beacon = beacon.off;
      name = no_name;
    }

-- "Asking for a payload changes no state and needs no clock."
abbrev pub advertised : Device → Prompt → List ℕ
advertised d prompt = beacon_payload d.beacon d.identity.model (length (held d.keys)) prompt
