-- Document 02 (v), "Keep the filter instead of building it": what the advertisement shows, with the filter among it.
-- Assumes nothing.
use Rattle.std.specs.Prelude.{Bool, false, List, ◌≡◌, ℕ, take, replicate, if◌then◌else◌}
use Rattle.account_keys.specs.declared.AccountKey.{AccountKey}
use Rattle.advertising.specs.Filter.{filter_size, filter_max, kept_filter}
use Rattle.advertising.specs.Payload.{payload_with}
use Rattle.advertising.specs.declared.Beacon.{Beacon}
use Rattle.advertising.specs.declared.Prompt.{Prompt}
use Rattle.basics.specs.declared.Address.{Address}

-- "After every event it equals the filter built afresh from the list and salt"
abbrev pub Current : Beacon → List AccountKey → Type 0
Current b keys = b.filter ≡ kept_filter keys b.salt

-- before any device
abbrev pub off : Beacon
off = record { ble = record { bytes = replicate 6 0 }; salt = replicate 2 0; filter = replicate filter_max 0; pairing = false }

-- power-on, "pairing mode off"
abbrev pub started : Address → List ℕ → List AccountKey → Beacon
started ble salt keys = record { ble = ble; salt = salt; filter = kept_filter keys salt; pairing = false }

-- "Pairing mode on or off"
abbrev pub in_pairing_mode : Beacon → Bool → Beacon
in_pairing_mode b on = record { ble = b.ble; salt = b.salt; filter = b.filter; pairing = on }

-- "address rotated (new BLE address and new 2-byte filter salt)"
abbrev pub rotated : Beacon → Address → List ℕ → List AccountKey → Beacon
rotated b ble salt keys =
    record { ble = ble; salt = salt; filter = kept_filter keys salt; pairing = b.pairing }

-- other keys with the same salt
abbrev pub with_keys : Beacon → List AccountKey → Beacon
with_keys b keys =
    record { ble = b.ble; salt = b.salt; filter = kept_filter keys b.salt; pairing = b.pairing }

-- "A change of order alone changes none of its bytes": nothing is built then
abbrev pub refreshed : Beacon → Bool → List AccountKey → Beacon
refreshed b changed keys = if changed then with_keys b keys else b

-- "the payload copies it in after its header byte and no longer builds it": the structure of n keys
abbrev pub beacon_payload : Beacon → List ℕ → ℕ → Prompt → List ℕ
beacon_payload b model n prompt =
    payload_with b.pairing model n (take (filter_size n) b.filter) b.salt prompt
