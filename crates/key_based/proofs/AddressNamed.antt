-- The address named: what fits is what document 01 says, and of two equal addresses it is the BLE address.
-- Assumes nothing.
use mathlib.Core.Bool.{Bool, true, false, not}
use mathlib.Core.Path.{◌≡◌, refl}
use lib.Dec.{eqb}
use lib.ListN.{get_or}
use Rattle.laws.proofs.Choice.{true_is}
use Rattle.laws.specs.Choice.{◌and◌, ◌or◌}
use Rattle.std.specs.Prelude.{Option, Some, None, if◌then◌else◌}
use Rattle.basics.specs.Bytes.{same}
use Rattle.key_based.specs.Named.{address_bytes, address_named, fits}
use Rattle.key_based.specs.Promises.{FitsByAddress, EqualIsBle}
use Rattle.key_based.specs.declared.named.Named.{Named}
use Rattle.key_based.specs.declared.named.Named.TheVariants.{Ble, Public}

-- the definition, of its three tests
abbrev by_tests : Bool → Bool → Bool → Option Named
by_tests kind ble public = if not kind then None else if ble then Some Ble else if public then Some Public else None

pub equal_is_ble : EqualIsBle
unfolding address_named
equal_is_ble a plain = go (eqb (get_or plain 0 0) 0x00) (same (address_bytes plain) a.bytes)
  where
    go : (x y : Bool) → fits (by_tests x y y) ≡ true → by_tests x y y ≡ Some Ble
    go false y h = absurd (true_is h)
    go true true h = refl
    go true false h = absurd (true_is h)

pub fits_by_address : FitsByAddress
unfolding address_named
fits_by_address ble public plain =
    go (eqb (get_or plain 0 0) 0x00) (same (address_bytes plain) ble.bytes) (same (address_bytes plain) public.bytes)
  where
    go : (x y z : Bool) → fits (by_tests x y z) ≡ (x and (y or z))
    go false y z = refl
    go true true z = refl
    go true false true = refl
    go true false false = refl
