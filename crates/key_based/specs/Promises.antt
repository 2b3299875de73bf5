-- What the search for a key comes to, for every list of candidates, and what the address named says: statements; proofs/ has a proof
-- of each.
-- Assumes nothing.
use Rattle.std.specs.Prelude.{Bool, true, false, List, [], ◌≡◌, ℕ, ◌-◌, ◌≤◌, ◌<◌, eqb, length, get_or, Some}
use Rattle.laws.specs.Choice.{◌and◌, ◌or◌}
use Rattle.basics.specs.Bytes.{same}
use Rattle.basics.specs.declared.Address.{Address}
use Rattle.key_based.specs.Named.{address_bytes, address_named, fitting}
use Rattle.key_based.specs.Request.{Place, found, nothing, search}
use Rattle.key_based.specs.declared.named.Named.TheVariants.{Ble}

-- none of the first n keys fits
abbrev pub NoneOf : (List ℕ → Bool) → List (List ℕ) → ℕ → Type 0
NoneOf test ks n = (j : ℕ) → j < n → test (get_or ks j []) ≡ false

-- "the place of the fitting key, counted from 1; if none fits, the number of candidates"
abbrev pub Tells : (List ℕ → Bool) → List (List ℕ) → Place → Type 0
Tells test ks (found n k) =
    (0 < n) × (n ≤ length ks) × (get_or ks (n - 1) [] ≡ k) × (test k ≡ true) × NoneOf test ks (n - 1)
Tells test ks (nothing n) = (n ≡ length ks) × NoneOf test ks (length ks)

abbrev pub FirstThatFits : Type 0
FirstThatFits = (test : List ℕ → Bool) (ks : List (List ℕ)) → Tells test ks (search test 0 ks)

-- document 01's test: "It fits if the decrypted byte 0 is 0x00 and bytes 2 to 7 equal the current BLE address or the public address."
abbrev pub FitsByAddress : Type 0
FitsByAddress =
    (ble public : Address) (plain : List ℕ)
    → fitting ble public plain
    ≡ (eqb (get_or plain 0 0) 0x00 and (same (address_bytes plain) ble.bytes or same (address_bytes plain) public.bytes))

-- "if both are equal, BLE"
abbrev pub EqualIsBle : Type 0
EqualIsBle = (a : Address) (plain : List ℕ) → fitting a a plain ≡ true → address_named a a plain ≡ Some Ble
