-- Document 02 (vii), "Which address did it name?": what the fitting test says of a decrypted request.
-- Assumes nothing.
use Rattle.std.specs.Prelude.{Bool, true, false, not, List, ℕ, eqb, take, drop, get_or, Option, Some, None, if◌then◌else◌}
use Rattle.basics.specs.Bytes.{same}
use Rattle.basics.specs.declared.Address.{Address}
use Rattle.key_based.specs.declared.named.Named.{Named}
use Rattle.key_based.specs.declared.named.Named.TheVariants.{Ble, Public}

-- the numbers that C sees: 0 for neither address
abbrev pub named_number : Option Named → ℕ
named_number None = 0
named_number (Some Ble) = 1
named_number (Some Public) = 2

-- bytes 2 to 7
abbrev pub address_bytes : List ℕ → List ℕ
address_bytes plain = take 6 (drop 2 plain)

-- "Make it say current BLE address, public address, or neither; if both are equal, BLE."
unfoldable pub address_named : Address → Address → List ℕ → Option Named
address_named ble public plain =
    if not (eqb (get_or plain 0 0) 0x00) then None else
    if same (address_bytes plain) ble.bytes then Some Ble else
    if same (address_bytes plain) public.bytes then Some Public else
    None

-- a request fits if it names one of the two
abbrev pub fits : Option Named → Bool
fits None = false
fits (Some n) = true

abbrev pub fitting : Address → Address → List ℕ → Bool
fitting ble public plain = fits (address_named ble public plain)

-- "a request that named the BLE address asks the radio to rotate"
abbrev pub asks_rotation : Option Named → Bool
asks_rotation None = false
asks_rotation (Some Ble) = true
asks_rotation (Some Public) = false
