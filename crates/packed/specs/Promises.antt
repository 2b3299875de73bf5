-- What a device in plain numbers may be counted on for, as statements; proofs/ReadsBack has a proof of each.
-- Assumes nothing.
use Rattle.std.specs.Prelude.{true, List, ◌≡◌, ℕ}
use Rattle.packed.specs.Packed.{packed, is_device, device_of, element_of}
use Rattle.packed.specs.declared.FpDevice.{FpDevice}
use Rattle.provider.specs.Demands.Validity.{Valid}
use Rattle.provider.specs.declared.Device.{Device}

-- a device that was handed out is known when it is handed in, and is read as the same device
abbrev pub ReadsBack : Type 0
ReadsBack = (d : Device) → Valid d → (is_device (packed d) ≡ true) × (device_of (packed d) ≡ d)

-- any bytes are read as a valid device, those that are not served as the value before any, so that no call needs a check first
abbrev pub AnyBytes : Type 0
AnyBytes = (f : FpDevice) → Valid (device_of f)

-- of a rejected point no secret is read, whatever bytes are handed in as one: the event that is served and recorded is the same
abbrev pub RejectedSecretUnread : Type 0
RejectedSecretUnread =
    (secret other : List ℕ) → element_of (record { accepted = 0; secret = secret }) ≡ element_of (record { accepted = 0; secret = other })
