-- What a packet may be counted on for, as statements; proofs/ has a proof of each.
-- Assumes nothing.
use Rattle.std.specs.Prelude.{true, Some, List, ◌≡◌, ℕ, ◌+◌, length}
use Rattle.additional_data.specs.CounterMode.{counter_mode}
use Rattle.additional_data.specs.Packet.{sealed, opened}
use Rattle.names.specs.Name.{is_name, name_of}

-- counter mode undoes itself
abbrev pub CounterModeUndoes : Type 0
CounterModeUndoes = (key nonce text : List ℕ) → counter_mode key nonce (counter_mode key nonce text) ≡ text

-- "So a packet is 16 to 80 bytes"
abbrev pub SealedLength : Type 0
SealedLength = (key nonce text : List ℕ) → length nonce ≡ 8 → length (sealed key nonce text) ≡ 16 + length text

-- "A sent packet that comes back unchanged under the same K must read as the name sent."
abbrev pub OpeningUndoesSealing : Type 0
OpeningUndoesSealing =
    (key nonce text : List ℕ) → length nonce ≡ 8 → is_name text ≡ true
    → opened key (sealed key nonce text) ≡ Some (name_of text)
