-- Document 02 (iii): the sample, with the records of docs/RECORDING.md, "Examples".
-- Assumes nothing.
use Rattle.std.specs.Prelude.{List, [], ◌∷◌, ◌++◌, ◌≡◌, ℕ}
use Rattle.replay_text.specs.Ascii.{ascii}
use Rattle.replay_text.specs.Text.{printed_text}

-- an empty list of this version, addresses, model ID, salt and the name "Earbuds"
abbrev pub power_on_record : ℕ → List ℕ
power_on_record version =
    0x00 ∷ 0x20 ∷ 0x01 ∷ 0x06 ∷ 0x00 ∷ 0x04 ∷ 0x00 ∷ 0x02 ∷ version ∷ 0x00
    ∷ 0x7A ∷ 0x01 ∷ 0x02 ∷ 0x03 ∷ 0x04 ∷ 0x05 ∷ 0xA0 ∷ 0xB1 ∷ 0xC2 ∷ 0xD3 ∷ 0xE4 ∷ 0xF5
    ∷ 0x12 ∷ 0x34 ∷ 0x56 ∷ 0xC7 ∷ 0xC8 ∷ 0x45 ∷ 0x61 ∷ 0x72 ∷ 0x62 ∷ 0x75 ∷ 0x64 ∷ 0x73
    ∷ []

abbrev pub marker_record : List ℕ
marker_record = 0x00 ∷ 0x02 ∷ 0x01 ∷ 0x01 ∷ []

-- what is printed of a recording that begins with this list
abbrev pub Prints : ℕ → Type 0
Prints version = printed_text (power_on_record version ++ marker_record) ≡ ascii "1 power-on 0 0\n2 marker 0 0\n"

-- "Power-on with an empty list and then a marker print `1 power-on 0 0` and `2 marker 0 0`", with the list of document 02 (vi) and
-- with that of older firmware
abbrev pub SamplePrinted : Type 0
SamplePrinted = Prints 0x02 × Prints 0x01
