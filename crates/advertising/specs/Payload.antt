-- Document 01, "Advertising": the payload.
-- Assumes nothing.
use Rattle.std.specs.Prelude.{Bool, List, [], ◌∷◌, ◌++◌, ℕ, ◌+◌, ◌*◌, eqb, length, if◌then◌else◌}
use Rattle.account_keys.specs.declared.AccountKey.{AccountKey}
use Rattle.advertising.specs.Filter.{filter_size, filter}
use Rattle.advertising.specs.declared.Prompt.{Prompt}
use Rattle.advertising.specs.declared.Prompt.TheVariants.{Show, Hide}

-- "0 to show or 2 to hide the prompt"
abbrev pub prompt_type : Prompt → ℕ
prompt_type Show = 0
prompt_type Hide = 2

-- "Off, n keys: 0x00; header (s times 16, plus 0 to show or 2 to hide the prompt); s filter bytes; 0x21; the 2 salt bytes"
abbrev pub keys_data : ℕ → List ℕ → List ℕ → Prompt → List ℕ
keys_data s f salt prompt = 0x00 ∷ (s * 16 + prompt_type prompt) ∷ (f ++ (0x21 ∷ salt))

-- "Pairing mode on: 3-byte model ID. Off, empty list: 00 00. Off, n keys: ..", with a filter f of their s bytes
unfoldable pub service_data : Bool → List ℕ → ℕ → List ℕ → List ℕ → Prompt → List ℕ
service_data pairing model n f salt prompt =
    if pairing then model else
    if eqb n 0 then 0x00 ∷ 0x00 ∷ [] else
    keys_data (filter_size n) f salt prompt

-- "One AD structure: length byte (of what follows), 0x16, 0x2C, 0xFE, then service data"
abbrev pub structure : List ℕ → List ℕ
structure sent = (3 + length sent) ∷ 0x16 ∷ 0x2C ∷ 0xFE ∷ sent

-- the structure of n keys that shows the filter f
abbrev pub payload_with : Bool → List ℕ → ℕ → List ℕ → List ℕ → Prompt → List ℕ
payload_with pairing model n f salt prompt = structure (service_data pairing model n f salt prompt)

-- document 01's payload: the filter is the one of the list and the salt
unfoldable pub payload : Bool → List ℕ → List AccountKey → List ℕ → Prompt → List ℕ
payload pairing model keys salt prompt =
    payload_with pairing model (length keys) (filter keys salt) salt prompt
