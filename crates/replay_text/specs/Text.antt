-- Document 02 (iii): "one line for each event: its number, kind, answer and list size, single spaces between, no header".
-- Assumes nothing.
use Rattle.std.specs.Prelude.{List, [], ◌∷◌, ◌++◌, ℕ, zero, suc, ◌+◌, ◌/◌, ◌%◌, ltb, if◌then◌else◌}
use Rattle.replay_text.specs.Ascii.{ascii}
use Rattle.recording.specs.declared.Kind.{Kind}
use Rattle.recording.specs.declared.Kind.TheVariants as kind
use Rattle.replay.specs.Replay.{lines}
use Rattle.replay.specs.declared.Line.{Line}

-- kind names
abbrev pub kind_name : Kind → List ℕ
kind_name kind.Marker = ascii "marker"
kind_name kind.LinkUp = ascii "link-up"
kind_name kind.LinkDown = ascii "link-down"
kind_name kind.PairingMode = ascii "pairing-mode"
kind_name kind.AddressRotated = ascii "address-rotated"
kind_name kind.PowerOn = ascii "power-on"
kind_name kind.FactoryReset = ascii "factory-reset"
kind_name kind.KeyBasedWrite = ascii "key-based-write"
kind_name kind.PairingStarted = ascii "pairing-started"
kind_name kind.ConfirmationNeeded = ascii "confirmation-needed"
kind_name kind.PasskeyWrite = ascii "passkey-write"
kind_name kind.PairingEnded = ascii "pairing-ended"
kind_name kind.AccountKeyWrite = ascii "account-key-write"
kind_name kind.NameWrite = ascii "name-write"

-- the digits of a number in ASCII; no number of 64 bits has more than 20
unfoldable pub decimal_within : ℕ → ℕ → List ℕ
decimal_within zero n = []
decimal_within (suc places) n = (if ltb n 10 then [] else decimal_within places (n / 10)) ++ ((48 + n % 10) ∷ [])

abbrev pub decimal : ℕ → List ℕ
decimal n = decimal_within 20 n

abbrev pub space : List ℕ
space = ascii " "

unfoldable pub text : Line → List ℕ
text l =
    decimal l.number ++ space ++ kind_name l.kind ++ space ++ decimal l.answer ++ space ++ decimal l.size ++ ascii "\n"

-- "one line for each event": their texts, one behind the other
unfoldable pub texts : List Line → List ℕ
texts [] = []
texts (l ∷ ls) = text l ++ texts ls

-- what a recording prints
abbrev pub printed_text : List ℕ → List ℕ
printed_text recording = texts (lines recording)
