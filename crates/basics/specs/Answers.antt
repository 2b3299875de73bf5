-- Document 01, "Answer numbers", and the new answers of document 02.
-- Assumes nothing.
use Rattle.std.specs.Prelude.{Bool, false, List, [], ◌∷◌, ℕ, eqb}
use Rattle.laws.specs.Choice.{◌or◌}
use Rattle.basics.specs.declared.Answer.{Answer}
use Rattle.basics.specs.declared.Answer.TheVariants.{Taken, UnknownLink, WrongLength, PasskeyTooLarge, ClockWentBack, LockedOut, NotInPairingMode, NoKeyFits, SaltSpent, LinkIdle, WrongStage, CapabilityRefused, BadBlock, OutputTooShort, ListMalformed, NameRefused, RotationAwaited}

abbrev pub answer_number : Answer → ℕ
answer_number Taken = 0
answer_number UnknownLink = 1
answer_number WrongLength = 2
answer_number PasskeyTooLarge = 3
answer_number ClockWentBack = 4
answer_number LockedOut = 5
answer_number NotInPairingMode = 6
answer_number NoKeyFits = 7
answer_number SaltSpent = 8
answer_number LinkIdle = 9
answer_number WrongStage = 10
answer_number CapabilityRefused = 11
answer_number BadBlock = 12
answer_number OutputTooShort = 13
answer_number ListMalformed = 14
answer_number NameRefused = 15
answer_number RotationAwaited = 16

-- "taken"
abbrev pub is_taken : Answer → Bool
is_taken a = eqb (answer_number a) 0

-- an answer of one of these numbers
abbrev pub is_one_of : List ℕ → Answer → Bool
is_one_of [] a = false
is_one_of (n ∷ ns) a = eqb (answer_number a) n or is_one_of ns a
