-- Answers with different numbers are different.
-- Assumes nothing.
use mathlib.Core.Bool.{Bool, not}
use mathlib.Core.Path.{◌≡◌, refl, subst}
use Prim.Native.Nat.{ℕ}
use native.Mathlib.Omega.{arith}
use lib.Dec.{T, eqb}
use borrow.Author.Tests.{eq-eqb}
use Rattle.basics.specs.Answers.{answer_number}
use Rattle.basics.specs.declared.Answer.{Answer}
use Rattle.basics.specs.declared.Answer.TheVariants.{Taken, UnknownLink, WrongLength, PasskeyTooLarge, ClockWentBack, LockedOut, NotInPairingMode, NoKeyFits, SaltSpent, LinkIdle, WrongStage, CapabilityRefused, BadBlock, OutputTooShort, ListMalformed, NameRefused, RotationAwaited}

differ : (n : ℕ) → T (not (eqb n n)) → ⊥
differ n t = subst (λ (b : Bool). T (not b)) (eq-eqb n n refl) t

pub unlike : (a b : Answer) → T (not (eqb (answer_number a) (answer_number b))) → a ≡ b → ⊥
unlike a b t e =
    differ (answer_number b) (subst (λ (x : Answer). T (not (eqb (answer_number x) (answer_number b)))) e t)

-- the answer of number 0
pub number_taken : (a : Answer) → answer_number a ≡ 0 → a ≡ Taken
number_taken Taken e = refl
number_taken UnknownLink e = absurd (omega arith)
number_taken WrongLength e = absurd (omega arith)
number_taken PasskeyTooLarge e = absurd (omega arith)
number_taken ClockWentBack e = absurd (omega arith)
number_taken LockedOut e = absurd (omega arith)
number_taken NotInPairingMode e = absurd (omega arith)
number_taken NoKeyFits e = absurd (omega arith)
number_taken SaltSpent e = absurd (omega arith)
number_taken LinkIdle e = absurd (omega arith)
number_taken WrongStage e = absurd (omega arith)
number_taken CapabilityRefused e = absurd (omega arith)
number_taken BadBlock e = absurd (omega arith)
number_taken OutputTooShort e = absurd (omega arith)
number_taken ListMalformed e = absurd (omega arith)
number_taken NameRefused e = absurd (omega arith)
number_taken RotationAwaited e = absurd (omega arith)
