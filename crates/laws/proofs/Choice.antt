-- Tests, taken apart and put together.
-- Assumes nothing.
use mathlib.Core.Bool.{Bool, true, false, not}
use mathlib.Core.Path.{◌≡◌, refl, subst, sym, ◌∙◌}
use lib.Dec.{T}
use borrow.Author.Tests.{not-true, not-false}
use Rattle.laws.specs.Choice.{◌and◌, ◌or◌}
use Rattle.std.specs.Prelude.{if◌then◌else◌}

pub true_is : {b : Bool} → b ≡ true → T b
true_is e = subst T (sym e) tt

pub is_true : (b : Bool) → T b → b ≡ true
is_true true t = refl
is_true false t = absurd t

-- what holds of both branches holds of the choice; the second is only taken if the test fails
pub if_holds : {A : Type 0} (P : A → Type 0) (b : Bool) {x y : A} → P x → (b ≡ false → P y) → P
    (if b then x else y)
if_holds P true p q = p
if_holds P false p q = q refl

-- a choice whose first branch, where it is taken, is the second
pub if_same : {A : Type 0} (b : Bool) {x y : A} → (b ≡ true → x ≡ y) → (if b then x else y) ≡ y
if_same true e = e refl
if_same false e = refl

pub or_left : (a b : Bool) → a ≡ true → (a or b) ≡ true
or_left true b e = refl
or_left false b e = absurd (true_is e)

pub or_right : (a b : Bool) → b ≡ true → (a or b) ≡ true
or_right true b e = refl
or_right false b e = e

pub or_false : (a : Bool) → (a or false) ≡ a
or_false true = refl
or_false false = refl

pub or_false_left : (a b : Bool) → (a or b) ≡ false → a ≡ false
or_false_left true b e = e
or_false_left false b e = refl

pub or_false_right : (a b : Bool) → (a or b) ≡ false → b ≡ false
or_false_right true b e = absurd (true_is (sym e))
or_false_right false b e = e

pub and_false : (a : Bool) → (a and false) ≡ false
and_false true = refl
and_false false = refl

pub and_true_left : (a : Bool) → (a and true) ≡ false → a ≡ false
and_true_left true e = e
and_true_left false e = refl

pub both_fail : (a b c : Bool) → (a and c) ≡ false → (b and c) ≡ false → ((a or b) and c) ≡ false
both_fail true b c e f = e
both_fail false b c e f = f

pub and_left : (a b : Bool) → (a and b) ≡ true → a ≡ true
and_left true b e = refl
and_left false b e = e

pub and_right : (a b : Bool) → (a and b) ≡ true → b ≡ true
and_right true b e = e
and_right false b e = absurd (true_is e)

-- a test that fails whenever a further one does
pub fails_with : (a : Bool) {b : Bool} → (a ≡ true → b ≡ true) → b ≡ false → a ≡ false
fails_with false h e = refl
fails_with true h e = absurd (true_is (sym e ∙ h refl))

-- the same of tests that pass
pub passes_left : (a b : Bool) → T (a and b) → T a
passes_left a b t = true_is (and_left a b (is_true (a and b) t))

pub passes_right : (a b : Bool) → T (a and b) → T b
passes_right a b t = true_is (and_right a b (is_true (a and b) t))

-- the same of a negated test whose answer a is known to be b
pub negated_true : {a b : Bool} → a ≡ b → not a ≡ true → b ≡ false
negated_true {a} e t = sym e ∙ not-true a t

pub negated_false : {a b : Bool} → a ≡ b → not a ≡ false → b ≡ true
negated_false {a} e t = sym e ∙ not-false a t
