-- Texts put one behind the other.
-- Assumes nothing.
use mathlib.Core.List.{List, ◌++◌, append_assoc}
use mathlib.Core.Path.{◌≡◌, refl, sym, ◌∙◌}
use Prim.Native.Nat.{ℕ, ◌+◌, ◌≤◌}
use native.Mathlib.Omega.{arith}
use lib.ListN.{length, take, drop, length-append}
use lib.Seq.{paste, length-take-le, take-length}
use Rattle.laws.proofs.Parts.{part_copied}

-- a text in o from at on: the place behind it, and what o then holds
pub record Put (o : List ℕ) (at : ℕ) (text : List ℕ) (end : ℕ) (left : List ℕ) : Type 0 where
  pub end_is : end ≡ at + length text
  pub left_is : left ≡ paste o at text (length text)

-- the first text
pub put_first : (o : List ℕ) (at : ℕ) (a : List ℕ) {end : ℕ} {left : List ℕ} → end ≡ at + length a → left ≡ paste o at a (length a)
    → Put o at a end left
put_first o at a p e = record { end_is = p; left_is = e }

-- b right behind a: the text a ++ b
pub put_more : {o : List ℕ} {at : ℕ} {a : List ℕ} {m : ℕ} {x : List ℕ} → at ≤ length o → Put o at a m x
    → (b : List ℕ) {end : ℕ} {y : List ℕ} → end ≡ m + length b → y ≡ paste x m b (length b) → Put o at (a ++ b) end y
put_more {o} {at} {a} {m} {x} h p b {y = y} q e =
    let before : List ℕ = take at o ++ a in
    let long : length before ≡ m = length-append (take at o) a ∙ rw (length-take-le at o h) (sym p.end_is) in
    let x-is : x ≡ before ++ drop m o = p.left_is ∙ rw (take-length a, p.end_is) in
    let sum : m + length b ≡ at + length (a ++ b) = rw length-append (omega arith) in
    let y-is : y ≡ (before ++ b) ++ drop (m + length b) o = e ∙ part_copied o before b m (length b) long refl x-is in
    record { end_is = q ∙ sum; left_is = y-is ∙ rw (sum, take-length (a ++ b), append_assoc (take at o) a b) }

-- two fields, each behind a space
pub joined : (front space a b end : List ℕ) → ((front ++ (space ++ a)) ++ (space ++ b)) ++ end
    ≡ ((((front ++ space) ++ a) ++ space) ++ b) ++ end
joined front space a b end = simp append_assoc
