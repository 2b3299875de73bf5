-- A text a at the front of an output, and behind it the rest of what was there, o: what is written right behind a is joined to it.
-- Assumes nothing.
use mathlib.Core.List.{List, ◌++◌}
use mathlib.Core.Path.{◌≡◌, refl, ap, ◌∙◌}
use Prim.Native.Nat.{ℕ, ◌+◌, ◌-◌, ◌≤◌}
use native.Mathlib.Omega.{arith}
use lib.ListN.{length, take, drop, length-append, length-drop}
use lib.Seq.{paste, sets, sets-eq, take-append_seam, drop-append-add, drop-drop}
use Rattle.laws.proofs.Lists.{paste_at}

module _ {A : Type 0} (o a : List A) {x : List A} (e : x ≡ a ++ drop (length a) o) where
  drop_behind : (n : ℕ) → drop (length a + n) x ≡ drop (length a + n) o
  drop_behind n = rw (e, drop-append-add a (drop (length a) o) n) (drop-drop n (length a) o)

  -- by stores
  pub front_sets : (vs : List A) → length a + length vs ≤ length o
      → sets x (length a) vs ≡ (a ++ vs) ++ drop (length (a ++ vs)) o
  front_sets vs h =
      let long : length x ≡ length a + (length o - length a) = ap length e ∙ length-append a
      (drop (length a) o) ∙ rw (length-drop (length a) o) in
      let front : take (length a) x ≡ a = rw e (take-append_seam a (drop (length a) o)) in
      sets-eq vs x (length a) (omega arith) ∙ rw (front, drop_behind (length vs), length-append a vs)

  -- by a copy
  pub front_paste : (s : List A) (n : ℕ) → length s ≡ n → paste x (length a) s n ≡ (a ++ s) ++ drop
      (length (a ++ s)) o
  front_paste s n h =
      ap (λ (l : List A). paste l (length a) s n) e ∙ paste_at a (drop (length a) o) s (length a) n refl h
      ∙ rw (drop-drop n (length a) o, length-append a s, h)
