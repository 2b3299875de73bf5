-- A part of a list that is lent or copied, in its place between what is before it and what is behind it.
-- Assumes nothing.
use mathlib.Core.List.{List, ◌++◌, append_assoc}
use mathlib.Core.Path.{◌≡◌, sym, ap, ◌∙◌}
use Prim.Native.Nat.{ℕ, ◌+◌}
use lib.ListN.{length, drop}
use lib.Seq.{take_at, drop_at, drop-drop, paste}
use borrow.Rule.Slice.PartMut.{mid_of, put_mid}
use Rattle.laws.proofs.Lists.{paste_at}

-- a part t, a before it and r behind it
module _ {A : Type 0} (a t r : List A) (at n : ℕ) (p : length a ≡ at) (q : length t ≡ n) where
  pub part_read : mid_of at n ((a ++ t) ++ r) ≡ t
  part_read = rw (append_assoc a t r, drop_at a (t ++ r) at p) (take_at t r n q)

  pub part_written : (s : List A) → put_mid at n ((a ++ t) ++ r) s ≡ (a ++ s) ++ r
  part_written s =
      rw (append_assoc a t r, take_at a (t ++ r) at p, drop_at a (t ++ r) at p, drop_at t r n q)
      (sym (append_assoc a s r))

-- a part s copied right behind a, where the rest of o was
pub part_copied : {A : Type 0} (o a s : List A) (at n : ℕ) {x : List A} → length a ≡ at → length s ≡ n → x ≡ a ++ drop at o
    → paste x at s n ≡ (a ++ s) ++ drop (at + n) o
part_copied {A} o a s at n p q e =
    ap (λ (l : List A). paste l at s n) e ∙ paste_at a (drop at o) s at n p q ∙ rw (drop-drop n at o)
