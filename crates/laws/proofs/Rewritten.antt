-- Loops that rewrite a list in place: its first i places have what a rule f gives, and the others what they had, l.
-- Assumes nothing.
use mathlib.Core.List.{List, ◌++◌, append-nil}
use mathlib.Core.Path.{◌≡◌, sym, ◌∙◌}
use Prim.Native.Nat.{ℕ, ◌+◌, ◌≤◌, ◌<◌}
use lib.ListN.{length, drop, set, get_or, drop_of_length-le}
use lib.Seq.{append_snoc, set_at, get_or_at}
use Rattle.laws.specs.Tabulate.{tabulate}
use Rattle.laws.proofs.Filled.{length_tabulate, tabulate_more}
use Rattle.laws.proofs.Lists.{drop_more}

module _ {A : Type 0} (f : ℕ → A) (l : List A) (i : ℕ) {r : List A} (e : r ≡ tabulate i f ++ drop i l) where
  -- the next place is as it was
  pub rewritten_next : (z : A) → i < length l → get_or r i z ≡ get_or l i z
  rewritten_next z h =
      rw (e, drop_more l i z h) (get_or_at (tabulate i f) (get_or l i z) (drop (i + 1) l) z i (length_tabulate i f))

  -- a turn of a loop that rewrites a list in place
  pub rewritten_more : {v : A} → i < length l → v ≡ f i → set r i v ≡ tabulate (i + 1) f ++ drop (i + 1) l
  rewritten_more {v} h q =
      rw (e, drop_more l i v h, q, tabulate_more i f)
      (set_at (tabulate i f) (get_or l i (f i)) (drop (i + 1) l) (f i) i (length_tabulate i f)
      ∙ sym (append_snoc (tabulate i f) (f i) (drop (i + 1) l)))

  pub rewritten_all : length l ≤ i → r ≡ tabulate i f
  rewritten_all h = e ∙ rw (drop_of_length-le l {i = i} h, append-nil (tabulate i f))
