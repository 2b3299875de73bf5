-- Laws of the guard.
-- Assumes nothing.
use mathlib.Core.Bool.{Bool, true, false}
use mathlib.Core.List.{[], ◌∷◌, ◌++◌, List}
use mathlib.Core.Path.{◌≡◌, refl, sym, ap, ◌∙◌}
use Prim.Native.Nat.{ℕ, zero, suc, ◌+◌, ◌-◌, ◌≤◌, ◌<◌}
use native.Mathlib.Omega.{arith}
use lib.Dec.{leb, eqb}
use lib.ListN.{take, drop, set, get_or, replicate, length, length-append, length-drop, length-take, get_or-append}
use lib.Seq.{get_or-take, length-take-le}
use borrow.Author.Tests.{le-leb, lt-leb, leb-true, leb-false, eqb-true, eqb-false}
use Rattle.std.specs.List.{list_any, list_all}
use Rattle.std.proofs.lemmas.Grind.{common_steps}
use Rattle.laws.proofs.All.{all_get, all_append, all_drop, all_tabulate}
use Rattle.laws.proofs.Choice.{if_holds, if_same, and_left, and_right}
use Rattle.laws.proofs.Filled.{length_tabulate, get_d_tabulate, tabulate_ext, tabulate_take}
use Rattle.laws.proofs.Lists.{drop_replicate}
use Rattle.laws.proofs.Padded.{one_less_within, length_places, set_free_place, count_one_more, take_padded}
use Rattle.laws.specs.Choice.{◌and◌, ◌or◌}
use Rattle.laws.specs.Lists.{padded, All}
use Rattle.laws.specs.Tabulate.{tabulate}
use Rattle.request_guard.specs.Guard.{Kept, same_salt, spent, Valid, salt_limit, no_salt, remembered, salts, remembering, no_failures, fresh, locked, failed_at, accepted_with, guard_at, bounded, in_use, cleaned, salt_room, sized_salt, cleaned_salt, Proper, all_sized}
use Rattle.request_guard.specs.declared.Failures.{Failures}
use Rattle.request_guard.specs.declared.Guard.{Guard}
use Rattle.request_guard.specs.declared.Salt.{Salt}
use Rattle.request_guard.specs.declared.SpentSalts.{SpentSalts}

-- ---- salts

-- what a read past the end of an array of salts gives
abbrev pub absent_salt : Salt
absent_salt = record { length = 0; bytes = [] }

-- the bytes in use copied to the front of zeros
pub cleaned_front : (s : Salt) → length s.bytes ≡ salt_room → s.length ≤ salt_room
    → take s.length s.bytes ++ drop s.length (replicate salt_room 0) ≡ (cleaned_salt s).bytes
cleaned_front s e h =
    rw (tabulate_take s.length s.bytes 0 (omega arith), length-take-le s.length s.bytes (omega arith), drop_replicate {A = ℕ})

-- it is cleaned to the salt of a place that is not in use
pub cleaned_read : (l : List Salt) (i : ℕ) → cleaned_salt (get_or l i absent_salt) ≡ cleaned_salt (get_or l i no_salt)
cleaned_read [] i = refl
cleaned_read (s ∷ l) zero = refl
cleaned_read (s ∷ l) (suc i) = cleaned_read l i

-- the bytes read back from their room
bytes_padded : (n : ℕ) (f : ℕ → ℕ) → tabulate n (λ i. get_or (padded salt_room 0 (tabulate n f)) i 0) ≡ tabulate n f
bytes_padded n f =
    tabulate_ext n (λ i. get_or (padded salt_room 0 (tabulate n f)) i 0) f
    (λ i h. get_or-append (tabulate n f) (replicate (salt_room - length (tabulate n f)) 0) 0 i
    (rw (length_tabulate n f) h) ∙ get_d_tabulate n f i 0 h)

-- cleaning twice is cleaning once
cleaned_twice : (s : Salt) → cleaned_salt s ≡ cleaned_salt (cleaned_salt s)
cleaned_twice s =
    λ i. record {
      length = s.length;
      bytes = padded salt_room 0 (sym (bytes_padded s.length (λ k. get_or s.bytes k 0)) i);
    }

pub sized_within : (s : Salt) → sized_salt s ≡ true → s.length ≤ salt_room
sized_within s e = go (eqb s.length 2) refl e
  where
    go : (b : Bool) → eqb s.length 2 ≡ b → (b or eqb s.length 8) ≡ true → s.length ≤ salt_room
    go true p q = omega (arith, eqb-true s.length 2 p)
    go false p q = omega (arith, eqb-true s.length 8 q)

-- a salt of 2 or 8 bytes with zeros behind them
pub padded_proper : (b : List ℕ) → (eqb (length b) 2 or eqb (length b) 8) ≡ true
    → Proper (record { length = length b; bytes = padded salt_room 0 b })
padded_proper b e =
    let long : length b ≤ length (padded salt_room 0 b) = simp length-append (omega arith) in
    let back : tabulate (length b) (λ i. get_or (padded salt_room 0 b) i 0) ≡ b =
    tabulate_take (length b) (padded salt_room 0 b) 0 long ∙ take_padded salt_room 0 b
    in
    record { sized = e; clean = λ i. record { length = length b; bytes = padded salt_room 0 (sym back i) } }

sized_proper : (l : List Salt) → all_sized l ≡ true → All (λ s. s ≡ cleaned_salt s) l → All Proper l
sized_proper [] e p = tt
sized_proper (s ∷ l) e p = (
  record { sized = and_left (sized_salt s) (all_sized l) e; clean = p.0 },
  sized_proper l (and_right (sized_salt s) (all_sized l) e) p.1,
)

proper_sized : (l : List Salt) → All Proper l → all_sized l ≡ true
proper_sized [] p = refl
proper_sized (s ∷ l) p = rw p.0.sized (proper_sized l p.1)

-- ---- every guard that power-on or an event leaves is valid

-- a list of salts reads back from the value that remembers it
salts_kept : (l : List Salt) → salts l ≡ salts (remembered (salts l))
salts_kept l = ap salts (sym (take_padded salt_limit no_salt l))

pub fresh_valid : Valid fresh
fresh_valid =
    record { few = omega arith; whole = refl; proper = tt; bounded = omega arith; cleared = λ e. refl }

-- one salt more, and still at most 16
remembering_few : (l : List Salt) (s : Salt) → length l ≤ salt_limit → length (remembering l s) ≤ salt_limit
unfolding remembering
remembering_few l s h =
    if_holds (λ (k : List Salt). length k ≤ salt_limit) (leb salt_limit (length l))
    (simp (length-append, length-drop) (omega arith))
    (λ e. simp length-append (omega (arith, leb-false salt_limit (length l) e)))

remembering_proper : (l : List Salt) (s : Salt) → All Proper l → Proper s → All Proper (remembering l s)
unfolding remembering
remembering_proper l s p q =
    if_holds (All Proper) (leb salt_limit (length l))
    (all_append Proper (drop 1 l) (s ∷ []) (all_drop Proper 1 l p) (q, tt))
    (λ e. all_append Proper l (s ∷ []) p (q, tt))

module _ (g : Guard) (v : Valid g) where
  -- no more salts are remembered than there is room for
  remembered-few : length (remembered g.spent) ≤ salt_limit
  remembered-few = simp length-take (omega (arith, v.few))

  pub accepted_valid : (s : Salt) → Proper s → Valid (accepted_with s g)
  accepted_valid s p =
      let l : List Salt = remembering (remembered g.spent) s in
      record {
        few = remembering_few (remembered g.spent) s remembered-few;
        whole = salts_kept l;
        proper = rw (take_padded salt_limit no_salt l) (remembering_proper (remembered g.spent) s v.proper p);
        bounded = omega arith;
        cleared = λ e. refl;
      }

  pub failed_valid : (t : ℕ) → locked g ≡ false → Valid (failed_at t g)
  failed_valid t e =
      record {
        few = v.few;
        whole = v.whole;
        proper = v.proper;
        bounded = omega (arith, v.bounded, eqb-false g.failures.count 10 e);
        cleared = λ h. absurd (omega arith);
      }

  pub clock_valid : (t : ℕ) → Valid (guard_at t g)
  unfolding guard_at
  clock_valid t =
      if_holds Valid (leb 300000 (t - g.failures.last.0))
      (record {
        few = v.few;
        whole = v.whole;
        proper = v.proper;
        bounded = omega arith;
        cleared = λ e. refl;
      }) (λ e. v)

-- ---- the spent salts

-- one of the salts is the same
pub spent_any : (l : List Salt) (s : Salt) → list_any (λ x. same_salt x s) l ≡ spent l s
spent_any [] s = refl
spent_any (x ∷ l) s = grind (arith, common_steps, spent_any l s)

pub Kept-salts : (l : List Salt) → length l ≤ salt_limit → Kept (salts l)
Kept-salts l h = record { few = h; whole = salts_kept l }

pub Kept-spent : (g : Guard) → Valid g → Kept g.spent
Kept-spent g v = record { few = v.few; whole = v.whole }

module _ (ss : SpentSalts) (v : Kept ss) where
  salts-padded : ss.salts ≡ padded salt_limit no_salt (remembered ss)
  salts-padded = ap (λ (x : SpentSalts). x.salts) v.whole

  pub length_salts : length ss.salts ≡ salt_limit
  length_salts = length_places salt_limit no_salt ss.salts ss.count v.few salts-padded

  count-remembered : ss.count ≡ length (remembered ss)
  count-remembered = ap (λ (x : SpentSalts). x.count) v.whole

  -- a full list without its oldest salt has room
  pub Kept-drop : Kept (salts (drop 1 (remembered ss))) × (length (drop 1 (remembered ss)) < salt_limit)
  Kept-drop =
      let size : length (drop 1 (remembered ss)) < salt_limit = one_less_within salt_limit no_salt ss.salts
      ss.count v.few salts-padded (omega arith) in
      (Kept-salts (drop 1 (remembered ss)) (omega arith), size)

-- the stores that put one salt more into a kept value
pub salts_push : (ss : SpentSalts) (s : Salt) → Kept ss → ss.count < salt_limit
    → ◌≡◌ {A = SpentSalts} (record { salts = set ss.salts ss.count s; count = ss.count + 1 })
    (salts (remembered ss ++ (s ∷ [])))
salts_push ss s v h =
    λ i. record {
      salts = set_free_place salt_limit no_salt ss.salts ss.count v.few (salts-padded ss v) s h i;
      count = count_one_more salt_limit no_salt ss.salts ss.count v.few (salts-padded ss v) s i;
    }

-- the two ways of an accepted salt
module _ (ss : SpentSalts) (s : Salt) (v : Kept ss) where
  pub remembering_full : salt_limit ≤ ss.count → drop 1 (remembered ss) ++ (s ∷ []) ≡ remembering
      (remembered ss) s
  unfolding remembering
  remembering_full h = rw (le-leb salt_limit (length (remembered ss)) (rw (← count-remembered ss v) h))

  pub remembering_room : ss.count < salt_limit → remembered ss ++ (s ∷ []) ≡ remembering (remembered ss) s
  unfolding remembering
  remembering_room h = rw (lt-leb salt_limit (length (remembered ss)) (rw (← count-remembered ss v) h))

-- ---- a guard of any bytes

-- cleaning leaves how many bytes a salt has
pub sized_all : (n : ℕ) (l : List Salt) → n ≤ length l
    → list_all sized_salt (take n l) ≡ all_sized (tabulate n (λ i. cleaned_salt (get_or l i no_salt)))
sized_all zero l h = refl
sized_all (suc n) [] h = absurd (omega arith)
sized_all (suc n) (s ∷ l) h = let rest = sized_all n l (omega arith) in grind (arith, common_steps, rest)

module _ (ss : SpentSalts) where
  -- salt i in use, cleaned
  abbrev used : ℕ → Salt
  used i = cleaned_salt (get_or ss.salts i no_salt)

  pub count_in_use : length (in_use ss) ≡ ss.count
  count_in_use = length_tabulate ss.count used

  in-use-clean : All (λ s. s ≡ cleaned_salt s) (in_use ss)
  in-use-clean =
      all_tabulate (λ s. s ≡ cleaned_salt s) ss.count used (λ i. cleaned_twice (get_or ss.salts i no_salt))

  -- each salt in use has 2 or 8 bytes
  module _ (e : all_sized (in_use ss) ≡ true) where
    in-use-proper : All Proper (in_use ss)
    in-use-proper = sized_proper (in_use ss) e in-use-clean

    pub used_within : (i : ℕ) → i < ss.count → (get_or ss.salts i absent_salt).length ≤ salt_room
    used_within i h =
        let p : Proper (get_or (in_use ss) i no_salt) = all_get Proper (in_use ss) in-use-proper i no_salt
        (rw count_in_use h) in
        let s : sized_salt (used i) ≡ true = rw (get_d_tabulate ss.count used i no_salt h) at p.sized in
        sized_within (get_or ss.salts i absent_salt) (ap sized_salt (cleaned_read ss.salts i) ∙ s)

module _ (g : Guard) where
  pub counts_bounded : g.spent.count ≤ salt_limit → g.failures.count ≤ 10 → all_sized (in_use g.spent)
      ≡ bounded g
  counts_bounded h k = rw (le-leb g.spent.count salt_limit h, le-leb g.failures.count 10 k)

  module _ (b : bounded g ≡ true) where
    pub bounded_few : g.spent.count ≤ salt_limit
    bounded_few =
        leb-true g.spent.count salt_limit
        (and_left (leb g.spent.count salt_limit) (leb g.failures.count 10 and all_sized (in_use g.spent)) b)

    bounded-rest : (leb g.failures.count 10 and all_sized (in_use g.spent)) ≡ true
    bounded-rest =
        and_right (leb g.spent.count salt_limit) (leb g.failures.count 10 and all_sized (in_use g.spent)) b

    bounded-failures : g.failures.count ≤ 10
    bounded-failures =
        leb-true g.failures.count 10 (and_left (leb g.failures.count 10) (all_sized (in_use g.spent)) bounded-rest)

    pub bounded_sized : all_sized (in_use g.spent) ≡ true
    bounded_sized = and_right (leb g.failures.count 10) (all_sized (in_use g.spent)) bounded-rest

    pub cleaned_valid : Valid (cleaned g)
    cleaned_valid =
        record {
          few = omega (arith, count_in_use g.spent, bounded_few);
          whole = salts_kept (in_use g.spent);
          proper = rw (take_padded salt_limit no_salt (in_use g.spent)) (in-use-proper g.spent bounded_sized);
          bounded = if_holds (λ (f : Failures). f.count ≤ 10) (eqb g.failures.count 0) (omega arith)
              (λ e. bounded-failures);
          cleared = if_holds (λ (f : Failures). f.count ≡ 0 → f ≡ no_failures) (eqb g.failures.count 0)
              (λ h. refl)
              (λ e h. absurd (eqb-false g.failures.count 0 e h));
        }

-- in a valid guard the salts in use are those remembered
in_use_remembered : (g : Guard) → Valid g → in_use g.spent ≡ remembered g.spent
in_use_remembered g v =
    let n : ℕ = g.spent.count in
    let l : List Salt = g.spent.salts in
    let long : length l ≡ salt_limit = length_salts g.spent (Kept-spent g v) in
    tabulate_ext n (λ i. cleaned_salt (get_or l i no_salt)) (λ i. get_or l i no_salt)
    (λ i h. sym (rw (get_or-take n l i no_salt h) at (all_get Proper (take n l) v.proper i no_salt
    (simp length-take (omega (arith, long, v.few)))).clean))
    ∙ tabulate_take n l no_salt (omega (arith, long, v.few))

pub valid_bounded : (g : Guard) → Valid g → bounded g ≡ true
valid_bounded g v =
    sym (counts_bounded g v.few v.bounded)
    ∙ rw (in_use_remembered g v) (proper_sized (remembered g.spent) v.proper)

pub valid_cleaned : (g : Guard) → Valid g → cleaned g ≡ g
valid_cleaned g v =
    λ i. record {
      spent = (ap salts (in_use_remembered g v) ∙ sym v.whole) i;
      failures = if_same (eqb g.failures.count 0)
          (λ e. sym (v.cleared (eqb-true g.failures.count 0 e))) i;
    }
