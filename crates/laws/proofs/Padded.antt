-- Laws of lists in a room of fixed size: account keys and spent salts are kept so.
-- Assumes nothing.
use mathlib.Core.List.{List, [], ◌∷◌, ◌++◌, append-nil, append_assoc}
use mathlib.Core.Path.{◌≡◌, refl, sym, ap, ap₂, ◌∙◌}
use Prim.Native.Nat.{ℕ, suc, ◌+◌, ◌-◌, ◌≤◌, ◌<◌}
use native.Mathlib.Nat.{sub_self}
use native.Mathlib.Omega.{arith}
use lib.ListN.{length, take, drop, set, get_or, replicate, length-append, length-drop, length-replicate, length-take, replicate-append-replicate}
use lib.Seq.{set_at, append_snoc, take-append_seam, take_all, length-take-le, get_or-drop, paste}
use Rattle.laws.specs.Lists.{padded}
use Rattle.laws.specs.Tabulate.{tabulate}
use Rattle.laws.proofs.Filled.{length_tabulate, tabulate_more}
use Rattle.laws.proofs.Lists.{paste_at, paste_more, drop_replicate}

module _ {ℓ} {A : Type ℓ} (n : ℕ) (z : A) where
  pub length_padded : (l : List A) → length l ≤ n → length (padded n z l) ≡ n
  length_padded l h = simp (length-append, length-replicate) (omega arith)

  -- what is in use reads back
  pub take_padded : (l : List A) → take (length l) (padded n z l) ≡ l
  take_padded l = take-append_seam l (replicate (n - length l) z)

  -- a list that fills its room
  pub padded_full : (l : List A) → length l ≡ n → padded n z l ≡ l
  padded_full l e = rw (e, sub_self n, append-nil l)

  -- a store in the first free place
  pub set_padded : (l : List A) (i : ℕ) (x : A) → length l ≡ i → i < n → set (padded n z l) i x ≡ padded n z
      (l ++ (x ∷ []))
  set_padded l i x e h =
      let r : n - length l ≡ suc (n - suc (length l)) = omega arith in
      let f : n - length (l ++ (x ∷ [])) ≡ n - suc (length l) = simp length-append (omega arith) in
      rw (r, f) (set_at l z (replicate (n - suc (length l)) z) x i e ∙ sym
      (append_snoc l x (replicate (n - suc (length l)) z)))

  -- a list copied behind what is in use
  pub paste_padded : (l s : List A) (i : ℕ) → length l ≡ i → paste (padded n z l) i s (length s)
      ≡ padded n z (l ++ s)
  paste_padded l s i e =
      let f : n - length l - length s ≡ n - length (l ++ s) = simp length-append (omega arith) in
      paste_at l (replicate (n - length l) z) s i (length s) e refl
      ∙ rw (drop_replicate (length s) (n - length l) z, f)

  -- what a place that is not in use holds may count as in use
  pub padded_replicate : (l : List A) (k : ℕ) → length l + k ≤ n → padded n z (l ++ replicate k z) ≡ padded n z l
  padded_replicate l k h =
      let f : n - length l ≡ k + (n - length (l ++ replicate k z)) = simp (length-append, length-replicate)
      (omega arith) in
      append_assoc l (replicate k z) (replicate (n - length (l ++ replicate k z)) z)
      ∙ rw (replicate-append-replicate k (n - length (l ++ replicate k z)) z, ← f)

  -- the first c of the places l are in use, and the others hold z
  module _ (l : List A) (c : ℕ) (few : c ≤ n) (whole : l ≡ padded n z (take c l)) where
    pub length_places : length l ≡ n
    length_places = ap length whole ∙ length_padded (take c l) (simp length-take (omega arith))

    pub length_in_use : c ≡ length (take c l)
    length_in_use = sym (length-take-le c l (omega (arith, length_places)))

    -- one more in use: a store in the first free place, and the count that goes with it
    pub set_free_place : (x : A) → c < n → set l c x ≡ padded n z (take c l ++ (x ∷ []))
    set_free_place x h =
        ap₂ (λ (m : List A) (k : ℕ). set m k x) whole length_in_use ∙ set_padded (take c l) (length (take c l)) x refl
        (omega (arith, length_in_use))

    pub count_one_more : (x : A) → c + 1 ≡ length (take c l ++ (x ∷ []))
    count_one_more x = simp length-append (omega (arith, length_in_use))

    -- the first one gone from a full list: what is copied from the second place on, and the count that goes with it
    pub count_one_less : n ≤ c → n - 1 ≡ length (drop 1 (take c l))
    count_one_less h = simp length-drop (omega (arith, length_in_use))

    pub paste_one_less : n ≤ c → paste (replicate n z) 0 (drop 1 l) (n - 1) ≡ padded n z (drop 1 (take c l))
    paste_one_less h =
        let long : length (drop 1 l) ≡ n - 1 = simp length-drop (omega (arith, length_places)) in
        let full : take c l ≡ l = take_all c l (omega (arith, length_places)) in
        let at : 0 + (n - 1) ≡ n - 1 = omega arith in
        rw (full, take_all (n - 1) (drop 1 l) (omega arith), long, at, drop_replicate (n - 1) n z)

    -- without the first there is room
    pub one_less_within : 0 < n → length (drop 1 (take c l)) < n
    one_less_within h = simp length-drop (omega (arith, length_in_use))

-- a turn of a loop that copies l into d from its second place on
pub paste_drop_more {ℓ} : {A : Type ℓ} (d l : List A) (i : ℕ) (z : A) {r : List A} → r ≡ paste d 0 (drop 1 l) i
    → i < length d
    → i + 1 < length l → set r i (get_or l (i + 1) z) ≡ paste d 0 (drop 1 l) (i + 1)
paste_drop_more d l i z {r} e h k =
    let inside : i < length (drop 1 l) = simp length-drop (omega arith) in
    let at : 1 + i ≡ i + 1 = omega arith in
    let value : get_or (drop 1 l) i z ≡ get_or l (i + 1) z = get_or-drop 1 l i z ∙ rw at in
    let place : 0 + i ≡ i = omega arith in
    let below : 0 + i < length d = omega arith in
    let m : set r (0 + i) (get_or (drop 1 l) i z) ≡ paste d 0 (drop 1 l) (i + 1) =
    paste_more d 0 (drop 1 l) i z e below inside
    in
    rw (value, place) at m

-- a turn of a loop that fills a room from the front by a rule
pub set_padded_tabulate : {A : Type 0} (n : ℕ) (z : A) (f : ℕ → A) (i : ℕ) {r : List A} {v : A}
    → r ≡ padded n z (tabulate i f) → i < n → v ≡ f i → set r i v ≡ padded n z (tabulate (i + 1) f)
set_padded_tabulate n z f i e h g =
    rw (e, g, tabulate_more i f) (set_padded n z (tabulate i f) i (f i) (length_tabulate i f) h)
