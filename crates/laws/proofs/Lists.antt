-- Laws of lists beside those of lib.Seq, with indices as code writes them (`i + 1`).
-- Assumes nothing.
use mathlib.Core.List.{List, [], ◌∷◌, ◌++◌, map, map-append, append-nil}
use mathlib.Core.Path.{◌≡◌, refl, sym, ◌∙◌, ap}
use Prim.Native.Nat.{ℕ, zero, suc, ◌+◌, ◌-◌, ◌≤◌, ◌<◌}
use native.Mathlib.Nat.{le_refl, sub-zero, zero-sub, suc-sub-suc, le_of_suc-le-suc, not-suc-le-zero}
use native.Mathlib.Numerals.{add-one}
use native.Mathlib.Omega.{arith}
use lib.ListN.{length, take, drop, set, get_or, replicate, length-drop, length-take, length-map, drop_of_length-le}
use lib.Seq.{get_or_at, set_at, append_snoc, set-get_or, take_at, drop-append-add, length-take-le, get_or-take, take-suc, drop-cons, take-suc-set, take_all, take-length, sets, sets-eq, paste, paste-suc}

-- a turn of a loop that fills a list from the front
pub take_set_more {ℓ} : {A : Type ℓ} (l : List A) (i : ℕ) (a : A) → i < length l → take (i + 1) (set l i a)
    ≡ take i l ++ (a ∷ [])
take_set_more l i a h = rw (add-one, take-suc-set l i a h)

-- a turn of a loop that copies s into d from at on
pub paste_more {ℓ} : {A : Type ℓ} (d : List A) (at : ℕ) (s : List A) (i : ℕ) (z : A) {l : List A} → l
    ≡ paste d at s i
    → at + i < length d → i < length s → set l (at + i) (get_or s i z) ≡ paste d at s (i + 1)
paste_more d at s i z e h k = rw (e, paste-suc d at s i z h k, add-one)

pub drop_replicate {ℓ} : {A : Type ℓ} (k n : ℕ) (a : A) → drop k (replicate n a) ≡ replicate (n - k) a
drop_replicate zero n a = rw sub-zero
drop_replicate (suc k) zero a = rw zero-sub
drop_replicate (suc k) (suc n) a = drop_replicate k n a ∙ rw suc-sub-suc

-- a part that is lent from a place to the end
pub take_drop_rest {ℓ} : {A : Type ℓ} (k : ℕ) (l : List A) → take (length l - k) (drop k l) ≡ drop k l
take_drop_rest k l = take_all (length l - k) (drop k l) (simp length-drop (le_refl (length l - k)))

-- one element more of what is left
pub drop_more {ℓ} : {A : Type ℓ} (l : List A) (i : ℕ) (z : A) → i < length l → drop i l ≡ get_or l i z ∷ drop
    (i + 1) l
drop_more l i z h = rw (add-one, drop-cons l i z h)

-- what is left of the first n elements
pub drop_take_more {ℓ} : {A : Type ℓ} (l : List A) (n i : ℕ) (z : A) → i < n → n ≤ length l
    → drop i (take n l) ≡ get_or l i z ∷ drop (i + 1) (take n l)
drop_take_more l n i z h k =
    let inside : i < length (take n l) = rw (length-take-le n l k) h in
    drop_more (take n l) i z inside ∙ rw (get_or-take n l i z h)

pub drop_take_all {ℓ} : {A : Type ℓ} (l : List A) (n i : ℕ) → n ≤ i → drop i (take n l) ≡ []
drop_take_all l n i h =
    let short : length (take n l) ≤ i = simp length-take (omega arith) in
    drop_of_length-le (take n l) short

-- a copy that begins where a known front ends
pub paste_at {ℓ} : {A : Type ℓ} (a b s : List A) (at n : ℕ) → length a ≡ at → length s ≡ n
    → paste (a ++ b) at s n ≡ a ++ s ++ drop n b
paste_at a b s at n p q =
    let all : take n s ≡ s = take_all n s (omega arith) in
    let rest : drop (at + n) (a ++ b) ≡ drop n b = rw (← p) (drop-append-add a b n) in
    rw (take_at a b at p, all, rest)

-- stores in a row copy a list
pub sets_paste {ℓ} : {A : Type ℓ} (l : List A) (at : ℕ) (vs : List A) → at + length vs ≤ length l
    → sets l at vs ≡ paste l at vs (length vs)
sets_paste l at vs h = sets-eq vs l at h ∙ rw (take-length vs)

-- four stores at the front
pub set4_front {ℓ} : {A : Type ℓ} (l : List A) (a b c d : A) → 4 ≤ length l
    → set (set (set (set l 0 a) 1 b) 2 c) 3 d ≡ a ∷ b ∷ c ∷ d ∷ drop 4 l
set4_front [] a b c d h = absurd (not-suc-le-zero h)
set4_front (w ∷ []) a b c d h = absurd (not-suc-le-zero (le_of_suc-le-suc h))
set4_front (w ∷ x ∷ []) a b c d h = absurd (not-suc-le-zero (le_of_suc-le-suc (le_of_suc-le-suc h)))
set4_front (w ∷ x ∷ y ∷ []) a b c d h =
    absurd (not-suc-le-zero (le_of_suc-le-suc (le_of_suc-le-suc (le_of_suc-le-suc h))))
set4_front (w ∷ x ∷ y ∷ z ∷ l) a b c d h = refl

pub get_or4_front {ℓ} : {A : Type ℓ} (l : List A) (z : A) → 4 ≤ length l
    → l ≡ get_or l 0 z ∷ get_or l 1 z ∷ get_or l 2 z ∷ get_or l 3 z ∷ drop 4 l
get_or4_front l z h =
    let e = set4_front l (get_or l 0 z) (get_or l 1 z) (get_or l 2 z) (get_or l 3 z) h in
    rw (set-get_or l 0 z, set-get_or l 1 z, set-get_or l 2 z, set-get_or l 3 z) at e

pub map_set : {A B : Type 0} (f : A → B) (l : List A) (i : ℕ) (a : A) → map f (set l i a) ≡ set (map f l) i (f a)
map_set f [] i a = refl
map_set f (x ∷ l) zero a = refl
map_set f (x ∷ l) (suc i) a = ap (λ t. f x ∷ t) (map_set f l i a)

-- a turn of a loop that maps a list in place
pub map_more : {A : Type 0} (f : A → A) (l : List A) (i : ℕ) (z : A) {r : List A} {v : A} → r ≡ map f
    (take i l) ++ drop i l
    → i < length l → v ≡ f (get_or r i z) → set r i v ≡ map f (take (i + 1) l) ++ drop (i + 1) l
map_more f l i z {r} {v} e h q =
    let size : length (map f (take i l)) ≡ i = length-map (take i l) f ∙ length-take-le i l (omega arith) in
    let split : r ≡ map f (take i l) ++ (get_or l i z ∷ drop (i + 1) l) = e ∙ rw (drop_more l i z h) in
    let read : get_or r i z ≡ get_or l i z = rw split (get_or_at (map f (take i l)) (get_or l i z)
    (drop (i + 1) l) z i size) in
    let front : map f (take (i + 1) l) ≡ map f (take i l) ++ (f (get_or l i z) ∷ []) =
    rw (add-one, take-suc l i z h, map-append)
    in
    rw (split, front, q, read)
    (set_at (map f (take i l)) (get_or l i z) (drop (i + 1) l) (f (get_or l i z)) i size
    ∙ sym (append_snoc (map f (take i l)) (f (get_or l i z)) (drop (i + 1) l)))

pub map_take_all : {A : Type 0} (f : A → A) (l : List A) (n : ℕ) → length l ≡ n → map f (take n l) ++ drop n l
    ≡ map f l
map_take_all f l n e =
    rw (take_all n l (omega arith), drop_of_length-le l {i = n} (omega arith), append-nil (map f l))

-- within the list it does not matter what stands past its end
pub get_or_within {ℓ} : {A : Type ℓ} (l : List A) (i : ℕ) (y z : A) → i < length l → get_or l i y ≡ get_or l i z
get_or_within [] i y z h = absurd (not-suc-le-zero h)
get_or_within (x ∷ xs) zero y z h = refl
get_or_within (x ∷ xs) (suc i) y z h = get_or_within xs i y z (le_of_suc-le-suc h)
