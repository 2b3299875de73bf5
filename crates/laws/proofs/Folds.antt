-- Laws of folds over a list.
-- Assumes nothing.
use mathlib.Core.List.{List, [], ◌∷◌, foldl, foldl-append, Permᴰ}
use mathlib.Core.Path.{◌≡◌, refl, ap, ap₂, ◌∙◌}
use Prim.Native.Nat.{ℕ, ◌+◌, ◌<◌}
use native.Mathlib.Numerals.{add-one}
use lib.ListN.{length, take, get_or}
use lib.Seq.{take-suc}
use Rattle.laws.specs.Lists.{All}

module _ {A B : Type 0} (f : B → A → B) where
  -- a turn of a loop that folds
  pub fold_more : (b : B) (l : List A) (i : ℕ) (d : A) → i < length l
      → foldl f b (take (i + 1) l) ≡ f (foldl f b (take i l)) (get_or l i d)
  fold_more b l i d h = rw (add-one, take-suc l i d h, foldl-append f b (take i l) (get_or l i d ∷ []))

  -- what each step keeps
  pub fold_keeps : (P : B → Type 0) → ((b : B) (a : A) → P b → P (f b a)) → (b : B) (l : List A) → P b → P
      (foldl f b l)
  fold_keeps P k b [] p = p
  fold_keeps P k b (a ∷ l) p = fold_keeps P k (f b a) l (k b a p)

  -- what each step brings about for its element, and the others keep
  pub fold_all : (G : B → Type 0) (P : B → A → Type 0) → ((b : B) (a : A) → G b → G (f b a))
      → ((b : B) (a : A) → G b → P (f b a) a) → ((b : B) (a c : A) → P b a → P (f b c) a)
      → (b : B) (l : List A) → G b → All (P (foldl f b l)) l
  fold_all G P good sets keeps b [] g = tt
  fold_all G P good sets keeps b (a ∷ l) g = (
    fold_keeps (λ c. P c a) (λ c x. keeps c a x) (f b a) l (sets b a g),
    fold_all G P good sets keeps (f b a) l (good b a g),
  )

  -- steps that may be exchanged
  module _ (exchange : (b : B) (x y : A) → f (f b x) y ≡ f (f b y) x) where
    -- one of them goes past all
    fold-past : (b : B) (x : A) (l : List A) → foldl f (f b x) l ≡ f (foldl f b l) x
    fold-past b x [] = refl
    fold-past b x (y ∷ l) = ap (λ (c : B). foldl f c l) (exchange b x y) ∙ fold-past (f b y) x l

    pub fold_fold : (b : B) (l m : List A) → foldl f (foldl f b l) m ≡ foldl f (foldl f b m) l
    fold_fold b [] m = refl
    fold_fold b (x ∷ l) m = fold_fold (f b x) l m ∙ ap (λ (c : B). foldl f c l) (fold-past b x m)

    pub fold_order : {l m : List A} → Permᴰ l m → (b : B) → foldl f b l ≡ foldl f b m
    fold_order Permᴰ.nil b = refl
    fold_order (Permᴰ.cons {b = y} {l₁ = l} e p) b = ap (λ (x : A). foldl f (f b x) l) e ∙ fold_order p
        (f b y)
    fold_order (Permᴰ.swap {a = x} {b = y} {l = l} e g) b =
        ap (λ (c : B). foldl f c l) (exchange b x y ∙ ap₂ (λ (v w : A). f (f b v) w) g e)
    fold_order (Permᴰ.trans p q) b = fold_order p b ∙ fold_order q b
