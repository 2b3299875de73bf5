-- The round keys as words: each from the one before, and read where the code reads them.
-- Assumes nothing.
use mathlib.Core.Path.{◌≡◌, refl, sym, ◌∙◌, ap, ap₂}
use mathlib.Core.List.{List, [], ◌∷◌, map}
use Prim.Native.Nat.{ℕ, suc, ◌+◌, ◌-◌, ◌<◌}
use native.Mathlib.Numerals.{add-one}
use native.Mathlib.Omega.{arith}
use lib.Arith.{lt-one}
use lib.Dec.{lit≤}
use lib.ListN.{length, get_or, set, replicate, get_or-map}
use Rattle.laws.specs.BigEndian.{bytes}
use Rattle.laws.proofs.Filled.{Filled, filled_set}
use Rattle.laws.proofs.Lists.{map_set, get_or_within}
use Rattle.aes128.specs.Cipher.{key_expansion}
use Rattle.aes128.specs.Field.{◌⊕◌, x_times}
use Rattle.aes128.specs.KeyExpansion.{rot_word, sub_word, xor_word, x_power, rcon, word, round_key}
use Rattle.aes128.specs.Steps.{doubled, next_round_key}
use Rattle.aes128.specs.Words.{block_of}
use Rattle.aes128.proofs.Blocks.{block_made}
use Rattle.aes128.proofs.Schedule.{round_key_next}
use Rattle.aes128.proofs.Words.{xor_bytes}

-- the words of the next round key, in the code's order
pub next_round_key_made : (k : List ℕ) (x n s : ℕ) → bytes 4 n ≡ rot_word (bytes 4 (get_or k 3 0)) → bytes 4 s ≡ sub_word (bytes 4 n)
    → let a : ℕ = get_or k 0 0 ⊕ (s ⊕ x) in let b : ℕ = get_or k 1 0 ⊕ a in let c : ℕ = get_or k 2 0 ⊕ b in
    block_of (a ∷ b ∷ c ∷ (get_or k 3 0 ⊕ c) ∷ []) ≡ next_round_key (block_of k) (bytes 4 x)
unfolding block_of next_round_key
next_round_key_made k x n s en es =
    let a : ℕ = get_or k 0 0 ⊕ (s ⊕ x) in
    let b : ℕ = get_or k 1 0 ⊕ a in
    let c : ℕ = get_or k 2 0 ⊕ b in
    let ea = plus (get_or k 0 0) (s ⊕ x) (xor_bytes s x ∙ ap (λ l. xor_word l (bytes 4 x)) (es ∙ ap sub_word en)) in
    let eb = plus (get_or k 1 0) a ea in
    let ec = plus (get_or k 2 0) b eb in
    block_made (a ∷ b ∷ c ∷ (get_or k 3 0 ⊕ c) ∷ []) ea eb ec (plus (get_or k 3 0) c ec)
  where
    plus : (v y : ℕ) {l : List ℕ} → bytes 4 y ≡ l → bytes 4 (v ⊕ y) ≡ xor_word (bytes 4 v) l
    plus v y e = xor_bytes v y ∙ ap (xor_word (bytes 4 v)) e

-- a round key's block, where the code reads the key
block_at : (ks : List (List ℕ)) (i : ℕ) → i < length (map block_of ks) → block_of (get_or ks i []) ≡ get_or (map block_of ks) i []
block_at ks i h = sym (get_or-map block_of ks i []) ∙ get_or_within (map block_of ks) i (block_of []) [] h

-- the same, where the schedule is whole
pub key_at_lem : (key : List ℕ) (ks : List (List ℕ)) (i : ℕ) → map block_of ks ≡ key_expansion key → i < 11
    → block_of (get_or ks i []) ≡ get_or (map block_of ks) i []
key_at_lem key ks i e h = block_at ks i (rw e h)

-- the round keys before the i-th are in their places
abbrev pub Expanded : List ℕ → ℕ → List (List ℕ) → Type 0
Expanded key i ks = Filled [] 11 (round_key key) i (map block_of ks)

-- the key itself is the first
pub expanded_first : (k : List ℕ) → Expanded (block_of k) 1 (replicate 11 k)
unfolding block_of round_key word
expanded_first k = record { long = refl; within = lit≤ tt; done = λ j l. rw (lt-one l) }

-- each other from the one before
pub expanded_more : (key : List ℕ) (i : ℕ) (ks : List (List ℕ)) (n : List ℕ) (x : ℕ) → Expanded key (i + 1) ks → i < 10
    → bytes 4 x ≡ rcon (i + 1) → block_of n ≡ next_round_key (block_of (get_or ks i [])) (bytes 4 x)
    → Expanded key (i + 1 + 1) (set ks (i + 1) n)
expanded_more key i ks n x p h ex en =
    rw (map_set block_of ks (i + 1) n)
    (filled_set p (omega arith) (en ∙ ap₂ next_round_key last ex ∙ rw add-one (sym (round_key_next key i))))
  where
    last : block_of (get_or ks i []) ≡ round_key key i
    last = block_at ks i (omega (arith, p.long)) ∙ p.done i (omega arith)

pub rcon_first : bytes 4 0x01000000 ≡ rcon 1
unfolding x_power
rcon_first = refl

pub rcon_more : (i x y : ℕ) → bytes 4 y ≡ doubled (bytes 4 x) → bytes 4 x ≡ rcon (i + 1) → bytes 4 y ≡ rcon (i + 1 + 1)
unfolding x_power x_times
rcon_more i x y e p =
    let next : i + 1 + 1 - 1 ≡ suc (i + 1 - 1) = omega arith in
    e ∙ ap doubled p ∙ rw next
