-- Laws of the definitions of SHA-256, as the loops use them.
-- Assumes nothing.
use Rattle.std.proofs.Common.{◌≡◌, ℕ, zero, suc, ◌+◌, ◌-◌, ◌*◌, ◌/◌, ◌%◌, ◌^◌, ◌<◌, ◌≤◌, List, [], ◌∷◌, ◌++◌, length, get_or, take, drop, set, replicate, sym, refl, ap, ◌∙◌, append_assoc, add-zero, add-suc, mod-lt, add-mul, add-one, arith, lit<, length-append, length-drop, drop_of_length-le, drop-drop}
use native.Mathlib.Numerals.{add-two, add-three, add-four}
use lib.ListN.{length-replicate, get_or-append}
use lib.Seq.{drop-append-le, take-append-le, drop_at, take_at}
use borrow.Rule.Slice.PartMut.{put_mid}
use Rattle.std.specs.Int.{next_multiple_of}
use Rattle.laws.proofs.Lists.{drop_replicate}
use Rattle.laws.proofs.Padded.{padded_full, take_padded, set_padded, padded_replicate}
use Rattle.laws.specs.BigEndian.{bytes}
use Rattle.laws.specs.Lists.{padded}
use Rattle.sha256.specs.Compression.{next_word, schedule, round, rounds, compress}
use Rattle.sha256.specs.Constants.{K, initial_hash}
use Rattle.sha256.specs.Hash.{hashed, joined, sha256}
use Rattle.sha256.specs.Padding.{word, words, block, padding, pad}
use Rattle.sha256.specs.Steps.{last_blocks, digest_rest}
use Rattle.sha256.specs.declared.Hash.{Hash}
use Rattle.sha256.specs.declared.LastBlocks.{LastBlocks}

length_words : (b : List ℕ) (n : ℕ) → length (words b n) ≡ n
unfolding words
length_words b zero = refl
length_words b (suc n) = length-append (words b n) (word b n ∷ []) ∙ rw (length_words b n, add-one)

-- a turn of the loop that fills in the block's words
pub words_more : (b : List ℕ) (i : ℕ) {w : List ℕ} {r : ℕ} → i < 64 → w ≡ padded 64 0 (words b i)
    → r ≡ word b i → set w i r ≡ padded 64 0 (words b (i + 1))
unfolding words
words_more b i h p e = rw (p, e, add-one) (set_padded 64 0 (words b i) i (word b i) (length_words b i) h)

length_schedule : (b : List ℕ) (n : ℕ) → length (schedule b n) ≡ n + 16
unfolding schedule
length_schedule b zero = length_words b 16
length_schedule b (suc n) =
    length-append (schedule b n) (next_word (schedule b n) n ∷ []) ∙ omega (arith, length_schedule b n)

-- the next word is made of words before it
next_word_append : (l m : List ℕ) (i : ℕ) → length l ≡ i + 16 → next_word (l ++ m) i ≡ next_word l i
unfolding next_word
next_word_append l m i e =
    rw (
      get_or-append l m 0 (i + 14) (omega arith),
      get_or-append l m 0 (i + 9) (omega arith),
      get_or-append l m 0 (i + 1) (omega arith),
      get_or-append l m 0 i (omega arith),
    )

-- a turn of the loop that fills in the words after them
pub schedule_more : (b : List ℕ) (i : ℕ) {w : List ℕ} {r : ℕ} → i + 16 < 64 → w ≡ padded 64 0 (schedule b i)
    → r ≡ next_word w i → set w (i + 16) r ≡ padded 64 0 (schedule b (i + 1))
unfolding schedule
schedule_more b i h p e =
    rw (e, p, add-one, next_word_append (schedule b i) (replicate (64 - length (schedule b i)) 0) i (length_schedule b i))
    (set_padded 64 0 (schedule b i) (i + 16) (next_word (schedule b i) i) (length_schedule b i) h)

-- all its words fill the room
pub schedule_full : (b : List ℕ) → padded 64 0 (schedule b 48) ≡ schedule b 48
schedule_full b = padded_full 64 0 (schedule b 48) (length_schedule b 48)

-- four rounds are one turn of the loop
pub rounds_more : (p : Hash) (w : List ℕ) (i : ℕ) {s₀ s₁ s₂ s₃ s₄ : Hash} → s₀ ≡ rounds p w i
    → s₁ ≡ round s₀ (get_or K i 0) (get_or w i 0)
    → s₂ ≡ round s₁ (get_or K (i + 1) 0) (get_or w (i + 1) 0)
    → s₃ ≡ round s₂ (get_or K (i + 2) 0) (get_or w (i + 2) 0)
    → s₄ ≡ round s₃ (get_or K (i + 3) 0) (get_or w (i + 3) 0)
    → s₄ ≡ rounds p w (i + 4)
unfolding rounds
rounds_more p w i e₀ e₁ e₂ e₃ e₄ = rw (e₄, e₃, e₂, e₁, e₀, add-four, add-three, add-two, add-one)

-- the blocks from the i-th on are those of what is left after i blocks
block_drop : (x : List ℕ) (i j : ℕ) → block x (i + j) ≡ block (drop (i * 64) x) j
unfolding block
block_drop x i j = rw (drop-drop (j * 64) (i * 64) x, ← add-mul i j 64)

hashed_drop : (p : Hash) (x : List ℕ) (i j : ℕ) → hashed p x (i + j) ≡ hashed (hashed p x i) (drop (i * 64) x) j
unfolding hashed
hashed_drop p x i zero = rw add-zero
hashed_drop p x i (suc j) = rw (add-suc i j, hashed_drop p x i j, block_drop x i j)

-- whole blocks of a message are not changed by what follows them
block_append : (a b : List ℕ) (i : ℕ) → suc i * 64 ≤ length a → block (a ++ b) i ≡ block a i
unfolding block
block_append a b i h =
    rw (
      drop-append-le (i * 64) a b (omega arith),
      take-append-le 64 (drop (i * 64) a) b
          (simp length-drop (omega arith)),
    )

hashed_append : (p : Hash) (a b : List ℕ) (i : ℕ) → i * 64 ≤ length a → hashed p (a ++ b) i ≡ hashed p a i
unfolding hashed
hashed_append p a b zero h = refl
hashed_append p a b (suc i) h = rw (block_append a b i h, hashed_append p a b i (omega arith))

-- a message that begins with a block b is hashed by that block, and then what is left
pub hashed_front : (p : Hash) (b r : List ℕ) {l : List ℕ} {s : Hash} → l ≡ b ++ r → length b ≡ 64 → s ≡ compress p b
    → hashed s r (length r / 64) ≡ hashed p l (length l / 64)
unfolding hashed block
hashed_front p b r {l} {s} e k q =
    let n : length (b ++ r) / 64 ≡ 1 + length r / 64 = simp length-append (omega arith) in
    rw (q, e, n, hashed_drop p (b ++ r) 1 (length r / 64), drop_at b r 64 k, take_at b r 64 k)

-- less than a block is left
pub hashed_end : (p : Hash) (r : List ℕ) → length r < 64 → hashed p r (length r / 64) ≡ p
unfolding hashed
hashed_end p r h = let n : length r / 64 ≡ 0 = omega arith in rw n

-- ---- the last blocks

-- the number of zeros that follow the bit "1", of a message whose last r bytes are no whole block
abbrev zeros : ℕ → ℕ
zeros r = (119 - r) % 64

-- the blocks end 8 bytes behind those zeros
blocks_end : (r : ℕ) → r < 64 → next_multiple_of (r + 9) 64 ≡ r + 1 + zeros r + 8
blocks_end r h = omega arith

length_padding : (n : ℕ) → length (padding n) ≡ 1 + zeros (n % 64) + 8
unfolding padding
length_padding n = simp (length-append, length-replicate) (omega arith)

-- what is left of a message of n bytes
module _ (rest : List ℕ) (n : ℕ) (left : length rest ≡ n % 64) where
  short : length rest < 64
  short = rw left (mod-lt n (lit< tt))

  ends : next_multiple_of (length rest + 9) 64 ≡ length (rest ++ padding n)
  ends =
      blocks_end (length rest) short
      ∙ sym (length-append rest (padding n) ∙ rw (length_padding n, ← left) (omega arith))

  -- two blocks are enough
  pub two_blocks : length (rest ++ padding n) ≤ 128
  two_blocks = rw (← ends) (omega (arith, short, blocks_end (length rest) short))

  -- followed by the bit "1" and zeros
  abbrev begun : List ℕ
  begun = (rest ++ (0x80 ∷ [])) ++ replicate (zeros (length rest)) 0

  bit-stored : set (rest ++ drop (length rest) (replicate 128 0)) (length rest) 0x80 ≡ padded 128 0 begun
  bit-stored =
      rw (drop_replicate {A = ℕ} (length rest) 128 0) (set_padded 128 0 rest (length rest) 0x80 refl (omega (arith, short)))
      ∙ sym (padded_replicate 128 0 (rest ++ (0x80 ∷ [])) (zeros (length rest))
      (simp length-append (omega (arith, short))))

  -- the length of the message behind those
  length-stored : (count : List ℕ) (end : ℕ) → count ≡ bytes 8 (n * 8 % 2 ^ 64)
      → end ≡ next_multiple_of (length rest + 9) 64
      → put_mid (end - 8) (end - (end - 8)) (padded 128 0 begun) count ≡ padded 128 0 (rest ++ padding n)
  unfolding padding
  length-stored count end e f =
      let at : length begun ≡ end - 8 = simp (length-append, length-replicate)
      (omega (arith, blocks_end (length rest) short)) in
      let long : length count ≡ end - (end - 8) = rw e (omega (arith, blocks_end (length rest) short)) in
      let all : begun ++ count ≡ rest ++ padding n =
      append_assoc (rest ++ (0x80 ∷ [])) (replicate (zeros (length rest)) 0) count
      ∙ append_assoc rest (0x80 ∷ []) (replicate (zeros (length rest)) 0 ++ count) ∙ rw (e, left)
      in
      let behind : 128 - length begun - length count ≡ 128 - length (begun ++ count) = simp length-append (omega arith) in
      rw (
        take_at begun (replicate (128 - length begun) 0) (end - 8) at,
        drop_at begun (replicate (128 - length begun) 0) (end - 8) at,
        drop_replicate {A = ℕ} (end - (end - 8)) (128 - length begun) 0,
        ← long,
        behind,
        ← append_assoc begun count (replicate (128 - length (begun ++ count)) 0),
      )
      (ap (padded 128 0) all)

  pub last_blocks_lem : {front count : List ℕ} {end : ℕ} → front ≡ rest → count ≡ bytes 8 (n * 8 % 2 ^ 64)
      → end ≡ next_multiple_of (length rest + 9) 64
      → ◌≡◌ {A = LastBlocks} (record {
        bytes = put_mid (end - 8) (end - (end - 8)) (set (front ++ drop (length rest) (replicate 128 0)) (length rest) 0x80) count;
        end = end;
      })
      (last_blocks rest n)
  last_blocks_lem {front} {count} {end} d e f =
      rw (d, bit-stored, length-stored count end e f, f, ends)

-- a message is hashed in two parts, the first of i whole blocks
hashed_parts : (p : Hash) (m t : List ℕ) (i : ℕ) → i * 64 ≤ length m
    → hashed p (m ++ t) (length (m ++ t) / 64) ≡ hashed (hashed p m i) (drop (i * 64) m ++ t)
    (length (drop (i * 64) m ++ t) / 64)
hashed_parts p m t i h =
    let n : length (m ++ t) / 64 ≡ i + length (drop (i * 64) m ++ t) / 64 = simp (length-append, length-drop)
    (omega arith) in
    rw n
    (hashed_drop p (m ++ t) i (length (drop (i * 64) m ++ t) / 64)
    ∙ rw (hashed_append p m t i h, drop-append-le (i * 64) m t h))

-- the last bytes of a message of n bytes that ends with m
module _ (m : List ℕ) (n : ℕ) (ends-m : length m % 64 ≡ n % 64) {last : LastBlocks} (e : last ≡ last_blocks
    (drop (length m - length m % 64) m) n) where
  left : length (drop (length m - length m % 64) m) ≡ n % 64
  left = simp length-drop (omega arith)

  pub end_within : last.end ≤ 128
  end_within = rw e (two_blocks (drop (length m - length m % 64) m) n left)

  -- the digest is that of the whole blocks of m and then of the last blocks
  pub digest_two_parts : (h : Hash) {p : Hash} → p ≡ hashed h m (length m / 64)
      → joined (hashed p (take last.end last.bytes) (length (take last.end last.bytes) / 64))
      ≡ digest_rest h m n
  digest_two_parts h q =
      let whole : length m - length m % 64 ≡ length m / 64 * 64 = omega arith in
      ap joined (rw (q, e, take_padded 128 0 (drop (length m - length m % 64) m ++ padding n), whole)
      (sym (hashed_parts h m (padding n) (length m / 64) (omega arith))))

-- the digest of a block b and then m
pub sha256_after : (b m : List ℕ) {p : Hash} → length b ≡ 64 → p ≡ hashed initial_hash b (length b / 64)
    → digest_rest p m (64 + length m) ≡ sha256 (b ++ m)
unfolding sha256 pad
sha256_after b m k q =
    let one : length b / 64 ≡ 1 = omega arith in
    let total : length (b ++ m) ≡ 64 + length m = length-append b m ∙ rw k in
    let none : drop (1 * 64) b ≡ [] = drop_of_length-le b {i = 1 * 64} (omega arith) in
    ap joined (rw (q, one, total, append_assoc b m (padding (64 + length m)))
    (sym (hashed_parts initial_hash b (m ++ padding (64 + length m)) 1 (omega arith) ∙ rw none)))

pub length_sha256 : (m : List ℕ) → length (sha256 m) ≡ 32
unfolding sha256
length_sha256 m = refl
