-- The loops over the rounds. w is the key schedule, s the block before a step, and the other letters are the blocks that the steps
-- of a round give.
-- Assumes nothing.
use mathlib.Core.Path.{◌≡◌}
use mathlib.Core.List.{List, []}
use Prim.Native.Nat.{ℕ, zero, suc, ◌+◌, ◌-◌, ◌<◌}
use native.Mathlib.Nat.{not-suc-le-zero}
use native.Mathlib.Omega.{arith}
use lib.ListN.{get_or}
use Rattle.aes128.specs.Cipher.{key_expansion, rounds, cipher_by, cipher, inv_rounds, inv_cipher_by, inv_cipher}
use Rattle.aes128.specs.Rounds.{sub_bytes, shift_rows, mix_columns, add_round_key}
use Rattle.aes128.specs.Rounds.{inv_sub_bytes, inv_shift_rows, inv_mix_columns}

pub rounds_more : (w : List (List ℕ)) (t : List ℕ) (i : ℕ) {s b c k d : List ℕ} → 0 < i → s ≡ rounds w t (i - 1)
    → b ≡ shift_rows (sub_bytes s) → c ≡ mix_columns b → k ≡ get_or w i [] → d ≡ add_round_key c k
    → d ≡ rounds w t (i + 1 - 1)
unfolding rounds
rounds_more w t zero h p q u v x = absurd (not-suc-le-zero h)
rounds_more w t (suc i) h p q u v x =
    let before : suc i - 1 ≡ i = omega arith in let after : suc i + 1 - 1 ≡ suc i = omega arith in
    rw (x, v, u, q, p, before, after)

pub cipher_made : (key block : List ℕ) (i : ℕ) {w : List (List ℕ)} {a j t s b k c : List ℕ} → w ≡ key_expansion key
    → a ≡ block → j ≡ get_or w 0 [] → t ≡ add_round_key a j → s ≡ rounds w t i → i ≡ 9
    → b ≡ shift_rows (sub_bytes s) → k ≡ get_or w 10 [] → c ≡ add_round_key b k → c ≡ cipher key block
unfolding cipher cipher_by
cipher_made key block i e f g m p h q r u = rw (u, r, q, p, m, g, f, e, h)

pub inv_rounds_more : (w : List (List ℕ)) (i : ℕ) (s : List ℕ) {b k c d t : List ℕ} → 0 < i → inv_rounds w i s ≡ t
    → b ≡ inv_sub_bytes (inv_shift_rows s) → k ≡ get_or w i [] → c ≡ add_round_key b k → d ≡ inv_mix_columns c
    → inv_rounds w (i - 1) d ≡ t
unfolding inv_rounds
inv_rounds_more w zero s h p q r u v = absurd (not-suc-le-zero h)
inv_rounds_more w (suc i) s h p q r u v = let e : suc i - 1 ≡ i = omega arith in rw (v, u, r, q, e) p

inv_rounds_none : (w : List (List ℕ)) (i : ℕ) (s t : List ℕ) → i ≡ 0 → inv_rounds w i s ≡ t → s ≡ t
unfolding inv_rounds
inv_rounds_none w i s t h p = rw h at p

pub inv_cipher_made : (key block : List ℕ) (i : ℕ) (s : List ℕ) {w : List (List ℕ)} {a j t b k c : List ℕ} → w ≡ key_expansion key
    → a ≡ block → j ≡ get_or w 10 [] → t ≡ add_round_key a j → inv_rounds w i s ≡ inv_rounds w 9 t → i ≡ 0
    → b ≡ inv_sub_bytes (inv_shift_rows s) → k ≡ get_or w 0 [] → c ≡ add_round_key b k → c ≡ inv_cipher key block
unfolding inv_cipher inv_cipher_by
inv_cipher_made key block i s {w = w} {t = t} e f g m p h q r u =
    rw (u, r, q, inv_rounds_none w i s (inv_rounds w 9 t) h p, m, g, f, e)
