-- Laws of the counter mode and of the tag.
-- Assumes nothing.
use mathlib.Core.List.{List, ◌++◌}
use mathlib.Core.Path.{◌≡◌, ap, ap₂, ◌∙◌}
use Prim.Native.Nat.{ℕ, ◌+◌, ◌/◌, ◌%◌, ◌<◌}
use native.Mathlib.Omega.{arith}
use lib.Bits.{bit_xor}
use lib.ListN.{length, drop, set, get_or, replicate}
use lib.Seq.{length-take-le}
use Rattle.laws.proofs.Filled.{length_tabulate}
use Rattle.laws.proofs.Rewritten.{rewritten_next, rewritten_more, rewritten_all}
use Rattle.laws.specs.Tabulate.{tabulate}
use Rattle.hmac_sha256.specs.Hmac.{hmac}
use Rattle.hmac_sha256.proofs.Laws.{length_hmac}
use Rattle.additional_data.specs.CounterMode.{key_stream, counter_mode}
use Rattle.additional_data.specs.Packet.{tag}

-- ---- the counter mode

module _ (key nonce text : List ℕ) where
  -- byte j of the data under the counter mode
  abbrev pub mixed : ℕ → ℕ
  mixed j = bit_xor (get_or text j 0) (get_or (key_stream key nonce (j / 16)) (j % 16) 0)

  -- a byte more, by the key stream of its block
  pub mixed_more : (j : ℕ) {r stream : List ℕ} → r ≡ tabulate j mixed ++ drop j text → j < length text
      → stream ≡ key_stream key nonce (j / 16)
      → set r j (bit_xor (get_or r j 0) (get_or stream (j % 16) 0)) ≡ tabulate (j + 1) mixed ++ drop (j + 1) text
  mixed_more j e h s =
      rewritten_more mixed text j e h
      (ap₂ (λ (b : ℕ) (l : List ℕ). bit_xor b (get_or l (j % 16) 0)) (rewritten_next mixed text j e 0 h) s)

  pub mixed_all : (j : ℕ) {r : List ℕ} → r ≡ tabulate j mixed ++ drop j text → j ≡ length text
      → r ≡ counter_mode key nonce text
  unfolding counter_mode
  mixed_all j e h = rewritten_all mixed text j e (omega arith) ∙ ap (λ (n : ℕ). tabulate n mixed) h

-- within a block the key stream stays
pub stream_stays : (key nonce : List ℕ) (j : ℕ) {stream : List ℕ} → stream ≡ key_stream key nonce (j / 16)
    → ((j + 1) % 16 ≡ 0 → ⊥) → stream ≡ key_stream key nonce ((j + 1) / 16)
stream_stays key nonce j e h =
    let block : j / 16 ≡ (j + 1) / 16 = omega arith in
    e ∙ ap (key_stream key nonce) block

pub length_counter_mode : (key nonce text : List ℕ) → length (counter_mode key nonce text) ≡ length text
unfolding counter_mode
length_counter_mode key nonce text = length_tabulate (length text) (mixed key nonce text)

-- ---- the tag

pub length_tag : (key message : List ℕ) → length (tag key message) ≡ 8
length_tag key message =
    length-take-le 8 (hmac (key ++ replicate 48 0) message) (omega (arith, length_hmac (key ++ replicate 48 0) message))
