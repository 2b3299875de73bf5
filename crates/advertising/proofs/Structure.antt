-- Laws of the payload: what the stores leave is the structure, and what follows it stays.
-- Assumes nothing.
use mathlib.Core.List.{List, ◌∷◌, ◌++◌}
use mathlib.Core.Path.{◌≡◌, ◌∙◌}
use Prim.Native.Nat.{ℕ, ◌+◌, ◌*◌, ◌≤◌, ◌<◌}
use native.Mathlib.Omega.{arith}
use lib.ListN.{length, take, set, length-append, length-set}
use lib.Seq.{take_at, length-take-le}
use Rattle.std.proofs.lemmas.List.{append_assoc, take_more_set}
use Rattle.std.proofs.lemmas.Slice.{take-put_mid}
use borrow.Rule.Slice.PartMut.{put_mid}
use Rattle.advertising.specs.Filter.{filter_size}
use Rattle.advertising.specs.Payload.{prompt_type, keys_data}
use Rattle.advertising.specs.declared.Prompt.{Prompt}

-- two bytes and a filter of s bytes, a header and the salt stored behind them
stored : (s k a b : ℕ) (f post salt : List ℕ) → length f ≡ s → 0 < length post → length salt ≡ 2
    → take (s + 5) (put_mid (s + 3) k (set (a ∷ b ∷ (f ++ post)) (s + 2) 0x21) salt) ≡ a ∷ b ∷ (f ++ (0x21 ∷ salt))
stored s k a b f post salt e h two =
    let room : s + 2 < length (a ∷ b ∷ (f ++ post)) = simp length-append (omega arith) in
    let place : s + 3 ≡ s + 2 + 1 = omega arith in
    take-put_mid (s + 3) k (set (a ∷ b ∷ (f ++ post)) (s + 2) 0x21) salt (s + 5) (omega arith)
    (simp length-set (omega arith))
    ∙ rw (place, take_more_set (a ∷ b ∷ (f ++ post)) (s + 2) 0x21 room, take_at (a ∷ b ∷ f) post (s + 2) (omega arith))
    (simp append_assoc)

-- so they are the data of n keys
pub data_stored : (n k : ℕ) (filter salt post : List ℕ) (prompt : Prompt) {s t : ℕ} {f u : List ℕ}
    → s ≡ filter_size n → t ≡ prompt_type prompt → f ≡ take s filter → u ≡ salt
    → s ≤ length filter → length salt ≡ 2 → 0 < length post
    → take (s + 5) (put_mid (s + 3) k (set (0x00 ∷ (s * 16 + t) ∷ (f ++ post)) (s + 2) 0x21) u)
    ≡ keys_data (filter_size n) (take (filter_size n) filter) salt prompt
data_stored n k filter salt post prompt {s} {t} size header part same within two room =
    rw (part, same, header)
    (stored s k 0x00 (s * 16 + prompt_type prompt) (take s filter) post salt (length-take-le s filter within) room two ∙ rw size)
