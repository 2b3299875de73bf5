-- FIPS 180-4, §6.2.2: what one block does to the hash value.
-- Assumes nothing.
use Rattle.std.specs.Prelude.{ℕ, zero, suc, ◌+◌, List, [], ◌∷◌, ◌++◌, slice_index, slice_index_or}
use Rattle.sha256.specs.declared.Hash.{Hash}
use Rattle.sha256.specs.Functions.{◌⊞◌, Ch, Maj, Σ₀, Σ₁, σ₀, σ₁}
use Rattle.sha256.specs.Constants.{K}
use Rattle.sha256.specs.Padding.{words}

-- step 1, with t = 16 + i: "W_t = σ1(W_{t-2}) + W_{t-7} + σ0(W_{t-15}) + W_{t-16}"
unfoldable pub next_word : List ℕ → ℕ → ℕ
next_word w i = σ₁ (slice_index w (i + 14)) ⊞ slice_index_or w (i + 9) 0 ⊞ σ₀ (slice_index w (i + 1)) ⊞ slice_index_or w i 0

-- step 1: "W_t = M_t, 0 ≤ t ≤ 15", and n words after those
unfoldable pub schedule : List ℕ → ℕ → List ℕ
schedule b zero = words b 16
schedule b (suc n) = schedule b n ++ (next_word (schedule b n) n ∷ [])

-- step 3: "T1 = h + Σ1(e) + Ch(e, f, g) + K_t + W_t", "T2 = Σ0(a) + Maj(a, b, c)"
unfoldable pub T₁ : Hash → ℕ → ℕ → ℕ
T₁ s k w = s.h ⊞ Σ₁ s.e ⊞ Ch s.e s.f s.g ⊞ k ⊞ w

unfoldable pub T₂ : Hash → ℕ
T₂ s = Σ₀ s.a ⊞ Maj s.a s.b s.c

-- step 3: "h = g, g = f, f = e, e = d + T1, d = c, c = b, b = a, a = T1 + T2"
unfoldable pub round : Hash → ℕ → ℕ → Hash
round s k w =
    record {
      a = T₁ s k w ⊞ T₂ s;
      b = s.a;
      c = s.b;
      d = s.c;
      e = s.d ⊞ T₁ s k w;
      f = s.e;
      g = s.f;
      h = s.g;
    }

-- step 3: "For t = 0 to 63", the first n of these
unfoldable pub rounds : Hash → List ℕ → ℕ → Hash
rounds s w zero = s
rounds s w (suc n) = round (rounds s w n) (slice_index K n) (slice_index w n)

-- step 4: "H0^(i) = a + H0^(i-1), .., H7^(i) = h + H7^(i-1)"
unfoldable pub added : Hash → Hash → Hash
added s p =
    record {
      a = s.a ⊞ p.a;
      b = s.b ⊞ p.b;
      c = s.c ⊞ p.c;
      d = s.d ⊞ p.d;
      e = s.e ⊞ p.e;
      f = s.f ⊞ p.f;
      g = s.g ⊞ p.g;
      h = s.h ⊞ p.h;
    }

-- steps 1 to 4
unfoldable pub compress : Hash → List ℕ → Hash
compress p b = added (rounds p (schedule b 48) 64) p
