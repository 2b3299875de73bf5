-- FIPS 180-4, §6.2: SHA-256 of a message of whole bytes.
-- Assumes nothing.
use Rattle.std.specs.Prelude.{ℕ, zero, suc, ◌/◌, List, ◌++◌, length}
use Rattle.laws.specs.BigEndian.{bytes}
use Rattle.sha256.specs.declared.Hash.{Hash}
use Rattle.sha256.specs.Constants.{initial_hash}
use Rattle.sha256.specs.Padding.{pad, block}
use Rattle.sha256.specs.Compression.{compress}

-- §6.2.2 "Each message block, M^(1), M^(2), .., M^(N), is processed in order": the first n blocks of m, from the hash value p
unfoldable pub hashed : Hash → List ℕ → ℕ → Hash
hashed p m zero = p
hashed p m (suc n) = compress (hashed p m n) (block m n)

-- §6.2.2 "the resulting 256-bit message digest of the message, M, is H0 ‖ H1 ‖ .. ‖ H7"
abbrev pub joined : Hash → List ℕ
joined s =
    bytes 4 s.a ++ bytes 4 s.b ++ bytes 4 s.c ++ bytes 4 s.d ++ bytes 4 s.e ++ bytes 4 s.f
    ++ bytes 4 s.g ++ bytes 4 s.h

unfoldable pub sha256 : List ℕ → List ℕ
sha256 m = joined (hashed initial_hash (pad m) (length (pad m) / 64))
