-- Laws of HMAC-SHA256.
-- Assumes nothing.
use mathlib.Core.List.{List, ◌++◌}
use mathlib.Core.Path.{◌≡◌}
use Prim.Native.Nat.{ℕ}
use lib.ListN.{length}
use Rattle.sha256.proofs.Laws.{length_sha256}
use Rattle.sha256.specs.Hash.{sha256}
use Rattle.hmac_sha256.specs.Hmac.{key_pad, hmac}

pub length_hmac : (key message : List ℕ) → length (hmac key message) ≡ 32
unfolding hmac
length_hmac key message = length_sha256 (key_pad 0x5C key ++ sha256 (key_pad 0x36 key ++ message))
