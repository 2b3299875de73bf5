-- What either direction gives is 16 bytes long, whatever it is given.
-- Assumes nothing.
use mathlib.Core.List.{List}
use mathlib.Core.Path.{◌≡◌, refl}
use Prim.Native.Nat.{ℕ}
use lib.ListN.{length}
use Rattle.aes128.specs.Cipher.{cipher, cipher_by, inv_cipher, inv_cipher_by}
use Rattle.aes128.specs.Rounds.{add_round_key}

pub length_cipher : (key block : List ℕ) → length (cipher key block) ≡ 16
unfolding cipher cipher_by add_round_key
length_cipher key block = refl

pub length_inv_cipher : (key block : List ℕ) → length (inv_cipher key block) ≡ 16
unfolding inv_cipher inv_cipher_by add_round_key
length_inv_cipher key block = refl
