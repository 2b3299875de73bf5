-- What is proved of the two directions together: proofs/Inverse.antt, `decrypt_undoes_encrypt`.
-- Assumes nothing.
use Rattle.std.specs.Prelude.{◌≡◌, List, ℕ, ◌<◌, length, get_or}
use Rattle.aes128.specs.Cipher.{cipher, inv_cipher}

-- sixteen bytes
pub record Block (l : List ℕ) : Type 0 where
  pub long : length l ≡ 16
  pub bytes : (i : ℕ) → get_or l i 0 < 256

-- decryption undoes encryption, for every key and block
abbrev pub Undoes : Type 0
Undoes = (key block : List ℕ) → Block key → Block block → inv_cipher key (cipher key block) ≡ block
