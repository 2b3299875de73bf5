-- What decryption ensures, of the block that was lent.
use Rattle.bench_exports.proofs.bench_decrypt.Goals as goal

pub returns : goal.returns
returns c = c.decrypt.ensures
