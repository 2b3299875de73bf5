-- The bytes that were visited are joined with the value, and the others are as they were.
use Rattle.std.proofs.Common.{◌≡◌, ◌++◌, take, drop}
use Rattle.hmac_sha256.specs.Hmac.{key_pad}
use Rattle.hmac_sha256.proofs.key_pad.Given as goal

abbrev pub invariant-loop-byte : goal.invariant-loop-byte
invariant-loop-byte l = l.byte-items ≡ key_pad l.value (take l.byte-index l.fn.key) ++ drop l.byte-index l.fn.key
