-- What was read is a valid name, and so is the empty one.
use Rattle.std.proofs.Common.{◌≡◌, ℕ, List, length, sym, arith, rules}
use Rattle.std.specs.Prelude.{Option, Some, None, unwrap_or}
use Rattle.names.proofs.ValidNames.{reading_valid, no_name_valid}
use Rattle.names.specs.Name.{reading, no_name, Valid}
use Rattle.names.specs.declared.Name.{Name}
use Rattle.bench_exports.proofs.bench_seal.Goals as goal

named : (text : List ℕ) (r : Option Name) → r ≡ reading text → Valid (unwrap_or r no_name)
named text None e = no_name_valid
named text (Some n) e = reading_valid text (sym e)

pub seal-requires : goal.seal-requires
seal-requires c =
    let long : length c.args.out.now ≡ 80 = search rules in
    (rw (c.unwrap_or-name.ensures, c.none.ensures) (named c.args.text.now c.read.result c.read.ensures), omega (arith, long))
