-- Where no bytes are held, what is to be skipped is, if anything; bytes to skip go with none that are held.
use mathlib.Core.Path.{ap, ◌∙◌}
use Rattle.std.specs.Prelude.{Some}
use Rattle.reassembly.proofs.ReadAgain.{again_both, again_none}
use Rattle.reassembly.proofs.Unfinished.read_again.Goals as goal

pub returns-then-self-eq0 : goal.returns-then-self-eq0
returns-then-self-eq0 c = ap Some c.skipping.ensures ∙ again_none c.args.self c.if-self-eq0.true

pub returns-else-self-eq0-2 : goal.returns-else-self-eq0-2
returns-else-self-eq0-2 c = again_both c.args.self c.if-self-eq0-2.false c.if-self-eq0.false
