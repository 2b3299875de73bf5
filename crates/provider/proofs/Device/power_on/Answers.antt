-- A list that was read is valid.
use mathlib.Core.Path.{sym, ◌∙◌}
use Rattle.account_keys.proofs.ReadBack.{reads_valid}
use Rattle.provider.proofs.Device.power_on.Goals as goal

pub started-requires : goal.started-requires
started-requires c = (reads_valid c.args.stored.now c.in-Some.keys (sym c.read.ensures ∙ c.in-Some.is)).canonical
