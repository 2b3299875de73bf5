-- Each part steps in its own crate.
use Rattle.provider.specs.Rules.Device.{clock_step}
use Rattle.provider.proofs.Theorems.ValidParts.{clock_step_valid}
use Rattle.provider.proofs.Device.clock_step.Goals as goal

pub returns-clause-valid : goal.returns-clause-valid
unfolding clock_step
returns-clause-valid c = rw (c.at_clock-self.ensures, c.expire-self.ensures) (clock_step_valid c.requires c.args.clock.0)
