use Rattle.bh_machine.proofs.Refused.{step_only}
use Rattle.bh_machine.proofs.laws.step_refusals.Goals as goal

pub returns : goal.returns
returns c = step_only
