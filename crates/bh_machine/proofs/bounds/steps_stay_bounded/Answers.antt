use Rattle.bh_machine.proofs.Bounded.{steps_bounded}
use Rattle.bh_machine.proofs.bounds.steps_stay_bounded.Goals as goal

pub returns : goal.returns
returns c = steps_bounded
