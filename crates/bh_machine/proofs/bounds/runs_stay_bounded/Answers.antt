use Rattle.bh_machine.proofs.Bounded.{runs_bounded}
use Rattle.bh_machine.proofs.bounds.runs_stay_bounded.Goals as goal

pub returns : goal.returns
returns c = runs_bounded
