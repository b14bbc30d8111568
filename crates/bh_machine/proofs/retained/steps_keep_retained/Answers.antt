use Rattle.bh_machine.proofs.Retaining.{steps_keep_retained}
use Rattle.bh_machine.proofs.retained.steps_keep_retained.Goals as goal

pub returns : goal.returns
returns c = steps_keep_retained
