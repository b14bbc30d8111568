use Rattle.bh_machine.proofs.Retaining.{runs_keep_retained}
use Rattle.bh_machine.proofs.retained.runs_keep_retained.Goals as goal

pub returns : goal.returns
returns c = runs_keep_retained
