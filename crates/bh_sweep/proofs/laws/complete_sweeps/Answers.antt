use Rattle.bh_sweep.proofs.Complete.{leaves_needed}
use Rattle.bh_sweep.proofs.laws.complete_sweeps.Goals as goal

pub returns : goal.returns
returns c = leaves_needed
