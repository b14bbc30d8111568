use Rattle.bh_host.proofs.Running.{ran-append}
use Rattle.bh_host.proofs.laws.runs_join.Goals as goal

pub returns : goal.returns
returns c = ran-append
