use Rattle.bh_model.proofs.PurgeLemmas.{state_purged_later}
use Rattle.bh_model.proofs.laws.purged_later.Goals as goal

pub returns : goal.returns
returns c = state_purged_later
