use Rattle.bh_view.proofs.OrdinalLemmas.{free_ord_is_least}
use Rattle.bh_view.proofs.laws.free_is_least.Goals as goal

pub returns : goal.returns
returns c = free_ord_is_least
