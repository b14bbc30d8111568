use Rattle.std.proofs.Common.{arith}
use Rattle.bh_model.proofs.PurgeLemmas.{state_purged_later}
use Rattle.bh_model.proofs.laws.purged_twice.Goals as goal

pub returns : goal.returns
returns c = λ s now. state_purged_later s now now (omega arith)
