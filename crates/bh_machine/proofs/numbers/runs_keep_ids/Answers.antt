use Rattle.bh_machine.proofs.NumberLemmas.{runs_keep_ids}
use Rattle.bh_machine.proofs.numbers.runs_keep_ids.Goals as goal

pub returns : goal.returns
returns c = runs_keep_ids
