use Rattle.bh_machine.proofs.NumberLemmas.{steps_keep_ids}
use Rattle.bh_machine.proofs.numbers.steps_keep_ids.Goals as goal

pub returns : goal.returns
returns c = steps_keep_ids
