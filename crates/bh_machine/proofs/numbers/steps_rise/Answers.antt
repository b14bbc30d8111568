use Rattle.bh_machine.proofs.NumberLemmas.{steps_rise}
use Rattle.bh_machine.proofs.numbers.steps_rise.Goals as goal

pub returns : goal.returns
returns c = steps_rise
