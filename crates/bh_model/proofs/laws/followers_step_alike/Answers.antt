use Rattle.bh_model.proofs.RunLemmas.{step_alike}
use Rattle.bh_model.proofs.laws.followers_step_alike.Goals as goal

pub returns : goal.returns
returns g c = λ change. step_alike change
