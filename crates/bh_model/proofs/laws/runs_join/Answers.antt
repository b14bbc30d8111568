use Rattle.bh_model.proofs.RunLemmas.{solo-append, solo_state-append}
use Rattle.bh_model.proofs.laws.runs_join.Goals as goal

pub returns : goal.returns
returns g c = λ step s acts more. (solo-append step s acts more, solo_state-append step s acts more)
