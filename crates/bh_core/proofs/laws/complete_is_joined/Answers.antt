use Rattle.bh_core.proofs.Completing as lemma
use Rattle.bh_core.proofs.laws.complete_is_joined.Goals as goal

pub returns : goal.returns
returns c = lemma.complete_is_joined
