use Rattle.bh_core.proofs.Cutting as lemma
use Rattle.bh_core.proofs.laws.ranges_lie_within.Goals as goal

pub returns : goal.returns
returns c = lemma.ranges_lie_within
