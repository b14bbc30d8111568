use Rattle.bh_core.proofs.Cutting as lemma
use Rattle.bh_core.proofs.laws.parts_are_cut.Goals as goal

pub returns : goal.returns
returns c = lemma.parts_are_cut
