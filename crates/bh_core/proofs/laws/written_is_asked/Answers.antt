use Rattle.bh_core.proofs.Writing as lemma
use Rattle.bh_core.proofs.laws.written_is_asked.Goals as goal

pub returns : goal.returns
returns c = lemma.written_is_asked
