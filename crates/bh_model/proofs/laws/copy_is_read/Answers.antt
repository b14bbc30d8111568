use Rattle.bh_model.proofs.ObjectLemmas as lemma
use Rattle.bh_model.proofs.laws.copy_is_read.Goals as goal

pub returns : goal.returns
returns c = lemma.copy_is_read
