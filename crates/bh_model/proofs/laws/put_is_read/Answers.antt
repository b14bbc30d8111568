use Rattle.bh_model.proofs.ObjectLemmas as lemma
use Rattle.bh_model.proofs.laws.put_is_read.Goals as goal

pub returns : goal.returns
returns c = lemma.put_is_read
