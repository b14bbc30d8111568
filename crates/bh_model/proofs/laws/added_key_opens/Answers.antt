use Rattle.bh_model.proofs.KeyLemmas as lemma
use Rattle.bh_model.proofs.laws.added_key_opens.Goals as goal

pub returns : goal.returns
returns c = lemma.added_key_opens
