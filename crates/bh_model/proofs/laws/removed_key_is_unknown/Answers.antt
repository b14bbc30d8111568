use Rattle.bh_model.proofs.KeyLemmas as lemma
use Rattle.bh_model.proofs.laws.removed_key_is_unknown.Goals as goal

pub returns : goal.returns
returns c = lemma.removed_key_is_unknown
