use Rattle.bh_model.proofs.RemovalLemmas as lemma
use Rattle.bh_model.proofs.laws.removed_tenant_is_unknown.Goals as goal

pub returns : goal.returns
returns c = lemma.removed_tenant_is_unknown
