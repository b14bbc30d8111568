use Rattle.bh_model.proofs.RemovalLemmas as lemma
use Rattle.bh_model.proofs.retention_laws.dated_tenant_stays.Goals as goal

pub returns : goal.returns
returns c = lemma.dated_tenant_stays
