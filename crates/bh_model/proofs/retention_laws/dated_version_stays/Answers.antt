use Rattle.bh_model.proofs.DateLemmas as lemma
use Rattle.bh_model.proofs.retention_laws.dated_version_stays.Goals as goal

pub returns : goal.returns
returns c = lemma.dated_version_stays
