use Rattle.bh_model.proofs.DateLemmas as lemma
use Rattle.bh_model.proofs.retention_laws.put_date_is_told.Goals as goal

pub returns : goal.returns
returns c = lemma.put_date_is_told
