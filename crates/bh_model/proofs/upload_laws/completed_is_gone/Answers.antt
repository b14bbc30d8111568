use Rattle.bh_model.proofs.UploadLemmas as lemma
use Rattle.bh_model.proofs.upload_laws.completed_is_gone.Goals as goal

pub returns : goal.returns
returns c = lemma.completed_is_gone
