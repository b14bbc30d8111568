use Rattle.bh_model.proofs.UploadLemmas as lemma
use Rattle.bh_model.proofs.upload_laws.aborted_is_gone.Goals as goal

pub returns : goal.returns
returns c = lemma.aborted_is_gone
