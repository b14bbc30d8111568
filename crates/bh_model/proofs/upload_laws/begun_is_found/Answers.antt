use Rattle.bh_model.proofs.UploadLemmas as lemma
use Rattle.bh_model.proofs.upload_laws.begun_is_found.Goals as goal

pub returns : goal.returns
returns c = lemma.begun_is_found
