use Rattle.bh_model.proofs.UploadLemmas as lemma
use Rattle.bh_model.proofs.upload_laws.part_is_read.Goals as goal

pub returns : goal.returns
returns c = lemma.part_is_read
