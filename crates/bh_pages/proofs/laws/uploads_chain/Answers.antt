use Rattle.bh_pages.proofs.ChainedUploads as lemma
use Rattle.bh_pages.proofs.laws.uploads_chain.Goals as goal

pub returns : goal.returns
returns c = lemma.uploads_chain
