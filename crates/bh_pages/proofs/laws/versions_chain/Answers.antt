use Rattle.bh_pages.proofs.ChainedVersions as lemma
use Rattle.bh_pages.proofs.laws.versions_chain.Goals as goal

pub returns : goal.returns
returns c = lemma.versions_chain
