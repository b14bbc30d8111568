use Rattle.bh_pages.proofs.ChainedParts as lemma
use Rattle.bh_pages.proofs.laws.parts_chain.Goals as goal

pub returns : goal.returns
returns c = lemma.parts_chain
