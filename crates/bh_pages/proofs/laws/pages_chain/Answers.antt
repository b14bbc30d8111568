use Rattle.bh_pages.proofs.Chained as lemma
use Rattle.bh_pages.proofs.laws.pages_chain.Goals as goal

pub returns : goal.returns
returns c = lemma.pages_chain
