use Rattle.bh_view.proofs.IdLemmas as lemma
use Rattle.bh_view.proofs.laws.views_are_numbered.Goals as goal

pub returns : goal.returns
returns c = lemma.views_are_numbered
