use Rattle.bh_view.proofs.ViewLemmas.{same_view}
use Rattle.bh_view.proofs.laws.views_stand_alone.Goals as goal

pub returns : goal.returns
returns c = same_view
