use Rattle.bh_view.proofs.PieceLemmas.{each_once}
use Rattle.bh_view.proofs.laws.each_piece_is_once.Goals as goal

pub returns : goal.returns
returns c = each_once
