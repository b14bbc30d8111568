use Rattle.std.proofs.Common.{sym, ◌∙◌}
use Rattle.std.proofs.lemmas.Bool.{leb-true}
use Rattle.bh_blocks.proofs.BodySteps.{one_piece}
use Rattle.bh_blocks.proofs.bodies.is_one_piece.Goals as goal

pub returns : goal.returns
returns c fits = one_piece c.args.size c.args.bytes.now (sym c.is_empty.ensures ∙ c.if-is_empty.false) (leb-true _ _ fits)
