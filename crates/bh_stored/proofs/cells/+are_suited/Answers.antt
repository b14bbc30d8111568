use Rattle.std.proofs.Common.{arith, ◌∙◌, ap, nat_eq}
use Rattle.bh_stored.proofs.Suited.{suited_end}
use Rattle.bh_stored.proofs.cells.+are_suited.Goals as goal

pub returns-in-empty : goal.returns-in-empty
returns-in-empty t c = let few = c.in-empty.len_below in ap (nat_eq c.args.at) c.len.ensures ∙ suited_end c.args.kinds.now c.args.row.now c.args.at (omega (arith, few)) c.requires
