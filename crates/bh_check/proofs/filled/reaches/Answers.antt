use Rattle.std.proofs.Common.{nat_le, sym, ap, ◌∙◌}
use Rattle.bh_check.proofs.PackRows.{reached}
use Rattle.bh_check.proofs.filled.reaches.Goals as goal

pub returns-then-number_in-pack : goal.returns-then-number_in-pack
returns-then-number_in-pack c long =
    let found = c.in-Some.ensures.lookup in
    reached c.args.packs.now c.saturating_sub.result c.in-Some.row.now c.args.pack c.args.end found.3.0 found.1 (sym c.number_in.ensures ∙ c.if-number_in-pack.true) (ap (nat_le c.args.end) (sym c.number_in-then-number_in-pack.ensures) ∙ long)
