use Rattle.std.proofs.Common.{sym, ◌∙◌}
use Rattle.bh_check.proofs.PackRows.{place_found}
use Rattle.bh_check.proofs.filled.named_at.Goals as goal

pub returns-then-is_of : goal.returns-then-is_of
returns-then-is_of c named =
    let found = c.in-Some.ensures.lookup in
    place_found c.args.places.now (c.args.digest.now, c.args.ord) c.saturating_sub.result c.in-Some.row.now found.3.0 found.1 (sym c.is_of.ensures ∙ c.if-is_of.true) named
