use Rattle.std.proofs.Common.{[], ◌∷◌, ◌++◌, map, sym, ap, ap₂, ◌∙◌}
use Rattle.std.proofs.lemmas.List.{map-append}
use Rattle.bh_schema.proofs.Finds.{row_at, read_next}
use Rattle.bh_listing.proofs.from_row.read_rows.Goals as goal

pub loop-row-preserved : goal.loop-row-preserved
loop-row-preserved g c rs all =
    let at = row_at g.L.FromRow.columns.shown rs c.args.rows.now c.loop-row.row-index c.row-item.result all c.loop-row-test.true c.row-item.is in
    ap (map g.L.FromRow.columns.see) c.in_ok-push.ensures.items ∙ map-append g.L.FromRow.columns.see c.loop-row.lines.items (c.in_ok-line.line ∷ [])
    ∙ ap₂ (λ l y. l ++ y ∷ []) (c.loop-row.invariant rs all) (c.in_ok-line.ensures at.0 at.2) ∙ sym (read_next g.L.FromRow.columns.told rs c.loop-row.row-index at.0 at.1)
