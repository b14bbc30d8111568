use Rattle.std.proofs.Common.{[], ◌∷◌, ◌++◌, sym, ap, ap₂, ◌∙◌}
use Rattle.bh_rows.specs.Means.{is_trouble}
use Rattle.bh_schema.proofs.Finds.{row_at, read_next, handed_on}
use Rattle.bh_migration.specs.Listing.{shown_listed, listed_by}
use Rattle.bh_migration.proofs.listing.read_all.Goals as goal

pub returns-in_err-listed-clause-trouble : goal.returns-in_err-listed-clause-trouble
returns-in_err-listed-clause-trouble c = handed_on _ _ _ c.from_residual.ensures (λ e same packs all.
    let at = row_at shown_listed packs c.args.rows.now c.loop-row.row-index c.row-item.result all c.loop-row-test.true c.row-item.is in
    ap is_trouble same ∙ c.in_err-listed.ensures.trouble at.0 at.2)

pub loop-row-preserved : goal.loop-row-preserved
loop-row-preserved c packs all =
    let at = row_at shown_listed packs c.args.rows.now c.loop-row.row-index c.row-item.result all c.loop-row-test.true c.row-item.is in
    c.in_ok-push.ensures.items ∙ ap₂ (λ l y. l ++ y ∷ []) (c.loop-row.invariant packs all) (c.in_ok-listed.ensures.read at.0 at.2) ∙ sym (read_next listed_by packs c.loop-row.row-index at.0 at.1)
