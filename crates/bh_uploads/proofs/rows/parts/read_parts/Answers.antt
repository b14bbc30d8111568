use Rattle.std.proofs.Common.{[], ◌∷◌, ◌++◌, map, sym, ap, ap₂, ◌∙◌}
use Rattle.std.proofs.lemmas.List.{map-append}
use Rattle.bh_tables.specs.Typed.{PartRow}
use Rattle.bh_tables.specs.Shown.{shown_part}
use Rattle.bh_schema.proofs.Finds.{row_at, read_next}
use Rattle.bh_uploads.specs.Rows.{seen_row, row_seen}
use Rattle.bh_uploads.proofs.rows.parts.read_parts.Goals as goal

pub loop-row-preserved : goal.loop-row-preserved
loop-row-preserved c ps all =
    let at = row_at shown_part ps c.args.rows.now c.loop-row.row-index c.row-item.result all c.loop-row-test.true c.row-item.is in
    let was = c.loop-row.invariant ps all in (
      ap (map row_seen) c.in_ok-push.ensures.items ∙ map-append row_seen c.loop-row.found.items (c.in_ok-head.head.row ∷ [])
          ∙ ap₂ (λ l y. l ++ y ∷ []) was.0 (c.in_ok-head.ensures.row at.0 at.2) ∙ sym (read_next seen_row ps c.loop-row.row-index at.0 at.1),
      c.in_ok-push-2.ensures.items ∙ ap₂ (λ l y. l ++ y ∷ []) was.1 (c.in_ok-head.ensures.body at.0 at.2) ∙ sym (read_next (λ (p : PartRow). p.body) ps c.loop-row.row-index at.0 at.1),
    )
