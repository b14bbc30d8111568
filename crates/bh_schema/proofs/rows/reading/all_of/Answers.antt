use Rattle.std.proofs.Common.{arith, ◌≡◌, [], ◌∷◌, ◌++◌, map, sym, ap, ap₂, ◌∙◌}
use Rattle.std.proofs.lemmas.Grind.{common_steps}
use Rattle.std.proofs.lemmas.List.{map-append}
use Rattle.sqlite_keyed.proofs.ListLemmas.{all-slice_get}
use Rattle.bh_rows.specs.Means.{is_trouble}
use Rattle.bh_schema.proofs.Finds.{row_at, read_next, handed_on}
use Rattle.bh_schema.proofs.rows.reading.all_of.Goals as goal

pub returns-in_err-read-clause-trouble : goal.returns-in_err-read-clause-trouble
returns-in_err-read-clause-trouble g c = handed_on _ _ _ c.from_residual.ensures (λ e same ts all readable.
    let at = row_at g.R.FromRow.reading.shown ts c.args.rows.now c.loop-row.row-index c.row-item.result all c.loop-row-test.true c.row-item.is in
    ap is_trouble same ∙ c.in_err-read.ensures.trouble at.0 at.2 (all-slice_get g.R.FromRow.reading.IsReadable ts c.loop-row.row-index at.0 at.1 readable))

pub loop-row-preserved : goal.loop-row-preserved
loop-row-preserved g c ts all =
    let at = row_at g.R.FromRow.reading.shown ts c.args.rows.now c.loop-row.row-index c.row-item.result all c.loop-row-test.true c.row-item.is in
    let pushed : c.push.new.self.items ≡ c.loop-row.values.items ++ c.in_ok-read.field-0 ∷ [] = grind (arith, common_steps) in
    ap (map g.R.FromRow.reading.meaning) pushed ∙ map-append g.R.FromRow.reading.meaning c.loop-row.values.items (c.in_ok-read.field-0 ∷ [])
    ∙ ap₂ (λ l y. l ++ y ∷ []) (c.loop-row.invariant ts all) (c.in_ok-read.ensures.read at.0 at.2) ∙ sym (read_next g.R.FromRow.reading.told ts c.loop-row.row-index at.0 at.1)
