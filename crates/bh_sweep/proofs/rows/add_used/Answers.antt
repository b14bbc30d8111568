use Rattle.std.proofs.Common.{arith, ◌+◌, ◌≤◌, length, sum_by, sym, ap, ap₂, ◌∙◌}
use Rattle.std.proofs.lemmas.Grind.{common_steps}
use Rattle.std.proofs.lemmas.List.{length-map, take_all}
use Rattle.bh_rows.specs.Means.{is_trouble}
use Rattle.bh_tables.specs.Shown.{shown_used}
use Rattle.bh_tables.specs.Typed.{totals_of}
use Rattle.bh_schema.proofs.Finds.{row_at, handed_on}
use Rattle.bh_sweep.specs.Counted.{used_by}
use Rattle.bh_sweep.proofs.Summing.{summed_next}
use Rattle.bh_sweep.proofs.rows.add_used.Goals as goal

pub returns-in_err-read_used-clause-trouble : goal.returns-in_err-read_used-clause-trouble
returns-in_err-read_used-clause-trouble c = handed_on _ _ _ c.from_residual.ensures (λ e same tables ts all.
    let at = row_at (shown_used (totals_of tables)) ts c.args.rows.now c.loop-row.row-index c.row-item.result all c.loop-row-test.true c.row-item.is in
    ap is_trouble same ∙ c.in_err-read_used.ensures.trouble tables at.0 at.2)

pub loop-row-preserved : goal.loop-row-preserved
loop-row-preserved c = record {
  bound = grind (arith, common_steps);
  sum = λ tables ts all.
      let at = row_at (shown_used (totals_of tables)) ts c.args.rows.now c.loop-row.row-index c.row-item.result all c.loop-row-test.true c.row-item.is in
      ap₂ ◌+◌ (c.loop-row.invariant.sum tables ts all) (c.from.ensures ∙ c.in_ok-read_used.ensures.read tables at.0 at.2) ∙ sym (summed_next (used_by tables) ts c.loop-row.row-index at.0 at.1);
}

pub returns-clause-read : goal.returns-clause-read
returns-clause-read c tables ts all =
    let long = ap length all ∙ length-map ts (shown_used (totals_of tables)) in
    let end = c.loop-row-test.false in
    let high : length ts ≤ c.loop-row.row-index = omega (arith, long, end) in
    c.loop-row.invariant.sum tables ts all ∙ ap (sum_by (used_by tables)) (take_all c.loop-row.row-index ts high)
