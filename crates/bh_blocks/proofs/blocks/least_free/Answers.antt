use Rattle.std.proofs.Common.{sym, ap, ◌∙◌}
use Rattle.bh_rows.specs.Means.{is_trouble}
use Rattle.bh_tables.specs.Shown.{shown_ord}
use Rattle.bh_schema.proofs.Finds.{handed_on}
use Rattle.bh_blocks.proofs.Loops.{at_row, least_stops, least_goes}
use Rattle.bh_blocks.proofs.blocks.least_free.Goals as goal

pub returns-in_err-read_ord-clause-trouble : goal.returns-in_err-read_ord-clause-trouble
returns-in_err-read_ord-clause-trouble c = handed_on _ _ _ c.from_residual.ensures (λ e same bs is. ap is_trouble same ∙ c.in_err-read_ord.ensures.trouble)

pub returns-then-branch-free-clause-least : goal.returns-then-branch-free-clause-least
returns-then-branch-free-clause-least c bs is =
    let it = at_row shown_ord bs c.args.rows.now c.loop-row.row-index c.row-item.result c.loop-row-test.true c.row-item.is is in
    sym (c.loop-row.invariant bs is ∙ least_stops c.loop-row.free c.loop-row.row-index bs it.0 it.2 (λ e. c.if-branch-free.true (c.in_ok-read_ord.ensures.read it.0 it.1 ∙ e)))

pub loop-row-preserved : goal.loop-row-preserved
loop-row-preserved c bs is =
    let it = at_row shown_ord bs c.args.rows.now c.loop-row.row-index c.row-item.result c.loop-row-test.true c.row-item.is is in
    c.loop-row.invariant bs is ∙ least_goes c.loop-row.free c.loop-row.row-index bs it.0 it.2 c.in-Some.next (sym (c.in_ok-read_ord.ensures.read it.0 it.1) ∙ c.if-branch-free.false) c.in-Some.ensures.1
