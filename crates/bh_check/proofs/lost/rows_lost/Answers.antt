use Rattle.std.proofs.Common.{◌≡◌, sym, ◌∙◌}
use Rattle.bh_check.specs.Holds.{first_two}
use Rattle.bh_check.proofs.LostLemmas.{listed_more, left_so}
use Rattle.bh_check.proofs.lost.rows_lost.Goals as goal

pub loop-row-preserved : goal.loop-row-preserved
loop-row-preserved c of keeps =
    listed_more (λ r. of (first_two r) ≡ 0) c.args.rows.now c.loop-row.lost.items c.add_lost.new.lost.items c.loop-row.row-index c.row-item.result c.loop-row-test.true c.row-item.is (c.loop-row.invariant of keeps)
    (left_so (λ none. sym (c.in_ok-count.ensures of keeps ∙ (λ i. of (c.bytes_in.ensures i, c.number_in.ensures i))) ∙ none) c.in_ok-add_lost.ensures)
