use Rattle.std.proofs.Common.{◌≡◌, ◌+◌, if◌then◌else◌, sym, ◌∙◌}
use Rattle.sqlite.specs.Order.{column}
use Rattle.sqlite_typed.specs.Columns.{bytes_of}
use Rattle.bh_tables.specs.Bodies.{same_name}
use Rattle.bh_check.specs.Holds.{number_at}
use Rattle.bh_check.proofs.LostLemmas.{counted_none, counted_more}
use Rattle.bh_check.proofs.Walks.{keeps_same}
use Rattle.bh_check.proofs.lost.users_of.Goals as goal

pub loop-row-init : goal.loop-row-init
loop-row-init c of keeps = counted_none (λ r. of (bytes_of (column r c.args.text), number_at c.args.number r) ≡ 0) c.new-users.result c.new-users.ensures

pub loop-row-preserved : goal.loop-row-preserved
loop-row-preserved c of keeps =
    let amount = c.in_ok-amount.amount in
    counted_more (λ r. of (bytes_of (column r c.args.text), number_at c.args.number r) ≡ 0) c.args.rows.now c.loop-row.row-index c.row-item.result c.loop-row.users c.count.new.counts amount c.loop-row-test.true c.row-item.is (c.loop-row.invariant of keeps)
    (λ none. sym (c.in_ok-amount.ensures of keeps ∙ (λ i. of (c.bytes_in.ensures i, c.number_in.ensures i))) ∙ none)
    (λ f k. keeps_same _ _ _ (λ q. (λ i. f q + (if same_name (c.bytes_in-in-loop-row.ensures i, c.number_in-in-loop-row.ensures i) q then amount else 0))) (c.in_ok-count.ensures f k))
