use Rattle.std.proofs.Common.{arith, ℕ, ◌+◌, if◌then◌else◌, take, ap, ◌∙◌}
use Rattle.bh_tables.specs.Bodies.{Name, same_name}
use Rattle.bh_check.specs.Sums.{total, name_in, amount_in}
use Rattle.bh_check.proofs.Walks.{total_more, total_at_end, keeps_same}
use Rattle.bh_check.proofs.sums.Sums.add_rows.Goals as goal

pub loop-row-init : goal.loop-row-init
loop-row-init c of keeps = keeps_same of _ _ (λ q. omega arith) keeps

pub loop-row-preserved : goal.loop-row-preserved
loop-row-preserved c of keeps =
    let by = c.args.by in
    let total_of = total (name_in by) (amount_in by) in
    let rows = c.args.rows.now in
    let at = c.loop-row.row-index in
    let so_far : Name → ℕ = λ q. of q + total_of (take at rows) q in
    keeps_same _ _ _
    (λ q. (λ i. so_far q + (if same_name (c.bytes_in-text.ensures i, c.number_of.ensures i) q then c.amount_of.ensures i else 0))
    ∙ (let more = total_more (name_in by) (amount_in by) rows at c.row-item.result c.loop-row-test.true c.row-item.is q in omega (arith, more)))
    (c.in_ok-add.ensures c.if-not-branch.false so_far (c.loop-row.invariant of keeps))

pub returns : goal.returns
returns c of keeps =
    let end = c.loop-row-test.false in
    keeps_same _ _ _ (λ q. ap (λ n. of q + n) (total_at_end (name_in c.args.by) (amount_in c.args.by) c.args.rows.now c.loop-row.row-index (λ low. omega (arith, low, end)) q)) (c.loop-row.invariant of keeps)
