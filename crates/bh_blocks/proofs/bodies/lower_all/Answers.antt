use Rattle.std.proofs.Common.{arith, ◌+◌, ◌++◌, ◌∷◌, [], take, sym, ap, ◌∙◌, subst}
use Rattle.bh_base.specs.Connections.{state}
use Rattle.bh_rows.specs.Means.{is_trouble}
use Rattle.bh_tables.specs.Typed.{counted, lowered_by, tables_in}
use Rattle.bh_tables.specs.Shown.{shown_ref}
use Rattle.bh_base.specs.Layer.{standing, IsStateClean, HoldsBy}
use Rattle.bh_schema.proofs.Finds.{handed_on}
use Rattle.bh_schema.proofs.Storing.{within_then}
use Rattle.bh_blocks.proofs.Loops.{at_row, drop_end}
use Rattle.bh_blocks.proofs.Counting.{lowered_next, one_further, all_taken, used_at}
use Rattle.bh_blocks.proofs.Garbage.{frees_last}
use Rattle.bh_tables.specs.Garbage.{Frees}
use Rattle.bh_blocks.proofs.bodies.lower_all.Goals as goal

pub loop-row-preserved : goal.loop-row-preserved
loop-row-preserved g c =
    let inv = c.loop-row.invariant in
    let step = c.in_ok-more.ensures in
    let now = standing (state g.S.Store g.P.Shelf c.lower_named.new.connection) in
    record {
      within = within_then _ _ _ inv.opens inv.within step.within;
      opens = λ intact up. step.opens intact (inv.opens (step.within.follows.intact intact) up);
      midst = step.midst;
      turned = λ clean rs is sums by.
          let it = at_row shown_ref rs c.args.rows.now c.loop-row.row-index c.row-item.result c.loop-row-test.true c.row-item.is is in
          let before = inv.turned (step.within.follows.clean clean) rs is sums by in
          let after = step.rewrites it.0 it.1 clean (counted (lowered_by (take c.loop-row.row-index rs)) sums) before.within in
          subst (λ s. HoldsBy s (tables_in (standing (state g.S.Store g.P.Shelf c.args.connection.now)).now) now) (lowered_next rs c.loop-row.row-index it.0 sums it.2) (record { within = after.within; is = after.is ∙ before.is });
      frees = λ clean rs is sums by.
          let it = at_row shown_ref rs c.args.rows.now c.loop-row.row-index c.row-item.result c.loop-row-test.true c.row-item.is is in
          let before = inv.turned (step.within.follows.clean clean) rs is sums by in
          let freed = step.frees it.0 it.1 clean (counted (lowered_by (take c.loop-row.row-index rs)) sums) before.within in
          subst (λ l. Frees l sums.uses c.in_ok-sum.sum) (sym (one_further rs c.loop-row.row-index it.0 it.2))
          (subst (Frees (take c.loop-row.row-index rs ++ it.0 ∷ []) sums.uses) (sym (c.in_ok-sum.ensures.sum ∙ ap (λ n. c.loop-row.freed + n) freed.1.1))
          (frees_last (take c.loop-row.row-index rs) it.0 sums.uses c.loop-row.freed freed.0 (inv.frees (step.within.follows.clean clean) rs is sums by) freed.1.0));
    }

pub returns-clause-frees : goal.returns-clause-frees
returns-clause-frees g c rs is clean sums by =
    let inv = c.loop-row.invariant in
    subst (λ l. Frees l sums.uses c.loop-row.freed)
    (all_taken rs c.loop-row.row-index (drop_end shown_ref rs c.args.rows.now c.loop-row.row-index (λ low. let end = c.loop-row-test.false in omega (arith, low, end)) is)) (inv.frees clean rs is sums by)

pub returns-clause-rewrites : goal.returns-clause-rewrites
returns-clause-rewrites g c rs is clean sums by =
    let inv = c.loop-row.invariant in
    let now = standing (state g.S.Store g.P.Shelf c.loop-row.connection) in
    subst (λ l. HoldsBy (counted (lowered_by l) sums) (tables_in (standing (state g.S.Store g.P.Shelf c.args.connection.now)).now) now)
    (all_taken rs c.loop-row.row-index (drop_end shown_ref rs c.args.rows.now c.loop-row.row-index (λ low. let end = c.loop-row-test.false in omega (arith, low, end)) is)) (inv.turned clean rs is sums by)

pub returns-in_err-more-clause-trouble : goal.returns-in_err-more-clause-trouble
returns-in_err-more-clause-trouble g c = handed_on _ _ _ c.from_residual.ensures (λ e same rs is intact unlimited were.
    let inv = c.loop-row.invariant in
    let step = c.in_err-more.ensures in
    let before = step.within.follows.intact intact in
    let clean : IsStateClean (state g.S.Store g.P.Shelf c.loop-row.connection) = record { intact = before; is_open = inv.opens before were.0 } in
    let start = c.requires.midst (inv.within.follows.clean clean) in
    let it = at_row shown_ref rs c.args.rows.now c.loop-row.row-index c.row-item.result c.loop-row-test.true c.row-item.is is in
    ap is_trouble same ∙ step.trouble it.0 it.1 intact (inv.within.follows.limit ∙ unlimited)
    (used_at rs c.loop-row.row-index it.0 start.sums (standing (state g.S.Store g.P.Shelf c.args.connection.now)) (standing (state g.S.Store g.P.Shelf c.loop-row.connection)) it.2 were.1 start.by (inv.turned clean rs is start.sums start.by).within))
