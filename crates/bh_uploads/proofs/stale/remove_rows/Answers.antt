use Rattle.std.proofs.Common.{arith, ◌+◌, drop, sym, ap, ◌∙◌}
use Rattle.bh_base.specs.Connections.{state}
use Rattle.bh_tables.specs.Due.{shown_owner}
use Rattle.bh_schema.specs.Working.{tables_at}
use Rattle.bh_schema.proofs.Storing.{within_then}
use Rattle.bh_view.specs.Sweep.{without_each}
use Rattle.bh_blocks.proofs.Loops.{at_row, drop_end}
use Rattle.bh_objects.proofs.Working.{works_on, works_then}
use Rattle.bh_uploads.proofs.stale.remove_rows.Goals as goal

pub remove_row-requires : goal.remove_row-requires
remove_row-requires g c clean = works_on (state g.S.Store g.P.Shelf c.args.connection.now) (state g.S.Store g.P.Shelf c.loop-row.connection) (c.loop-row.invariant.working clean)

pub loop-row-preserved : goal.loop-row-preserved
loop-row-preserved g c =
    let inv = c.loop-row.invariant in
    let step = c.in_ok-remove_row.ensures in
    let loop = tables_at (state g.S.Store g.P.Shelf c.loop-row.connection) in
    record {
      within = within_then _ _ _ inv.opens inv.within step.works.within;
      opens = λ intact up. step.works.opens intact (inv.opens (step.works.within.follows.intact intact) up);
      working = λ clean. works_then (state g.S.Store g.P.Shelf c.args.connection.now) (state g.S.Store g.P.Shelf c.loop-row.connection) (state g.S.Store g.P.Shelf c.remove_row.new.connection) (inv.working (step.works.within.follows.clean clean)) (step.works.working clean);
      left = λ clean us is.
          let it = at_row shown_owner us c.args.rows.now c.loop-row.row-index c.row-item.result c.loop-row-test.true c.row-item.is is in
          ap (without_each (drop (c.loop-row.row-index + 1) us)) (step.removed it.0 it.1 clean)
          ∙ ap (λ l. without_each l loop) (sym it.2)
          ∙ inv.left (step.works.within.follows.clean clean) us is;
    }

pub returns-clause-removed : goal.returns-clause-removed
returns-clause-removed g c us is clean =
    let now = tables_at (state g.S.Store g.P.Shelf c.loop-row.connection) in
    ap (λ l. without_each l now) (sym (drop_end shown_owner us c.args.rows.now c.loop-row.row-index (λ low. let end = c.loop-row-test.false in omega (arith, low, end)) is))
    ∙ c.loop-row.invariant.left clean us is
