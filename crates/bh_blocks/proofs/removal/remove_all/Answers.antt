use Rattle.std.proofs.Common.{arith, ◌≡◌, ◌+◌, drop, sym, ap, ◌∙◌, subst, true}
use Rattle.bh_base.specs.Connections.{state}
use Rattle.bh_rows.specs.Means.{is_trouble}
use Rattle.bh_tables.specs.Typed.{BlockRow, Tables}
use Rattle.bh_tables.specs.Shown.{is_unreferenced, shown_name}
use Rattle.bh_tables.proofs.ResolvedLemmas.{own_bodies}
use Rattle.bh_base.specs.Layer.{standing, IsStateClean}
use Rattle.bh_schema.specs.Working.{tables_at}
use Rattle.bh_schema.proofs.Finds.{handed_on}
use Rattle.bh_schema.proofs.Storing.{within_then}
use Rattle.bh_blocks.specs.Uses.{IsShownUnused}
use Rattle.bh_blocks.proofs.Loops.{at_row, drop_end}
use Rattle.bh_blocks.proofs.Removing.{left, left_next, left_none, all_at_drop}
use Rattle.bh_blocks.proofs.removal.remove_all.Goals as goal

pub returns-in_err-remove_named-clause-trouble : goal.returns-in_err-remove_named-clause-trouble
returns-in_err-remove_named-clause-trouble g c = handed_on _ _ _ c.from_residual.ensures (λ e same gone is intact unlimited were.
    let inv = c.loop-row.invariant in
    let step = c.in_err-remove_named.ensures in
    let before = step.within.follows.intact intact in
    let clean : IsStateClean (state g.S.Store g.P.Shelf c.loop-row.connection) = record { intact = before; is_open = inv.opens before were.0 } in
    let refs = ap (λ (t : Tables). t.refs) (inv.left clean gone is) in
    let it = at_row shown_name gone c.args.rows.now c.loop-row.row-index c.row-item.result c.loop-row-test.true c.row-item.is is in
    ap is_trouble same ∙ step.trouble it.0 it.1 intact (inv.within.follows.limit ∙ unlimited)
    (ap (λ r. is_unreferenced r it.0) refs ∙ all_at_drop (λ (b : BlockRow). is_unreferenced (tables_at (state g.S.Store g.P.Shelf c.args.connection.now)).refs b ≡ true) c.loop-row.row-index gone it.0 (drop (c.loop-row.row-index + 1) gone) were.1 it.2))

pub remove_named-requires-clause-unused : goal.remove_named-requires-clause-unused
remove_named-requires-clause-unused g c clean =
    let inv = c.loop-row.invariant in
    let unused = c.requires.unused (inv.within.follows.clean clean) c.loop-row.row-index c.row-item.result c.loop-row-test.true in
    subst (IsShownUnused c.row-item.result) (sym (inv.refs clean)) (subst (λ row. IsShownUnused row (tables_at (state g.S.Store g.P.Shelf c.args.connection.now)).refs) (sym c.row-item.is) unused)

pub loop-row-preserved : goal.loop-row-preserved
loop-row-preserved g c =
    let inv = c.loop-row.invariant in
    let step = c.in_ok-remove_named.ensures in
    let loop = tables_at (state g.S.Store g.P.Shelf c.loop-row.connection) in
    record {
      within = within_then _ _ _ inv.opens inv.within step.within;
      opens = λ intact up. step.opens intact (inv.opens (step.within.follows.intact intact) up);
      inside = step.inside;
      refs = λ clean.
          let before = step.within.follows.clean clean in
          let unused = c.requires.unused (inv.within.follows.clean before) c.loop-row.row-index c.row-item.result c.loop-row-test.true in
          let shown = subst (λ row. IsShownUnused row (tables_at (state g.S.Store g.P.Shelf c.args.connection.now)).refs) (sym c.row-item.is) unused in
          ap (λ (t : Tables). t.refs) (step.removed shown.0 shown.1.0 clean).is ∙ inv.refs before;
      left = λ clean gone is.
          let it = at_row shown_name gone c.args.rows.now c.loop-row.row-index c.row-item.result c.loop-row-test.true c.row-item.is is in
          left_next it.0 (drop (c.loop-row.row-index + 1) gone) loop (tables_at (state g.S.Store g.P.Shelf c.remove_named.new.connection)) (step.removed it.0 it.1 clean).is
          ∙ ap (λ l. left l loop) (sym it.2) ∙ inv.left (step.within.follows.clean clean) gone is;
      kept = λ gone is clean agrees.
          let it = at_row shown_name gone c.args.rows.now c.loop-row.row-index c.row-item.result c.loop-row-test.true c.row-item.is is in
          step.kept it.0 it.1 clean (inv.kept gone is (step.within.follows.clean clean) agrees);
    }

pub returns-clause-removed : goal.returns-clause-removed
returns-clause-removed g c gone is clean =
    let inv = c.loop-row.invariant in
    let loop = tables_at (state g.S.Store g.P.Shelf c.loop-row.connection) in
    record {
      within = inv.inside clean;
      is = sym (left_none loop (own_bodies (standing (state g.S.Store g.P.Shelf c.loop-row.connection)).now)) ∙ ap (λ l. left l loop) (sym (drop_end shown_name gone c.args.rows.now c.loop-row.row-index (λ low. let end = c.loop-row-test.false in omega (arith, low, end)) is)) ∙ inv.left clean gone is;
    }
