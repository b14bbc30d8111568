use Rattle.std.proofs.Common.{arith, ◌+◌, drop, sym, ap, ◌∙◌, subst}
use Rattle.bh_base.specs.Connections.{state}
use Rattle.bh_tables.specs.Shown.{shown_ref}
use Rattle.bh_tables.specs.Bodies.{Name}
use Rattle.bh_tables.specs.Typed.{Tables}
use Rattle.bh_blocks.specs.Uses.{IsShownRight}
use Rattle.bh_view.specs.Bodies.{body_again}
use Rattle.bh_schema.specs.Working.{tables_at}
use Rattle.bh_schema.proofs.Storing.{within_then}
use Rattle.bh_blocks.proofs.Loops.{at_row, drop_end}
use Rattle.bh_blocks.proofs.BodySteps.{again_next}
use Rattle.bh_blocks.proofs.Keeping.{own_at}
use Rattle.bh_blocks.proofs.bodies.refer_to_all.Goals as goal

pub refer_again-requires-clause-size : goal.refer_again-requires-clause-size
refer_again-requires-clause-size g c clean =
    let inv = c.loop-row.invariant in
    let sized = c.requires.sizes (inv.within.follows.clean clean) c.loop-row.row-index c.row-item.result c.loop-row-test.true in
    subst (λ bs. IsShownRight c.row-item.result bs) (sym (inv.blocks clean)) (subst (λ row. IsShownRight row (tables_at (state g.S.Store g.P.Shelf c.args.connection.now)).blocks) (sym c.row-item.is) sized)

pub loop-row-preserved : goal.loop-row-preserved
loop-row-preserved g c =
    let inv = c.loop-row.invariant in
    let step = c.in_ok-refer_again.ensures in
    let at : Name = (c.args.tenant.now, c.args.body) in
    let loop = tables_at (state g.S.Store g.P.Shelf c.loop-row.connection) in
    record {
      within = within_then _ _ _ inv.opens inv.within step.within;
      opens = λ intact up. step.opens intact (inv.opens (step.within.follows.intact intact) up);
      inside = step.inside;
      place = ap (λ n. n + 1) inv.place;
      blocks = λ clean.
          let before = step.within.follows.clean clean in
          let sized = c.requires.sizes (inv.within.follows.clean before) c.loop-row.row-index c.row-item.result c.loop-row-test.true in
          let shown = subst (λ row. IsShownRight row (tables_at (state g.S.Store g.P.Shelf c.args.connection.now)).blocks) (sym c.row-item.is) sized in
          ap (λ (t : Tables). t.blocks) (step.again shown.0 shown.1.0 clean).is ∙ inv.blocks before;
      again = λ clean rs is.
          let it = at_row shown_ref rs c.args.rows.now c.loop-row.row-index c.row-item.result c.loop-row-test.true c.row-item.is is in
          again_next at c.loop-row.place it.0 (drop (c.loop-row.row-index + 1) rs) loop (tables_at (state g.S.Store g.P.Shelf c.refer_again.new.connection)) (step.again it.0 it.1 clean).is
          ∙ ap (λ l. body_again at c.loop-row.place l loop) (sym it.2) ∙ inv.again (step.within.follows.clean clean) rs is;
    }

pub returns-clause-again : goal.returns-clause-again
returns-clause-again g c rs is clean =
    let inv = c.loop-row.invariant in
    let s = state g.S.Store g.P.Shelf c.loop-row.connection in
    record {
      within = inv.inside clean;
      is = sym (own_at s) ∙ ap (λ l. body_again (c.args.tenant.now, c.args.body) c.loop-row.place l (tables_at s)) (sym (drop_end shown_ref rs c.args.rows.now c.loop-row.row-index (λ low. let end = c.loop-row-test.false in omega (arith, low, end)) is)) ∙ inv.again clean rs is;
    }
