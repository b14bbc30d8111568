use Rattle.std.proofs.Common.{arith, ◌≡◌, ◌+◌, drop, sym, ap, ◌∙◌, subst}
use Rattle.bh_tables.specs.Typed.{Tables, tables_in}
use Rattle.bh_view.specs.Bodies.{HasBodies}
use Rattle.bh_base.specs.Layer.{Standing, IsInside}
use Rattle.bh_base.specs.Connections.{tables}
use Rattle.bh_schema.proofs.Storing.{within_then}
use Rattle.bh_blocks.proofs.Loops.{at_row, drop_end}
use Rattle.bh_moved.specs.Owned.{shown_row, row_added}
use Rattle.bh_moved.specs.Rows.{all_added}
use Rattle.bh_moved.proofs.Owned.{if_bodied, tenants_stay}
use Rattle.bh_moved.proofs.Steps.{next_same}
use Rattle.bh_moved.proofs.tables.bring_each.Goals as goal

pub bring_row-requires-clause-reading : goal.bring_row-requires-clause-reading
bring_row-requires-clause-reading g c clean = subst IsInside (sym (c.loop-row.invariant.same clean.intact)) (c.requires.reading (c.loop-row.invariant.reads.follows.clean clean))

pub loop-row-preserved : goal.loop-row-preserved
loop-row-preserved g c =
    let inv = c.loop-row.invariant in
    let step = c.in_ok-bring_row.ensures in
    let moving = c.args.moving.now in
    let t = moving.tenant.now in
    let first : Tables = tables g.S.Store g.P.Shelf c.args.from.now in
    let seen : Tables = tables g.S.Store g.P.Shelf c.loop-row.from in
    let start : Tables = tables g.T.Store g.Q.Shelf c.args.to.now in
    let was : Tables = tables g.T.Store g.Q.Shelf c.loop-row.to in
    let now : Tables = tables g.T.Store g.Q.Shelf c.bring_row.new.to in
    let add = λ (x : Tables). row_added g.D.Digester.digest_of moving.block_size t x c.args.table in
    record {
      reads = within_then _ _ _ inv.read inv.reads step.reads.within;
      read = λ intact up. step.reads.opens intact (inv.read (step.reads.within.follows.intact intact) up);
      same = λ intact. step.reads.same intact ∙ inv.same (step.reads.within.follows.intact intact);
      within = within_then _ _ _ inv.opens inv.within step.writes.within;
      opens = λ intact up. step.writes.opens intact (inv.opens (step.writes.within.follows.intact intact) up);
      inside = step.writes.inside;
      added = λ reading clean rs is bodied.
          let before = step.reads.within.follows.clean reading in
          let so_far = inv.added before (step.writes.within.follows.clean clean) rs is bodied in
          let it = at_row (shown_row c.args.table) rs c.args.rows.now c.loop-row.row-index c.row-item.result c.loop-row-test.true c.row-item.is is in
          let same : seen ≡ first = ap (λ (x : Standing). tables_in x.now) (inv.same before.intact) in
          let after : now ≡ add seen it.0 was = (step.added it.0 it.1 reading (if_bodied c.args.table (λ needs. (subst HasBodies (sym same) needs.0, next_same t moving.numbers.next_entry start was (sym so_far.0) needs.1)) bodied) clean).is in (
            ap (λ (x : Tables). x.tenants) after ∙ tenants_stay g.D.Digester.digest_of moving.block_size t seen c.args.table it.0 was ∙ so_far.0,
            ap (all_added (add first) (drop (c.loop-row.row-index + 1) rs)) (after ∙ ap (λ (x : Tables). add x it.0 was) same)
                ∙ ap (λ l. all_added (add first) l was) (sym it.2) ∙ so_far.1,
          );
    }

pub returns-clause-added : goal.returns-clause-added
returns-clause-added g c rs is reading bodied clean =
    let inv = c.loop-row.invariant in
    let moving = c.args.moving.now in
    let add = row_added g.D.Digester.digest_of moving.block_size moving.tenant.now (tables g.S.Store g.P.Shelf c.args.from.now) c.args.table in
    record {
      within = inv.inside clean;
      is = ap (λ l. all_added add l (tables g.T.Store g.Q.Shelf c.loop-row.to)) (sym (drop_end (shown_row c.args.table) rs c.args.rows.now c.loop-row.row-index (λ low. let end = c.loop-row-test.false in omega (arith, low, end)) is)) ∙ (inv.added reading clean rs is bodied).1;
    }
