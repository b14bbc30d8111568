use Rattle.std.proofs.Common.{◌≡◌, ap, sym, subst, ◌∙◌}
use Rattle.bh_tables.specs.Typed.{Tables}
use Rattle.bh_view.specs.Bodies.{HasBodies}
use Rattle.bh_view.specs.View.{rows_of}
use Rattle.bh_base.specs.Connections.{tables}
use Rattle.bh_moved.specs.Owned.{rows_in, row_added}
use Rattle.bh_moved.specs.Rows.{all_added}
use Rattle.bh_moved.proofs.Calling.{read_inside, read_tables}
use Rattle.bh_moved.proofs.Owned.{if_bodied, shown_rows}
use Rattle.bh_moved.proofs.tables.bring_table.Goals as goal

pub bring_each-requires-clause-reading : goal.bring_each-requires-clause-reading
bring_each-requires-clause-reading g c = read_inside c.in_ok-rows.ensures.reads c.requires.reading

pub returns-clause-brought : goal.returns-clause-brought
returns-clause-brought g c reading needs clean =
    let rows = c.in_ok-rows.ensures in
    let each = c.in_ok-bring_each.ensures in
    let before = each.reads.within.follows.clean reading in
    let moving = c.args.moving.now in
    let t = moving.tenant.now in
    let table = c.args.table in
    let from : Tables = tables g.S.Store g.P.Shelf c.args.from.now in
    let same : tables g.S.Store g.P.Shelf c.owned_rows.new.connection ≡ from = read_tables rows.reads before in
    let own = rows_in table (rows_of t from) in
    let it = each.added own (c.deref.ensures.value ∙ rows.rows before ∙ shown_rows table (rows_of t from)) reading (if_bodied table (λ both. (subst HasBodies (sym same) both.0, both.1)) needs) clean in
    record {
      within = it.within;
      is = it.is ∙ ap (λ (x : Tables). all_added (row_added g.D.Digester.digest_of moving.block_size t x table) own (tables g.T.Store g.Q.Shelf c.args.to.now)) same;
    }
