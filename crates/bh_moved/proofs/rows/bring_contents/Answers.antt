use Rattle.std.proofs.Common.{◌≡◌, sym, ◌∙◌, subst}
use Rattle.bh_base.specs.Connections.{state}
use Rattle.bh_tables.specs.Typed.{Tables}
use Rattle.bh_view.specs.Bodies.{HasBodies}
use Rattle.bh_base.specs.Connections.{tables}
use Rattle.bh_blocks.proofs.Keeping.{resolved_at}
use Rattle.bh_moved.proofs.Calling.{read_inside, read_tables, writes_next}
use Rattle.bh_moved.proofs.Chains.{contents_chain, tenants_kept}
use Rattle.bh_moved.proofs.Steps.{next_same}
use Rattle.bh_moved.proofs.rows.bring_contents.Goals as goal

pub bring_table-requires-2-clause-reading : goal.bring_table-requires-2-clause-reading
bring_table-requires-2-clause-reading g c = read_inside c.in_ok-bring_table.ensures.reads c.requires.reading

pub bring_table-requires-3-clause-reading : goal.bring_table-requires-3-clause-reading
bring_table-requires-3-clause-reading g c = read_inside c.in_ok-bring_table-2.ensures.reads (read_inside c.in_ok-bring_table.ensures.reads c.requires.reading)

pub bring_table-requires-4-clause-reading : goal.bring_table-requires-4-clause-reading
bring_table-requires-4-clause-reading g c = read_inside c.in_ok-bring_table-3.ensures.reads (read_inside c.in_ok-bring_table-2.ensures.reads (read_inside c.in_ok-bring_table.ensures.reads c.requires.reading))

pub returns-clause-brought : goal.returns-clause-brought
returns-clause-brought g c reading bodies next clean =
    let versions = c.in_ok-bring_table.ensures in
    let uploads = c.in_ok-bring_table-2.ensures in
    let parts = c.in_ok-bring_table-3.ensures in
    let retains = c.in_ok-bring_table-4.ensures in
    let clean_p = retains.writes.within.follows.clean clean in
    let clean_u = parts.writes.within.follows.clean clean_p in
    let clean_v = uploads.writes.within.follows.clean clean_u in
    let reading_p = retains.reads.within.follows.clean reading in
    let reading_u = parts.reads.within.follows.clean reading_p in
    let reading_v = uploads.reads.within.follows.clean reading_u in
    let moving = c.args.moving.now in
    let t = moving.tenant.now in
    let digest = g.D.Digester.digest_of in
    let from : Tables = tables g.S.Store g.P.Shelf c.args.from.now in
    let second : Tables = tables g.S.Store g.P.Shelf c.bring_table.new.from in
    let third : Tables = tables g.S.Store g.P.Shelf c.bring_table-2.new.from in
    let fourth : Tables = tables g.S.Store g.P.Shelf c.bring_table-3.new.from in
    let old : Tables = tables g.T.Store g.Q.Shelf c.args.to.now in
    let v : Tables = tables g.T.Store g.Q.Shelf c.bring_table.new.to in
    let u : Tables = tables g.T.Store g.Q.Shelf c.bring_table-2.new.to in
    let p : Tables = tables g.T.Store g.Q.Shelf c.bring_table-3.new.to in
    let two : second ≡ from = read_tables versions.reads reading_v in
    let three : third ≡ from = read_tables uploads.reads reading_u ∙ two in
    let four : fourth ≡ from = read_tables parts.reads reading_p ∙ three in
    let resolved = resolved_at (state g.S.Store g.P.Shelf c.args.from.now) in
    let versions_is = (versions.brought reading_v (bodies, next) clean_v).is in
    let uploads_is = (uploads.brought reading_u tt clean_u).is in
    let kept : old.tenants ≡ u.tenants = tenants_kept t from digest moving.block_size second old v u resolved versions_is uploads_is in
    let parts_is = (parts.brought reading_p (subst HasBodies (sym three) bodies, next_same t moving.numbers.next_entry old u kept next) clean_p).is in
    let last = retains.brought reading tt clean in
    record {
      within = last.within;
      is = contents_chain t from digest moving.block_size second old v u resolved versions_is uploads_is third fourth p _ (resolved_at (state g.S.Store g.P.Shelf c.bring_table-2.new.from)) two three four parts_is last.is;
    }

pub returns-clause-writes : goal.returns-clause-writes
returns-clause-writes g c = writes_next (writes_next (writes_next c.in_ok-bring_table.ensures.writes c.in_ok-bring_table-2.ensures.writes) c.in_ok-bring_table-3.ensures.writes) c.in_ok-bring_table-4.ensures.writes
