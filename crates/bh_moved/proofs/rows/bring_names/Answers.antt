use Rattle.std.proofs.Common.{◌≡◌, ◌∙◌, [], ◌∷◌}
use Rattle.bh_tables.specs.Typed.{Tables}
use Rattle.bh_base.specs.Connections.{tables}
use Rattle.bh_moved.specs.Rows.{tenant_row}
use Rattle.bh_moved.proofs.Calling.{read_inside, read_tables, writes_next}
use Rattle.bh_moved.proofs.Chains.{names_chain}
use Rattle.bh_moved.proofs.rows.bring_names.Goals as goal

pub bring_table-requires-2-clause-reading : goal.bring_table-requires-2-clause-reading
bring_table-requires-2-clause-reading g c = read_inside c.in_ok-bring_table.ensures.reads c.requires.reading

pub bring_table-requires-3-clause-reading : goal.bring_table-requires-3-clause-reading
bring_table-requires-3-clause-reading g c = read_inside c.in_ok-bring_table-2.ensures.reads (read_inside c.in_ok-bring_table.ensures.reads c.requires.reading)

pub returns-clause-brought : goal.returns-clause-brought
returns-clause-brought g c reading absent clean =
    let keys = c.in_ok-bring_table.ensures in
    let buckets = c.in_ok-bring_table-2.ensures in
    let locks = c.in_ok-bring_table-3.ensures in
    let clean_b = locks.writes.within.follows.clean clean in
    let clean_k = buckets.writes.within.follows.clean clean_b in
    let clean_a = keys.writes.within.follows.clean clean_k in
    let reading_b = locks.reads.within.follows.clean reading in
    let reading_k = buckets.reads.within.follows.clean reading_b in
    let moving = c.args.moving.now in
    let t = moving.tenant.now in
    let from : Tables = tables g.S.Store g.P.Shelf c.args.from.now in
    let second : Tables = tables g.S.Store g.P.Shelf c.bring_table.new.from in
    let third : Tables = tables g.S.Store g.P.Shelf c.bring_table-2.new.from in
    let two : second ≡ from = read_tables keys.reads reading_k in
    let three : third ≡ from = read_tables buckets.reads reading_b ∙ two in
    let last = locks.brought reading tt clean in
    record {
      within = last.within;
      is = names_chain t from (tenant_row t moving.numbers ∷ []) second third (tables g.T.Store g.Q.Shelf c.args.to.now) (tables g.T.Store g.Q.Shelf c.bring_account.new.to) (tables g.T.Store g.Q.Shelf c.bring_table.new.to) (tables g.T.Store g.Q.Shelf c.bring_table-2.new.to) _ two three
          (c.in_ok-bring_account.ensures.holds absent clean_a).is (keys.brought reading_k tt clean_k).is (buckets.brought reading_b tt clean_b).is last.is;
    }

pub returns-clause-writes : goal.returns-clause-writes
returns-clause-writes g c = writes_next (writes_next (writes_next c.in_ok-bring_account.ensures.writes c.in_ok-bring_table.ensures.writes) c.in_ok-bring_table-2.ensures.writes) c.in_ok-bring_table-3.ensures.writes
