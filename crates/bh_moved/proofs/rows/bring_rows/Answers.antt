use Rattle.std.proofs.Common.{◌≡◌, sym, subst, [], ◌∷◌}
use Rattle.bh_tables.specs.Typed.{Tables}
use Rattle.bh_view.specs.Bodies.{HasBodies}
use Rattle.bh_view.specs.View.{rows_of}
use Rattle.bh_base.specs.Connections.{tables}
use Rattle.bh_tenant_rows.specs.Brought.{IsNext}
use Rattle.bh_moved.specs.Rows.{tenant_row}
use Rattle.bh_moved.proofs.Calling.{read_inside, read_tables}
use Rattle.bh_moved.proofs.Chains.{rows_chain, next_given}
use Rattle.bh_moved.proofs.rows.bring_rows.Goals as goal

pub bring_contents-requires-clause-reading : goal.bring_contents-requires-clause-reading
bring_contents-requires-clause-reading g c = read_inside c.in_ok-bring_names.ensures.reads c.requires.reading

pub returns-clause-brought : goal.returns-clause-brought
returns-clause-brought g c reading bodies absent its clean =
    let names = c.in_ok-bring_names.ensures in
    let contents = c.in_ok-bring_contents.ensures in
    let clean_n = contents.writes.within.follows.clean clean in
    let reading_n = contents.reads.within.follows.clean reading in
    let moving = c.args.moving.now in
    let t = moving.tenant.now in
    let from : Tables = tables g.S.Store g.P.Shelf c.args.from.now in
    let old : Tables = tables g.T.Store g.Q.Shelf c.args.to.now in
    let mid : Tables = tables g.T.Store g.Q.Shelf c.bring_names.new.to in
    let two : tables g.S.Store g.P.Shelf c.bring_names.new.from ≡ from = read_tables names.reads reading_n in
    let m = (names.brought reading_n absent clean_n).is in
    let next : IsNext t moving.numbers.next_entry mid = subst (IsNext t moving.numbers.next_entry) (sym m) (next_given t moving.numbers (rows_of t from) old absent) in
    let last = contents.brought reading (subst HasBodies (sym two) bodies) next clean in
    record { within = last.within; is = rows_chain t from g.D.Digester.digest_of moving.block_size (tenant_row t moving.numbers ∷ []) _ old _ _ two (sym its) m last.is }
