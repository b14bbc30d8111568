use Rattle.std.proofs.Common.{ap, ◌∙◌}
use Rattle.std.proofs.lemmas.Result.{on_ok_weaker, IfErr-weaker}
use Rattle.bh_base.specs.Connections.{state}
use Rattle.bh_rows.specs.Means.{is_trouble}
use Rattle.bh_schema.proofs.Finds.{handed_on}
use Rattle.bh_create.proofs.Building.{made_midst, none_weighed, weighed_none, still_empty, filled}
use Rattle.bh_create.proofs.fill.fill.Goals as goal

pub insert_garbage-requires-clause-midst : goal.insert_garbage-requires-clause-midst
insert_garbage-requires-clause-midst g c clean = made_midst (state g.S.Store g.P.Shelf c.create_tables.new.connection) (c.in_ok-create_tables.ensures.makes.made clean)

pub insert_host-requires-clause-inside : goal.insert_host-requires-clause-inside
insert_host-requires-clause-inside g c clean =
    (weighed_none (state g.S.Store g.P.Shelf c.create_tables.new.connection) (state g.S.Store g.P.Shelf c.insert_garbage.new.connection)
    (c.in_ok-create_tables.ensures.makes.made (c.in_ok-insert_garbage.ensures.writes.within.follows.clean clean)) c.in_ok-insert_garbage.ensures.rewrites clean).within

pub returns-clause-holds : goal.returns-clause-holds
returns-clause-holds g c = on_ok_weaker c.insert_host.result (λ holds clean.
    let mid = c.insert_host.ensures.writes.within.follows.clean clean in
    filled (state g.S.Store g.P.Shelf c.insert_garbage.new.connection) (state g.S.Store g.P.Shelf c.insert_host.new.connection) c.args.min_part c.args.max_body c.args.digest
    (weighed_none (state g.S.Store g.P.Shelf c.create_tables.new.connection) (state g.S.Store g.P.Shelf c.insert_garbage.new.connection)
    (c.in_ok-create_tables.ensures.makes.made (c.in_ok-insert_garbage.ensures.writes.within.follows.clean mid)) c.in_ok-insert_garbage.ensures.rewrites mid) (holds clean)) c.insert_host.ensures.holds

pub returns-clause-trouble : goal.returns-clause-trouble
returns-clause-trouble g c = IfErr-weaker c.insert_host.result _ _ (λ e trouble intact unlimited.
    trouble intact (c.in_ok-insert_garbage.ensures.writes.within.follows.limit ∙ c.in_ok-create_tables.ensures.makes.keeps.follows.limit ∙ unlimited) (λ clean.
    still_empty (state g.S.Store g.P.Shelf c.insert_garbage.new.connection) (weighed_none (state g.S.Store g.P.Shelf c.create_tables.new.connection) (state g.S.Store g.P.Shelf c.insert_garbage.new.connection)
    (c.in_ok-create_tables.ensures.makes.made (c.in_ok-insert_garbage.ensures.writes.within.follows.clean clean)) c.in_ok-insert_garbage.ensures.rewrites clean))) c.insert_host.ensures.trouble

pub returns-in_err-insert_garbage-clause-trouble : goal.returns-in_err-insert_garbage-clause-trouble
returns-in_err-insert_garbage-clause-trouble g c = handed_on _ _ _ c.from_residual-in_err-insert_garbage.ensures (λ e same intact unlimited.
    ap is_trouble same ∙ c.in_err-insert_garbage.ensures.trouble intact (c.in_ok-create_tables.ensures.makes.keeps.follows.limit ∙ unlimited)
    (λ clean. none_weighed (state g.S.Store g.P.Shelf c.create_tables.new.connection) (c.in_ok-create_tables.ensures.makes.made clean)))
