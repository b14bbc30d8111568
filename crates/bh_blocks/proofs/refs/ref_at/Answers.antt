use Rattle.std.proofs.Common.{drop, map, ap, ◌∙◌}
use Rattle.bh_base.specs.Connections.{state}
use Rattle.bh_tables.specs.Bodies.{placed}
use Rattle.bh_tables.specs.Shown.{shown_ref}
use Rattle.bh_view.specs.Bodies.{bodies_in}
use Rattle.bh_schema.specs.Working.{tables_at}
use Rattle.bh_blocks.specs.Named.{body_at}
use Rattle.bh_blocks.proofs.PlanSteps.{at_place, first_none, first_some}
use Rattle.bh_blocks.proofs.refs.ref_at.Goals as goal

pub returns-in-None-clause-first : goal.returns-in-None-clause-first
returns-in-None-clause-first g c clean bodies =
    let old = tables_at (state g.S.Store g.P.Shelf c.args.connection.now) in
    let at = body_at c.args.at.now in
    let place = c.args.at.now.place in
    first_none (drop place (placed old.refs at)) _ (c.deref.ensures.value ∙ c.in_ok-rows.ensures.rows clean ∙ ap (λ l. map shown_ref l) (at_place (bodies_in old) old.refs old.blocks at place bodies)) c.in-None.ensures.value

pub returns-clause-first : goal.returns-clause-first
returns-clause-first g c clean bodies =
    let old = tables_at (state g.S.Store g.P.Shelf c.args.connection.now) in
    let at = body_at c.args.at.now in
    let place = c.args.at.now.place in
    let (r, more, is, row) = first_some (drop place (placed old.refs at)) _ c.in-Some.row.now (c.deref.ensures.value ∙ c.in_ok-rows.ensures.rows clean ∙ ap (λ l. map shown_ref l) (at_place (bodies_in old) old.refs old.blocks at place bodies)) c.in-Some.ensures.value in
    (r, more, is, c.in_ok-read_ref-in-Some.ensures.name r row, c.in_ok-read_ref-in-Some.ensures.size r row)
