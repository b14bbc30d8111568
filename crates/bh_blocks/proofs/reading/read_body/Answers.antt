use Rattle.std.proofs.Common.{◌≡◌, ◌++◌, sym, ap, ◌∙◌, subst}
use Rattle.bh_base.specs.Connections.{state}
use Rattle.bh_tables.specs.Typed.{tables_in}
use Rattle.bh_tables.specs.Bodies.{Name, placed}
use Rattle.bh_view.specs.Bodies.{HasBodies, bodies_in}
use Rattle.bh_view.proofs.BodyLemmas.{placed_measured}
use Rattle.bh_cache.specs.Kept.{Agrees}
use Rattle.bh_base.specs.Layer.{Standing}
use Rattle.bh_schema.specs.Working.{tables_at}
use Rattle.bh_base.proofs.Calls.{reads_inside}
use Rattle.bh_blocks.specs.Plans.{coming}
use Rattle.bh_blocks.proofs.WindowSteps.{long_whole}
use Rattle.bh_blocks.proofs.Cached.{still_kept}
use Rattle.bh_blocks.proofs.Keeping.{still_inside}
use Rattle.bh_blocks.proofs.reading.read_body.Goals as goal

pub append_planned-requires-clause-reads : goal.append_planned-requires-clause-reads
append_planned-requires-clause-reads g c clean = reads_inside _ (still_inside _ _ c.in_ok-rows.ensures.reads.within c.in_ok-rows.ensures.reads.same c.requires.inside clean)

pub append_planned-requires-clause-agrees : goal.append_planned-requires-clause-agrees
append_planned-requires-clause-agrees g c = still_kept (Agrees c.args.cache.now) (state g.S.Store g.P.Shelf c.args.connection.now) (state g.S.Store g.P.Shelf c.ref_rows.new.connection) c.in_ok-rows.ensures.reads.within c.in_ok-rows.ensures.reads.same c.requires.kept

pub returns-clause-read : goal.returns-clause-read
returns-clause-read g c clean bodies =
    let old = tables_at (state g.S.Store g.P.Shelf c.args.connection.now) in
    let step = c.in_ok-append_planned.ensures in
    let was = step.within.follows.clean clean in
    let same : tables_at (state g.S.Store g.P.Shelf c.ref_rows.new.connection) ≡ old = ap (λ (x : Standing). tables_in x.now) (c.in_ok-rows.ensures.reads.same was.intact) in
    let at : Name = (c.args.tenant.now, c.args.body) in
    let sizes = placed_measured (bodies_in old) old.refs old.blocks at bodies in
    let read = step.bytes clean (subst HasBodies (sym same) bodies) in
    let total = c.in_ok-total_size.ensures (placed old.refs at) (c.deref.ensures.value ∙ c.in_ok-rows.ensures.rows was) in
    read
    ∙ ap (λ l. l ++ coming c.plan_body-planned.result (tables_at (state g.S.Store g.P.Shelf c.ref_rows.new.connection))) c.in_ok-bytes.ensures.items
    ∙ ap (coming c.plan_body-planned.result) same
    ∙ c.plan_body-planned.ensures.coming old (long_whole old.refs old.blocks at sizes ∙ sym total)
