use Rattle.std.proofs.Common.{◌≡◌, sym, ap, ◌∙◌, subst}
use Rattle.std.proofs.lemmas.Result.{on_ok_weaker}
use Rattle.bh_base.specs.Connections.{state}
use Rattle.bh_tables.specs.Typed.{RefRow, tables_in}
use Rattle.std.specs.List.{All}
use Rattle.bh_tables.specs.Bodies.{Name, placed, ref_name}
use Rattle.bh_tables.specs.Shown.{shown_ref}
use Rattle.bh_view.specs.Bodies.{body_again, AddsBody}
use Rattle.bh_view.proofs.BodyChanges.{body_copies}
use Rattle.bh_base.specs.Layer.{Standing}
use Rattle.bh_schema.specs.Working.{tables_at}
use Rattle.bh_blocks.specs.Added.{bytes_in}
use Rattle.bh_blocks.specs.Uses.{IsSize, IsShownRight}
use Rattle.bh_blocks.proofs.Garbage.{placed_sizes}
use Rattle.bh_blocks.proofs.Loops.{all_shown}
use Rattle.bh_blocks.proofs.Keeping.{resolved_at, still_inside}
use Rattle.bh_blocks.proofs.bodies.copy_body.Goals as goal

pub refer_to_all-requires-clause-inside : goal.refer_to_all-requires-clause-inside
refer_to_all-requires-clause-inside g c = still_inside _ _ c.in_ok-rows.ensures.reads.within c.in_ok-rows.ensures.reads.same c.requires.inside

pub refer_to_all-requires-clause-sizes : goal.refer_to_all-requires-clause-sizes
refer_to_all-requires-clause-sizes g c clean =
    let a = state g.S.Store g.P.Shelf c.args.connection.now in
    let t = tables_at a in
    let measured = (c.requires.inside (c.in_ok-rows.ensures.reads.within.follows.clean clean)).host.held.measured in
    subst (λ (x : Standing). All (λ row. IsShownRight row (tables_in x.now).blocks) c.deref.result.now) (sym (c.in_ok-rows.ensures.reads.same clean.intact))
    (subst (All (λ row. IsShownRight row t.blocks)) (sym (c.deref.ensures.value ∙ c.in_ok-rows.ensures.rows clean)) (all_shown shown_ref (λ (r : RefRow). IsSize (ref_name r) r.size t.blocks) (placed t.refs (c.args.tenant.now, c.args.source)) (placed_sizes t (c.args.tenant.now, c.args.source) measured)))

pub returns-clause-copied : goal.returns-clause-copied
returns-clause-copied g c = on_ok_weaker c.refer_to_all.result (λ again clean.
    let old = tables_at (state g.S.Store g.P.Shelf c.args.connection.now) in
    let was = c.refer_to_all.ensures.within.follows.clean clean in
    let same : tables_at (state g.S.Store g.P.Shelf c.ref_rows.new.connection) ≡ old = ap (λ (x : Standing). tables_in x.now) (c.in_ok-rows.ensures.reads.same was.intact) in
    let rs = placed old.refs (c.args.tenant.now, c.args.source) in
    let it = again rs (c.deref.ensures.value ∙ c.in_ok-rows.ensures.rows was) clean in
    record { within = it.within; is = it.is ∙ ap (body_again (c.args.tenant.now, c.args.body) 0 rs) same }) c.refer_to_all.ensures.again

pub returns-clause-adds : goal.returns-clause-adds
returns-clause-adds g c digest = on_ok_weaker c.refer_to_all.result (λ again clean fresh.
    let before = state g.S.Store g.P.Shelf c.args.connection.now in
    let old = tables_at before in
    let was = c.refer_to_all.ensures.within.follows.clean clean in
    let same : tables_at (state g.S.Store g.P.Shelf c.ref_rows.new.connection) ≡ old = ap (λ (x : Standing). tables_in x.now) (c.in_ok-rows.ensures.reads.same was.intact) in
    let at : Name = (c.args.tenant.now, c.args.body) in
    let source : Name = (c.args.tenant.now, c.args.source) in
    let rs = placed old.refs source in
    let it = again rs (c.deref.ensures.value ∙ c.in_ok-rows.ensures.rows was) clean in
    subst (AddsBody digest at (bytes_in old source) old) (sym (it.is ∙ ap (body_again at 0 rs) same)) (body_copies old at (resolved_at before) fresh.stored fresh.bodies fresh.unnamed digest source)) c.refer_to_all.ensures.again
