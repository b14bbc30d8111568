use Rattle.std.proofs.Common.{◌≡◌, ℕ, sym, ap, ◌∙◌, subst, map, flat_map}
use Rattle.std.proofs.lemmas.Result.{on_ok_weaker}
use Rattle.bh_base.specs.Connections.{state}
use Rattle.bh_tables.specs.Typed.{RefRow, tables_in}
use Rattle.std.specs.List.{All}
use Rattle.bh_tables.specs.Bodies.{Name, placed, ref_name}
use Rattle.bh_tables.specs.Shown.{shown_ref}
use Rattle.bh_view.specs.Bodies.{body_again, AddsBody}
use Rattle.bh_view.proofs.BodyChanges.{bodies_join}
use Rattle.bh_base.specs.Layer.{Standing}
use Rattle.bh_schema.specs.Working.{tables_at}
use Rattle.bh_blocks.specs.Added.{bytes_in}
use Rattle.bh_blocks.proofs.BodySteps.{flat_named}
use Rattle.bh_blocks.specs.Uses.{IsSize, IsShownRight}
use Rattle.bh_blocks.proofs.Garbage.{joined_sizes}
use Rattle.bh_blocks.proofs.Loops.{all_shown}
use Rattle.bh_blocks.proofs.Keeping.{resolved_at, still_inside}
use Rattle.bh_blocks.proofs.bodies.join_bodies.Goals as goal

pub refer_to_all-requires-clause-inside : goal.refer_to_all-requires-clause-inside
refer_to_all-requires-clause-inside g c = still_inside _ _ c.in_ok-rows.ensures.within c.in_ok-rows.ensures.same c.requires.inside

pub refer_to_all-requires-clause-sizes : goal.refer_to_all-requires-clause-sizes
refer_to_all-requires-clause-sizes g c clean =
    let a = state g.S.Store g.P.Shelf c.args.connection.now in
    let t = tables_at a in
    let measured = (c.requires.inside (c.in_ok-rows.ensures.within.follows.clean clean)).host.held.measured in
    subst (λ (x : Standing). All (λ row. IsShownRight row (tables_in x.now).blocks) c.deref.result.now) (sym (c.in_ok-rows.ensures.same clean.intact))
    (subst (All (λ row. IsShownRight row t.blocks)) (sym (c.deref.ensures.value ∙ c.in_ok-rows.ensures.rows clean)) (all_shown shown_ref (λ (r : RefRow). IsSize (ref_name r) r.size t.blocks) (flat_map (λ source. placed t.refs (c.args.tenant.now, source)) c.args.sources.now) (joined_sizes t (λ source. (c.args.tenant.now, source)) c.args.sources.now measured)))

pub returns-clause-joined : goal.returns-clause-joined
returns-clause-joined g c = on_ok_weaker c.refer_to_all.result (λ again clean.
    let old = tables_at (state g.S.Store g.P.Shelf c.args.connection.now) in
    let was = c.refer_to_all.ensures.within.follows.clean clean in
    let same : tables_at (state g.S.Store g.P.Shelf c.rows_of_all.new.connection) ≡ old = ap (λ (x : Standing). tables_in x.now) (c.in_ok-rows.ensures.same was.intact) in
    let at : Name = (c.args.tenant.now, c.args.body) in
    let name : ℕ → Name = λ source. (c.args.tenant.now, source) in
    let rs = flat_map (λ source. placed old.refs (name source)) c.args.sources.now in
    let it = again rs (c.deref.ensures.value ∙ c.in_ok-rows.ensures.rows was) clean in
    record { within = it.within; is = it.is ∙ ap (body_again at 0 rs) same ∙ ap (λ l. body_again at 0 l old) (sym (flat_named (placed old.refs) name c.args.sources.now)) }) c.refer_to_all.ensures.again

pub returns-clause-adds : goal.returns-clause-adds
returns-clause-adds g c digest = on_ok_weaker c.refer_to_all.result (λ again clean fresh.
    let before = state g.S.Store g.P.Shelf c.args.connection.now in
    let old = tables_at before in
    let was = c.refer_to_all.ensures.within.follows.clean clean in
    let same : tables_at (state g.S.Store g.P.Shelf c.rows_of_all.new.connection) ≡ old = ap (λ (x : Standing). tables_in x.now) (c.in_ok-rows.ensures.same was.intact) in
    let at : Name = (c.args.tenant.now, c.args.body) in
    let name : ℕ → Name = λ source. (c.args.tenant.now, source) in
    let rs = flat_map (λ source. placed old.refs (name source)) c.args.sources.now in
    let it = again rs (c.deref.ensures.value ∙ c.in_ok-rows.ensures.rows was) clean in
    let is = it.is ∙ ap (body_again at 0 rs) same ∙ ap (λ l. body_again at 0 l old) (sym (flat_named (placed old.refs) name c.args.sources.now)) in
    subst (λ bytes. AddsBody digest at bytes old (tables_at (state g.S.Store g.P.Shelf c.refer_to_all.new.connection))) (flat_named (bytes_in old) name c.args.sources.now)
    (subst (AddsBody digest at (flat_map (bytes_in old) (map name c.args.sources.now)) old) (sym is) (bodies_join old at (resolved_at before) fresh.stored fresh.bodies fresh.unnamed digest (map name c.args.sources.now)))) c.refer_to_all.ensures.again
