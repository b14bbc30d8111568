use Rattle.std.proofs.Common.{sym, subst}
use Rattle.std.proofs.lemmas.Result.{on_ok_weaker, IfErr-weaker}
use Rattle.bh_base.specs.Connections.{state}
use Rattle.bh_base.specs.Layer.{Standing}
use Rattle.bh_base.specs.Placed.{IsWhole}
use Rattle.bh_schema.proofs.Storing.{left_kept}
use Rattle.bh_create.specs.Creation.{IsNewHost}
use Rattle.bh_create.proofs.Building.{begun_making, stands}
use Rattle.bh_create.proofs.fill.commit_new.Goals as goal

pub fill-requires-clause-making : goal.fill-requires-clause-making
fill-requires-clause-making g c clean =
    begun_making (state g.S.Store g.P.Shelf c.args.connection.now) (state g.S.Store g.P.Shelf c.begin.new.self) (c.requires (c.begin.ensures.within.follows.clean clean)) (c.in_ok-begin.ensures.begins clean.intact)

pub returns-clause-made : goal.returns-clause-made
returns-clause-made g c = on_ok_weaker c.commit.result (λ commits clean.
    let old = state g.S.Store g.P.Shelf c.fill.new.connection in
    let new = state g.S.Store g.P.Shelf c.commit.new.self in
    let before = c.commit.ensures.follows.clean clean in
    let holds = c.in_ok-fill.ensures.holds before in
    let whole = subst (λ (y : Standing). IsWhole y.kept) (sym (commits clean.intact)) holds.within.host.held.blocks in
    subst (λ limits. IsNewHost limits c.args.digest new) c.limits.view_is (stands old new c.limits.inside.min_part c.limits.inside.max_body c.number.result c.args.digest c.limits.invariant c.number.ensures.known c.number.ensures.number
    holds (c.commit.ensures.lists before.is_open) (commits clean.intact) (left_kept g.S.Store g.P.Shelf g.met.S.Store.settled g.met.P.Shelf.kept_stands c.commit.new.self clean.is_open whole))) c.commit.ensures.commits

pub returns-clause-trouble : goal.returns-clause-trouble
returns-clause-trouble g c = IfErr-weaker c.commit.result _ _ (λ e trouble intact unlimited outside. trouble intact (λ clean. (c.in_ok-fill.ensures.holds clean).within.inside)) c.commit.ensures.trouble
