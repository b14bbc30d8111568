use Rattle.std.proofs.Common.{inl, inr, sym, ap, ◌∙◌, subst}
use Rattle.std.proofs.lemmas.Result.{on_ok_weaker, IfErr-weaker}
use Rattle.sqlite.specs.Held.{state as database_state}
use Rattle.bh_base.specs.Connections.{backing, state}
use Rattle.bh_base.specs.Layer.{Standing, standing, committed, Unwinds}
use Rattle.bh_base.specs.Placed.{IsWhole}
use Rattle.bh_base.proofs.TurnLemmas.{stood}
use Rattle.bh_base.proofs.Lifting.{open_shown, lists_shown, follows_then, on_err}
use Rattle.bh_base.proofs.connection.Connection.commit.Goals as goal

pub returns-in-Ok-clause-opens : goal.returns-in-Ok-clause-opens
returns-in-Ok-clause-opens g c = on_ok_weaker c.commit_synced.result (λ opens intact.
    let o = opens intact in
    ((c.in-Ok.ensures.within.follows.clean (record { intact = c.commit_synced.ensures.follows.intact intact; is_open = o.0 })).is_open, o.1)) c.commit_synced.ensures.opens

pub returns-in-Ok-clause-commits : goal.returns-in-Ok-clause-commits
returns-in-Ok-clause-commits g c = on_ok_weaker c.commit_synced.result (λ commits intact. commits intact ∙ ap committed (c.in-Ok.ensures.same (c.commit_synced.ensures.follows.intact intact))) c.commit_synced.ensures.commits

pub returns-in-Ok-clause-follows : goal.returns-in-Ok-clause-follows
returns-in-Ok-clause-follows g c =
    follows_then (state g.S.Store g.P.Shelf c.args.self.now) (state g.S.Store g.P.Shelf c.sync.new.self) (state g.S.Store g.P.Shelf c.commit_synced.new.self) c.in-Ok.ensures.within.follows c.commit_synced.ensures.follows

pub returns-in-Ok-clause-unwinds : goal.returns-in-Ok-clause-unwinds
returns-in-Ok-clause-unwinds g c =
    let new = standing (state g.S.Store g.P.Shelf c.commit_synced.new.self) in
    on_err c.commit_synced.result (λ unwinds clean. subst (λ x. Unwinds x new) (c.in-Ok.ensures.same (c.commit_synced.ensures.follows.intact clean.intact)) (unwinds clean)) c.commit_synced.ensures.unwinds

pub returns-in-Ok-clause-survives : goal.returns-in-Ok-clause-survives
returns-in-Ok-clause-survives g c = λ intact inside whole db it.
    let before = c.commit_synced.ensures.follows.intact intact in
    let same = c.in-Ok.ensures.same before in
    elim (c.commit_synced.ensures.survives intact (ap (λ (x : Standing). x.inside) same ∙ inside) (subst (λ (x : Standing). IsWhole x.now) (sym same) whole) db it) [
      | inl was ↦ inl (c.in-Ok.ensures.survives before db was)
      | inr now ↦ inr (now ∙ ap (λ (x : Standing). x.now.trees) same)
    ]

pub returns-in-Ok-clause-trouble : goal.returns-in-Ok-clause-trouble
returns-in-Ok-clause-trouble g c = IfErr-weaker c.commit_synced.result _ _ (λ e trouble intact inside.
    let before = c.commit_synced.ensures.follows.intact intact in
    trouble intact (λ clean. ap (λ (x : Standing). x.inside) (c.in-Ok.ensures.same before) ∙ inside (c.in-Ok.ensures.within.follows.clean clean))) c.commit_synced.ensures.trouble

pub returns-in-Ok-clause-lists : goal.returns-in-Ok-clause-lists
returns-in-Ok-clause-lists g c =
    let a = backing g.P.Shelf c.args.self.now.packs in
    let s = database_state g.S.Store c.args.self.now.database in
    λ up. lists_shown a s (stood s c.schema-schema.ensures.live (open_shown a s up))

pub returns-in-Err-clause-follows : goal.returns-in-Err-clause-follows
returns-in-Err-clause-follows g c = c.in-Err.ensures.within.follows

pub returns-in-Err-clause-unwinds : goal.returns-in-Err-clause-unwinds
returns-in-Err-clause-unwinds g c = λ clean. inl (c.in-Err.ensures.same clean.intact)

pub returns-in-Err-clause-survives : goal.returns-in-Err-clause-survives
returns-in-Err-clause-survives g c = λ intact inside whole db it. inl (c.in-Err.ensures.survives intact db it)

pub returns-in-Err-clause-lists : goal.returns-in-Err-clause-lists
returns-in-Err-clause-lists g c =
    let a = backing g.P.Shelf c.args.self.now.packs in
    let s = database_state g.S.Store c.args.self.now.database in
    λ up. lists_shown a s (stood s c.schema-schema.ensures.live (open_shown a s up))
