use Rattle.std.proofs.Common.{refl, sym, ◌∙◌}
use Rattle.sqlite.specs.Held.{state}
use Rattle.bh_base.specs.Connections.{backing}
use Rattle.bh_base.proofs.Lifting.{shown_intact, clean_shown, opened, inside_shown, shown_within, shown_leaves, shown_begun}
use Rattle.bh_base.proofs.connection.Connection.begin.Goals as goal

pub returns-in-Ok-clause-opens : goal.returns-in-Ok-clause-opens
returns-in-Ok-clause-opens g c =
    let a = backing g.P.Shelf c.args.self.now.packs in
    let b = backing g.P.Shelf c.forget.new.self in
    let old = state g.S.Store c.args.self.now.database in
    let new = state g.S.Store c.begin.new.connection in
    λ intact. let o = c.in-Ok.ensures.opens (shown_intact b new intact).0 in (opened a old o.0, opened b new o.1)

pub returns-in-Ok-clause-begins : goal.returns-in-Ok-clause-begins
returns-in-Ok-clause-begins g c =
    let a = backing g.P.Shelf c.args.self.now.packs in
    let b = backing g.P.Shelf c.forget.new.self in
    let old = state g.S.Store c.args.self.now.database in
    let new = state g.S.Store c.begin.new.connection in
    λ intact. let it = shown_intact b new intact in
    shown_begun a b old new (c.forget.ensures.kept it.1) (c.forget.ensures.seen it.1) (c.in-Ok.ensures.outside it.0) (c.in-Ok.ensures.begins it.0)

pub returns-in-Ok-clause-within : goal.returns-in-Ok-clause-within
returns-in-Ok-clause-within g c =
    shown_within (backing g.P.Shelf c.args.self.now.packs) (backing g.P.Shelf c.forget.new.self) (state g.S.Store c.args.self.now.database) (state g.S.Store c.begin.new.connection)
    c.forget.ensures.clean c.forget.ensures.stood c.forget.ensures.kept c.in-Ok.ensures.within

pub returns-in-Ok-clause-survives : goal.returns-in-Ok-clause-survives
returns-in-Ok-clause-survives g c =
    shown_leaves (backing g.P.Shelf c.args.self.now.packs) (backing g.P.Shelf c.forget.new.self) (state g.S.Store c.args.self.now.database) (state g.S.Store c.begin.new.connection)
    c.forget.ensures.clean c.forget.ensures.stood c.in-Ok.ensures.survives

pub returns-in-Err-clause-within : goal.returns-in-Err-clause-within
returns-in-Err-clause-within g c =
    let a = backing g.P.Shelf c.args.self.now.packs in
    shown_within a a (state g.S.Store c.args.self.now.database) (state g.S.Store c.begin.new.connection)
    (λ clean. clean) (λ clean pack offset size bytes has. has) (λ clean. refl) c.in-Err.ensures.within

pub returns-in-Err-clause-survives : goal.returns-in-Err-clause-survives
returns-in-Err-clause-survives g c =
    let a = backing g.P.Shelf c.args.self.now.packs in
    shown_leaves a a (state g.S.Store c.args.self.now.database) (state g.S.Store c.begin.new.connection)
    (λ clean. clean) (λ clean pack offset size bytes has. has) c.in-Err.ensures.survives

pub returns-in-Err-clause-trouble : goal.returns-in-Err-clause-trouble
returns-in-Err-clause-trouble g c =
    let a = backing g.P.Shelf c.args.self.now.packs in
    let old = state g.S.Store c.args.self.now.database in
    let new = state g.S.Store c.begin.new.connection in
    λ intact outside. let it = shown_intact a new intact in
    c.in-Err.ensures.trouble it.0 (λ clean. sym (inside_shown a old) ∙ outside (clean_shown a old clean it.1))
