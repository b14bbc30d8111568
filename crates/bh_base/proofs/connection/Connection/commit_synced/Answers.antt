use Rattle.std.proofs.Common.{sym, ◌∙◌}
use Rattle.sqlite.specs.Held.{state}
use Rattle.bh_base.specs.Connections.{backing}
use Rattle.bh_base.proofs.Lifting.{shown_intact, shown_clean, clean_shown, opened, inside_shown, shown_follows, shown_unwinds, shown_committed, commit_leaves_shown}
use Rattle.bh_base.proofs.connection.Connection.commit_synced.Goals as goal

pub returns-in-Ok-clause-opens : goal.returns-in-Ok-clause-opens
returns-in-Ok-clause-opens g c =
    let a = backing g.P.Shelf c.args.self.now.packs in
    let b = backing g.P.Shelf c.keep.new.self in
    let old = state g.S.Store c.args.self.now.database in
    let new = state g.S.Store c.commit.new.connection in
    λ intact. let o = c.in-Ok.ensures.opens (shown_intact b new intact).0 in (opened a old o.0, opened b new o.1)

pub returns-in-Ok-clause-commits : goal.returns-in-Ok-clause-commits
returns-in-Ok-clause-commits g c =
    let a = backing g.P.Shelf c.args.self.now.packs in
    let b = backing g.P.Shelf c.keep.new.self in
    let old = state g.S.Store c.args.self.now.database in
    let new = state g.S.Store c.commit.new.connection in
    λ intact. let it = shown_intact b new intact in
    shown_committed a b old new (c.keep.ensures.kept it.1) (c.in-Ok.ensures.inside it.0) (c.in-Ok.ensures.commits it.0)

pub returns-in-Ok-clause-follows : goal.returns-in-Ok-clause-follows
returns-in-Ok-clause-follows g c =
    shown_follows (backing g.P.Shelf c.args.self.now.packs) (backing g.P.Shelf c.keep.new.self) (state g.S.Store c.args.self.now.database) (state g.S.Store c.commit.new.connection)
    c.keep.ensures.clean c.in-Ok.ensures.follows

pub returns-in-Ok-clause-survives : goal.returns-in-Ok-clause-survives
returns-in-Ok-clause-survives g c =
    let a = backing g.P.Shelf c.args.self.now.packs in
    let b = backing g.P.Shelf c.keep.new.self in
    let old = state g.S.Store c.args.self.now.database in
    let new = state g.S.Store c.commit.new.connection in
    λ intact inside whole. let it = shown_intact b new intact in
    let was = sym (inside_shown a old) ∙ inside in
    commit_leaves_shown a b old new (c.requires (c.keep.ensures.clean it.1)) (c.keep.ensures.stood it.1) was whole (c.in-Ok.ensures.survives it.0 was)

pub returns-in-Err-clause-follows : goal.returns-in-Err-clause-follows
returns-in-Err-clause-follows g c =
    let a = backing g.P.Shelf c.args.self.now.packs in
    shown_follows a a (state g.S.Store c.args.self.now.database) (state g.S.Store c.commit.new.connection) (λ clean. clean) c.in-Err.ensures.follows

pub returns-in-Err-clause-unwinds : goal.returns-in-Err-clause-unwinds
returns-in-Err-clause-unwinds g c =
    let a = backing g.P.Shelf c.args.self.now.packs in
    let old = state g.S.Store c.args.self.now.database in
    let new = state g.S.Store c.commit.new.connection in
    λ clean. shown_unwinds a old new (c.in-Err.ensures.unwinds (shown_clean a new clean).0)

pub returns-in-Err-clause-survives : goal.returns-in-Err-clause-survives
returns-in-Err-clause-survives g c =
    let a = backing g.P.Shelf c.args.self.now.packs in
    let old = state g.S.Store c.args.self.now.database in
    let new = state g.S.Store c.commit.new.connection in
    λ intact inside whole. let it = shown_intact a new intact in
    let was = sym (inside_shown a old) ∙ inside in
    commit_leaves_shown a a old new (c.requires it.1) (λ pack offset size bytes has. has) was whole (c.in-Err.ensures.survives it.0 was)

pub returns-in-Err-clause-trouble : goal.returns-in-Err-clause-trouble
returns-in-Err-clause-trouble g c =
    let a = backing g.P.Shelf c.args.self.now.packs in
    let old = state g.S.Store c.args.self.now.database in
    let new = state g.S.Store c.commit.new.connection in
    λ intact inside. let it = shown_intact a new intact in
    c.in-Err.ensures.trouble it.0 (λ clean. sym (inside_shown a old) ∙ inside (clean_shown a old clean it.1))
