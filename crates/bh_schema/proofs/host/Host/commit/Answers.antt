use Rattle.bh_base.specs.Connections.{state}
use Rattle.bh_schema.proofs.Storing.{on_ok, both, parts, beside_limits, under, plain, inside_of}
use Rattle.bh_schema.proofs.Committing.{fails_on, on_err, unwound_kept, commit_stands, commit_shows, commit_crashes}
use Rattle.bh_schema.proofs.host.Host.commit.Goals as goal

pub returns-clause-opened : goal.returns-clause-opened
returns-clause-opened g c intact up = (parts (c.commit.ensures.follows.clean (both (intact, up)))).1

pub returns-clause-survives : goal.returns-clause-survives
returns-clause-survives g c intact =
    let opens = on_ok _ c.in_ok-or_trouble.ensures.ok c.commit.ensures.opens intact in
    let working = c.requires (c.commit.ensures.follows.intact intact, opens.0) in
    let whole = (inside_of _ (state g.S.Store g.P.Shelf c.args.self.now.connection) (under _ _ working)).host.held.blocks in
    rw (plain _ _ working) (commit_stands g.S.Store g.P.Shelf g.met.S.Store.settled g.met.P.Shelf.kept_stands _ c.args.self.now.connection c.commit.new.self opens.1
    (c.commit.ensures.lists opens.0) whole (on_ok _ c.in_ok-or_trouble.ensures.ok c.commit.ensures.commits intact))

pub returns-clause-done : goal.returns-clause-done
returns-clause-done g c intact =
    let opens = on_ok _ c.in_ok-or_trouble.ensures.ok c.commit.ensures.opens intact in
    commit_shows _ _ (state g.S.Store g.P.Shelf c.args.self.now.connection) (state g.S.Store g.P.Shelf c.commit.new.self)
    (c.requires (c.commit.ensures.follows.intact intact, opens.0)) (on_ok _ c.in_ok-or_trouble.ensures.ok c.commit.ensures.commits intact)

pub returns-clause-limits : goal.returns-clause-limits
returns-clause-limits g c = beside_limits _ _ c.args.self.now.limits (state g.S.Store g.P.Shelf c.args.self.now.connection) (state g.S.Store g.P.Shelf c.commit.new.self)

pub returns-in_err-or_trouble-clause-opened : goal.returns-in_err-or_trouble-clause-opened
returns-in_err-or_trouble-clause-opened g c intact up = (parts (c.commit.ensures.follows.clean (both (intact, up)))).1

pub returns-in_err-or_trouble-clause-limits : goal.returns-in_err-or_trouble-clause-limits
returns-in_err-or_trouble-clause-limits g c = beside_limits _ _ c.args.self.now.limits (state g.S.Store g.P.Shelf c.args.self.now.connection) (state g.S.Store g.P.Shelf c.commit.new.self)

pub returns-in_err-or_trouble-clause-crash : goal.returns-in_err-or_trouble-clause-crash
returns-in_err-or_trouble-clause-crash g c = fails_on c.from_residual.result _ (λ up intact.
    let old = state g.S.Store g.P.Shelf c.args.self.now.connection in
    let working = c.requires (c.commit.ensures.follows.intact intact, up) in
    rw (plain _ _ working) (commit_crashes _ old (state g.S.Store g.P.Shelf c.commit.new.self) (c.commit.ensures.lists up) (let it = inside_of _ old (under _ _ working) in c.commit.ensures.survives intact it.inside it.host.held.blocks)))

pub returns-in_err-or_trouble-clause-kept : goal.returns-in_err-or_trouble-clause-kept
returns-in_err-or_trouble-clause-kept g c = fails_on c.from_residual.result _ (λ clean.
    unwound_kept _ _ (state g.S.Store g.P.Shelf c.args.self.now.connection) (state g.S.Store g.P.Shelf c.commit.new.self) (on_err c.commit.result _ _ c.in_err-or_trouble.ensures.err c.commit.ensures.unwinds (both clean)))
