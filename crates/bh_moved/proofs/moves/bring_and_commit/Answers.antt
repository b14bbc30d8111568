use Rattle.std.proofs.Common.{◌≡◌, sym, ap, subst}
use Rattle.bh_base.specs.Connections.{state}
use Rattle.bh_tables.specs.Typed.{IsHost, tables_in}
use Rattle.bh_base.specs.Layer.{Standing, standing}
use Rattle.bh_moved.proofs.Settling.{begun_inside, begun_tables}
use Rattle.bh_moved.proofs.Telling.{tells_before, tells_after}
use Rattle.bh_moved.proofs.moves.bring_and_commit.Goals as goal

pub bring_tenant-requires-clause-reading : goal.bring_tenant-requires-clause-reading
bring_tenant-requires-clause-reading g c = begun_inside _ _ c.in_ok-begin.ensures.begins c.requires.reading c.in_ok-begin.ensures.within

pub bring_tenant-requires-clause-inside : goal.bring_tenant-requires-clause-inside
bring_tenant-requires-clause-inside g c = begun_inside _ _ c.in_ok-begin-2.ensures.begins c.requires.ready c.in_ok-begin-2.ensures.within

pub returns-else-is_none-clause-tells : goal.returns-else-is_none-clause-tells
returns-else-is_none-clause-tells g c =
    let it = c.in_ok-refused.ensures in
    tells_before g.S.Store g.P.Shelf g.T.Store g.Q.Shelf g.D.Digester.digest_of c.args.tenant.now c.in_ok-refused.refused c.args.from.now c.begin.new.self c.bring_tenant.new.from c.args.to.now c.begin-2.new.self c.bring_tenant.new.to
    (λ reading. begun_tables _ _ c.in_ok-begin.ensures.begins (it.reads.follows.clean reading))
    (λ clean. begun_tables _ _ c.in_ok-begin-2.ensures.begins (it.within.follows.clean clean))
    (record { moved = it.moved; answered = it.answered; missing = it.missing; exists = it.exists })

pub returns-in_ok-commit-clause-tells : goal.returns-in_ok-commit-clause-tells
returns-in_ok-commit-clause-tells g c =
    let it = c.in_ok-refused.ensures in
    tells_after g.S.Store g.P.Shelf g.T.Store g.Q.Shelf g.D.Digester.digest_of c.args.tenant.now c.in_ok-refused.refused c.args.from.now c.bring_tenant.new.from c.args.to.now c.bring_tenant.new.to c.commit.new.self
    (λ clean. c.in_ok-commit.ensures.follows.clean clean)
    (λ clean. ap (λ (x : Standing). tables_in x.now) (c.in_ok-commit.ensures.commits clean.intact))
    (tells_before g.S.Store g.P.Shelf g.T.Store g.Q.Shelf g.D.Digester.digest_of c.args.tenant.now c.in_ok-refused.refused c.args.from.now c.begin.new.self c.bring_tenant.new.from c.args.to.now c.begin-2.new.self c.bring_tenant.new.to
    (λ reading. begun_tables _ _ c.in_ok-begin.ensures.begins (it.reads.follows.clean reading))
    (λ clean. begun_tables _ _ c.in_ok-begin-2.ensures.begins (it.within.follows.clean clean))
    (record { moved = it.moved; answered = it.answered; missing = it.missing; exists = it.exists }))

pub returns-in_ok-commit-clause-host : goal.returns-in_ok-commit-clause-host
returns-in_ok-commit-clause-host g c is clean =
    let inside = c.in_ok-refused.ensures.inside (c.in_ok-commit.ensures.follows.clean clean) in
    let same : (standing (state g.T.Store g.Q.Shelf c.commit.new.self)).now ≡ (standing (state g.T.Store g.Q.Shelf c.bring_tenant.new.to)).now = ap (λ (x : Standing). x.now) (c.in_ok-commit.ensures.commits clean.intact) in
    subst IsHost (sym same) inside.host
