use Rattle.std.proofs.Common.{sym, subst}
use Rattle.std.proofs.lemmas.Result.{IfOk-weaker}
use Rattle.bh_maintenance.specs.Moves.{IsOneName}
use Rattle.bh_maintenance.proofs.Moving.{ready_still, unnamed, imported}
use Rattle.bh_maintenance.proofs.Opened.{when_ok, when_err}
use Rattle.bh_maintenance.proofs.imports.import_one.Goals as goal

pub move_and_tell-requires-clause-from : goal.move_and_tell-requires-clause-from
move_and_tell-requires-clause-from g c = ready_still g.S.Store g.P.Shelf c.args.from.now c.name_in.new.host c.in_ok-tenant.ensures.same c.requires.from.ready c.in_ok-tenant.ensures.stays

pub move_and_tell-requires-clause-to : goal.move_and_tell-requires-clause-to
move_and_tell-requires-clause-to g c = c.requires.to.ready

pub returns-in-Err : goal.returns-in-Err
returns-in-Err g c = unnamed c.args.clock g.S.Store g.P.Shelf g.T.Store g.Q.Shelf c.args.from.now c.args.to.now c.name_in.new.host.connection c.in_ok-tenant.ensures.stays c.in-Err.printed (when_err _ _ c.in-Err.is c.in_ok-tenant.ensures.name)

pub returns-in_ok-line-in-Ok : goal.returns-in_ok-line-in-Ok
returns-in_ok-line-in-Ok g c =
    let line = c.in_ok-line-in-Ok in
    IfOk-weaker c.move_and_tell.result _ _ (λ printed told. imported c.args.clock g.S.Store g.P.Shelf g.T.Store g.Q.Shelf c.args.from.now c.args.to.now c.name_in.new.host.connection c.in_ok-tenant.ensures.stays c.requires.from.ready c.requires.to.ready c.requires.limits c.requires.in_time
    c.move_and_tell.new.from.connection c.move_and_tell.new.to.connection c.as_str-name.result.now (subst (IsOneName g.S.Store g.P.Shelf c.args.from.now.connection c.name_in.new.host.connection) (sym c.as_str-name.ensures.value) (when_ok _ _ c.in-Ok.is c.in_ok-tenant.ensures.name)) line.line printed line.ensures told) c.move_and_tell.ensures
