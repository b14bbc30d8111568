use Rattle.std.proofs.Common.{rules}
use Rattle.bh_base.specs.Connections.{state}
use Rattle.bh_schema.specs.Working.{tables_at}
use Rattle.bh_objects.proofs.Working.{works_on, works_then}
use Rattle.bh_removal.proofs.Taking.{gives_absence}
use Rattle.bh_removal.proofs.removal.remove_tenant.Goals as goal

pub take_away-requires : goal.take_away-requires
take_away-requires g c clean = works_on (state g.S.Store g.P.Shelf c.args.connection.now) (state g.S.Store g.P.Shelf c.require_removable.new.connection) (c.in_ok-require_removable.ensures.works.working clean)

pub returns-clause-works : goal.returns-clause-works
returns-clause-works g c = record {
  within = search rules;
  opens = search rules;
  working = λ clean.
      let decided = c.in_ok-take_away.ensures.works.within.follows.clean clean in
      works_then (state g.S.Store g.P.Shelf c.args.connection.now) (state g.S.Store g.P.Shelf c.require_removable.new.connection) (state g.S.Store g.P.Shelf c.take_away.new.connection) (c.in_ok-require_removable.ensures.works.working decided) (c.in_ok-take_away.ensures.works.working clean);
}

pub returns-clause-carries : goal.returns-clause-carries
returns-clause-carries g c clean =
    let old = tables_at (state g.S.Store g.P.Shelf c.args.connection.now) in
    let mid = tables_at (state g.S.Store g.P.Shelf c.require_removable.new.connection) in
    let decided = c.in_ok-take_away.ensures.works.within.follows.clean clean in
    let before = c.in_ok-require_removable.ensures.works.within.follows.clean decided in
    let may = c.in_ok-require_removable.ensures.decides decided in
    gives_absence c.args.tenant.now c.args.at c.args.with_objects old mid (tables_at (state g.S.Store g.P.Shelf c.take_away.new.connection)) (c.requires before).sound may.0 may.1 (c.in_ok-take_away.ensures.gone clean)
