use Rattle.std.proofs.Common.{rules}
use Rattle.bh_base.specs.Connections.{state}
use Rattle.bh_schema.proofs.Storing.{on_ok}
use Rattle.bh_objects.proofs.Working.{asked_working}
use Rattle.bh_objects.proofs.buckets.require_empty.Goals as goal

pub returns-then-not-branch-clause-works : goal.returns-then-not-branch-clause-works
returns-then-not-branch-clause-works g c = record {
  within = search rules;
  opens = search rules;
  working = asked_working (state g.S.Store g.P.Shelf c.args.connection.now) (state g.S.Store g.P.Shelf c.has_nothing.new.connection) c.requires.working c.has_nothing.ensures.reads.within (on_ok _ c.in_ok-or_trouble.ensures.ok c.has_nothing.ensures.reads.same);
}

pub returns-clause-works : goal.returns-clause-works
returns-clause-works g c = record {
  within = search rules;
  opens = search rules;
  working = asked_working (state g.S.Store g.P.Shelf c.args.connection.now) (state g.S.Store g.P.Shelf c.has_nothing.new.connection) c.requires.working c.has_nothing.ensures.reads.within (on_ok _ c.in_ok-or_trouble.ensures.ok c.has_nothing.ensures.reads.same);
}
