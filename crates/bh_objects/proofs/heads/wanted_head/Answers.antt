use Rattle.std.proofs.Common.{rules}
use Rattle.bh_base.specs.Connections.{state}
use Rattle.bh_objects.proofs.Working.{asked_working, any_unless}
use Rattle.bh_objects.proofs.heads.wanted_head.Goals as goal

pub returns-in_err-looked-clause-works : goal.returns-in_err-looked-clause-works
returns-in_err-looked-clause-works g c = record {
  within = search rules;
  opens = search rules;
  working = any_unless c.from_residual-in_err-looked.result _
      (asked_working (state g.S.Store g.P.Shelf c.args.connection.now) (state g.S.Store g.P.Shelf c.find_head.new.connection) c.requires c.in_ok-found.ensures.reads.within c.in_ok-found.ensures.reads.same);
}

pub returns-clause-works : goal.returns-clause-works
returns-clause-works g c = record {
  within = search rules;
  opens = search rules;
  working = asked_working (state g.S.Store g.P.Shelf c.args.connection.now) (state g.S.Store g.P.Shelf c.find_head.new.connection) c.requires c.in_ok-found.ensures.reads.within c.in_ok-found.ensures.reads.same;
}
