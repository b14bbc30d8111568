use Rattle.std.proofs.Common.{rules, sym, ◌∙◌}
use Rattle.std.proofs.lemmas.Result.{err_from_is_err_and}
use Rattle.bh_base.specs.Connections.{state}
use Rattle.bh_schema.specs.Working.{tables_at}
use Rattle.bh_objects.proofs.Dated.{past_of}
use Rattle.bh_objects.proofs.Working.{same_tables, asked_working, any_unless}
use Rattle.bh_objects.proofs.dates.past_date.Goals as goal

pub returns-clause-works : goal.returns-clause-works
returns-clause-works g c = record {
  within = search rules;
  opens = search rules;
  working = asked_working (state g.S.Store g.P.Shelf c.args.connection.now) (state g.S.Store g.P.Shelf c.version_date.new.connection) c.requires.working c.in_ok-date.ensures.reads.within c.in_ok-date.ensures.reads.same;
}

pub returns-clause-decides : goal.returns-clause-decides
returns-clause-decides g c clean =
    let old = state g.S.Store g.P.Shelf c.args.connection.now in (
      past_of (tables_at old) c.args.tenant.now c.args.seq c.in_ok-date.date c.args.at (c.in_ok-date.ensures.found clean) ∙ sym c.require_past.ensures ∙ c.in_ok-require_past.was,
      same_tables old (state g.S.Store g.P.Shelf c.version_date.new.connection) (c.in_ok-date.ensures.reads.same clean.intact),
    )

pub returns-in_err-require_past-clause-works : goal.returns-in_err-require_past-clause-works
returns-in_err-require_past-clause-works g c = record {
  within = search rules;
  opens = search rules;
  working = any_unless c.from_residual-in_err-require_past.result _
      (asked_working (state g.S.Store g.P.Shelf c.args.connection.now) (state g.S.Store g.P.Shelf c.version_date.new.connection) c.requires.working c.in_ok-date.ensures.reads.within c.in_ok-date.ensures.reads.same);
}

pub returns-in_err-require_past-clause-decides : goal.returns-in_err-require_past-clause-decides
returns-in_err-require_past-clause-decides g c clean =
    let old = state g.S.Store g.P.Shelf c.args.connection.now in
    let p = err_from_is_err_and c.from_residual-in_err-require_past.result c.from_residual-in_err-require_past.ensures.1 in
    rw (p.1, p.2) (
      past_of (tables_at old) c.args.tenant.now c.args.seq c.in_ok-date.date c.args.at (c.in_ok-date.ensures.found clean) ∙ sym c.require_past.ensures ∙ c.in_err-require_past.was,
      same_tables old (state g.S.Store g.P.Shelf c.version_date.new.connection) (c.in_ok-date.ensures.reads.same clean.intact),
    )
