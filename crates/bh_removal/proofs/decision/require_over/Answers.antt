use Rattle.std.proofs.Common.{rules}
use Rattle.std.proofs.lemmas.Result.{IfOk-at_ok}
use Rattle.bh_base.specs.Connections.{state}
use Rattle.bh_schema.specs.Working.{tables_at}
use Rattle.bh_schema.proofs.Storing.{on_ok}
use Rattle.bh_objects.proofs.Working.{same_tables, asked_working}
use Rattle.bh_removal.proofs.Deciding.{over_ok, over_err}
use Rattle.bh_removal.proofs.decision.require_over.Goals as goal

pub returns-then-late-eq0-clause-works : goal.returns-then-late-eq0-clause-works
returns-then-late-eq0-clause-works g c = record {
  within = search rules;
  opens = search rules;
  working = asked_working (state g.S.Store g.P.Shelf c.args.connection.now) (state g.S.Store g.P.Shelf c.late_dates.new.connection) c.requires c.late_dates.ensures.reads.within (on_ok _ c.in_ok-late.ensures.ok c.late_dates.ensures.reads.same);
}

pub returns-then-late-eq0-clause-decides : goal.returns-then-late-eq0-clause-decides
returns-then-late-eq0-clause-decides g c clean =
    let old = state g.S.Store g.P.Shelf c.args.connection.now in
    let new = state g.S.Store g.P.Shelf c.late_dates.new.connection in
    let counted = rw (c.as_str.ensures.value, c.seconds.ensures.value) at (IfOk-at_ok _ c.in_ok-late.ensures.ok c.late_dates.ensures.total clean) in (
      over_ok (tables_at old) c.args.tenant.now (c.requires (c.late_dates.ensures.reads.within.follows.clean clean)).sound c.in_ok-late.late c.args.at counted c.if-late-eq0.true,
      same_tables old new (on_ok _ c.in_ok-late.ensures.ok c.late_dates.ensures.reads.same clean.intact),
    )

pub returns-else-late-eq0-clause-works : goal.returns-else-late-eq0-clause-works
returns-else-late-eq0-clause-works g c = record {
  within = search rules;
  opens = search rules;
  working = asked_working (state g.S.Store g.P.Shelf c.args.connection.now) (state g.S.Store g.P.Shelf c.late_dates.new.connection) c.requires c.late_dates.ensures.reads.within (on_ok _ c.in_ok-late.ensures.ok c.late_dates.ensures.reads.same);
}

pub returns-else-late-eq0-clause-decides : goal.returns-else-late-eq0-clause-decides
returns-else-late-eq0-clause-decides g c clean =
    let old = state g.S.Store g.P.Shelf c.args.connection.now in
    let new = state g.S.Store g.P.Shelf c.late_dates.new.connection in
    let counted = rw (c.as_str.ensures.value, c.seconds.ensures.value) at (IfOk-at_ok _ c.in_ok-late.ensures.ok c.late_dates.ensures.total clean) in (
      over_err (tables_at old) c.args.tenant.now (c.requires (c.late_dates.ensures.reads.within.follows.clean clean)).sound c.in_ok-late.late c.args.at counted c.if-late-eq0.false,
      same_tables old new (on_ok _ c.in_ok-late.ensures.ok c.late_dates.ensures.reads.same clean.intact),
    )
