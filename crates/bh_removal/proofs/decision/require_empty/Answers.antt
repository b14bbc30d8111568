use Rattle.std.proofs.Common.{rules}
use Rattle.std.proofs.lemmas.Result.{IfOk-at_ok}
use Rattle.bh_base.specs.Connections.{state}
use Rattle.bh_schema.specs.Working.{tables_at}
use Rattle.bh_schema.proofs.Storing.{on_ok}
use Rattle.bh_objects.proofs.Working.{same_tables, asked_working}
use Rattle.bh_removal.proofs.Deciding.{empty_ok, empty_err}
use Rattle.bh_removal.proofs.decision.require_empty.Goals as goal

pub returns-then-buckets-eq0-clause-works : goal.returns-then-buckets-eq0-clause-works
returns-then-buckets-eq0-clause-works g c = record {
  within = search rules;
  opens = search rules;
  working = asked_working (state g.S.Store g.P.Shelf c.args.connection.now) (state g.S.Store g.P.Shelf c.tenant_sum.new.connection) c.requires c.tenant_sum.ensures.reads.within (on_ok _ c.in_ok-buckets.ensures.ok c.tenant_sum.ensures.reads.same);
}

pub returns-then-buckets-eq0-clause-decides : goal.returns-then-buckets-eq0-clause-decides
returns-then-buckets-eq0-clause-decides g c clean =
    let old = state g.S.Store g.P.Shelf c.args.connection.now in
    let new = state g.S.Store g.P.Shelf c.tenant_sum.new.connection in
    let counted = rw c.as_str.ensures.value at (IfOk-at_ok _ c.in_ok-buckets.ensures.ok c.tenant_sum.ensures.total clean) in (
      empty_ok (tables_at old) c.args.tenant.now (c.requires (c.tenant_sum.ensures.reads.within.follows.clean clean)).sound c.in_ok-buckets.buckets counted c.if-buckets-eq0.true,
      same_tables old new (on_ok _ c.in_ok-buckets.ensures.ok c.tenant_sum.ensures.reads.same clean.intact),
    )

pub returns-else-buckets-eq0-clause-works : goal.returns-else-buckets-eq0-clause-works
returns-else-buckets-eq0-clause-works g c = record {
  within = search rules;
  opens = search rules;
  working = asked_working (state g.S.Store g.P.Shelf c.args.connection.now) (state g.S.Store g.P.Shelf c.tenant_sum.new.connection) c.requires c.tenant_sum.ensures.reads.within (on_ok _ c.in_ok-buckets.ensures.ok c.tenant_sum.ensures.reads.same);
}

pub returns-else-buckets-eq0-clause-decides : goal.returns-else-buckets-eq0-clause-decides
returns-else-buckets-eq0-clause-decides g c clean =
    let old = state g.S.Store g.P.Shelf c.args.connection.now in
    let new = state g.S.Store g.P.Shelf c.tenant_sum.new.connection in
    let counted = rw c.as_str.ensures.value at (IfOk-at_ok _ c.in_ok-buckets.ensures.ok c.tenant_sum.ensures.total clean) in (
      empty_err (tables_at old) c.args.tenant.now (c.requires (c.tenant_sum.ensures.reads.within.follows.clean clean)).sound c.in_ok-buckets.buckets counted c.if-buckets-eq0.false,
      same_tables old new (on_ok _ c.in_ok-buckets.ensures.ok c.tenant_sum.ensures.reads.same clean.intact),
    )
