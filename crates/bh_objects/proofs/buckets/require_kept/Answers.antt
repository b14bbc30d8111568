use Rattle.std.proofs.Common.{rules, sym, ◌∙◌}
use Rattle.bh_base.specs.Connections.{state}
use Rattle.bh_schema.specs.Working.{tables_at}
use Rattle.bh_objects.proofs.Dated.{keeps, loses}
use Rattle.bh_objects.proofs.Working.{same_tables, asked_working}
use Rattle.bh_objects.proofs.buckets.require_kept.Goals as goal

pub returns-then-keeps_versions-clause-works : goal.returns-then-keeps_versions-clause-works
returns-then-keeps_versions-clause-works g c = record {
  within = search rules;
  opens = search rules;
  working = asked_working (state g.S.Store g.P.Shelf c.args.connection.now) (state g.S.Store g.P.Shelf c.bucket_locked.new.connection) c.requires.working c.in_ok-locked.ensures.reads.within c.in_ok-locked.ensures.reads.same;
}

pub returns-then-keeps_versions-clause-decides : goal.returns-then-keeps_versions-clause-decides
returns-then-keeps_versions-clause-decides g c clean =
    let old = state g.S.Store g.P.Shelf c.args.connection.now in (
      keeps (tables_at old) c.args.tenant.now c.args.bucket.now c.args.state c.in_ok-locked.locked (c.in_ok-locked.ensures.found clean) (sym c.keeps_versions.ensures ∙ c.if-keeps_versions.true),
      same_tables old (state g.S.Store g.P.Shelf c.bucket_locked.new.connection) (c.in_ok-locked.ensures.reads.same clean.intact),
    )

pub returns-else-keeps_versions-clause-works : goal.returns-else-keeps_versions-clause-works
returns-else-keeps_versions-clause-works g c = record {
  within = search rules;
  opens = search rules;
  working = asked_working (state g.S.Store g.P.Shelf c.args.connection.now) (state g.S.Store g.P.Shelf c.bucket_locked.new.connection) c.requires.working c.in_ok-locked.ensures.reads.within c.in_ok-locked.ensures.reads.same;
}

pub returns-else-keeps_versions-clause-decides : goal.returns-else-keeps_versions-clause-decides
returns-else-keeps_versions-clause-decides g c clean =
    let old = state g.S.Store g.P.Shelf c.args.connection.now in (
      loses (tables_at old) c.args.tenant.now c.args.bucket.now c.args.state c.in_ok-locked.locked (c.in_ok-locked.ensures.found clean) (sym c.keeps_versions.ensures ∙ c.if-keeps_versions.false),
      same_tables old (state g.S.Store g.P.Shelf c.bucket_locked.new.connection) (c.in_ok-locked.ensures.reads.same clean.intact),
    )
