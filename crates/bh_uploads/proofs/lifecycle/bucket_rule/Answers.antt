use Rattle.std.proofs.Common.{rules, sym, ◌∙◌}
use Rattle.std.proofs.lemmas.Result.{IfOk-at_ok}
use Rattle.bh_base.specs.Connections.{state}
use Rattle.bh_schema.specs.Working.{tables_at}
use Rattle.bh_schema.proofs.Storing.{on_ok}
use Rattle.bh_objects.proofs.Working.{same_tables, asked_working}
use Rattle.bh_uploads.proofs.Rules.{rule_found, no_rule_found}
use Rattle.bh_uploads.proofs.lifecycle.bucket_rule.Goals as goal

pub returns-in-Ok-clause-works : goal.returns-in-Ok-clause-works
returns-in-Ok-clause-works g c = record {
  within = search rules;
  opens = search rules;
  working = λ clean. asked_working (state g.S.Store g.P.Shelf c.args.connection.now) (state g.S.Store g.P.Shelf c.find_bucket.new.connection) c.requires c.find_bucket.ensures.reads.within (on_ok _ c.in_ok-numbers.ensures.ok c.find_bucket.ensures.reads.same) clean;
}

pub returns-in-None-clause-works : goal.returns-in-None-clause-works
returns-in-None-clause-works g c = record {
  within = search rules;
  opens = search rules;
  working = λ clean. asked_working (state g.S.Store g.P.Shelf c.args.connection.now) (state g.S.Store g.P.Shelf c.find_bucket.new.connection) c.requires c.find_bucket.ensures.reads.within (on_ok _ c.in_ok-numbers.ensures.ok c.find_bucket.ensures.reads.same) clean;
}

pub returns-in-Ok-clause-decides : goal.returns-in-Ok-clause-decides
returns-in-Ok-clause-decides g c clean =
    let old = state g.S.Store g.P.Shelf c.args.connection.now in
    let new = state g.S.Store g.P.Shelf c.find_bucket.new.connection in (
      rule_found (tables_at old) c.args.tenant.now c.args.bucket.now (c.requires (c.find_bucket.ensures.reads.within.follows.clean clean)).sound c.in-Some.numbers c.in-Ok.days (sym c.in-Some.is ∙ rw (c.as_str.ensures.value, c.as_str-2.ensures.value) at (IfOk-at_ok _ c.in_ok-numbers.ensures.ok c.find_bucket.ensures.found clean))
          c.in-Ok.ensures.same,
      same_tables old new (on_ok _ c.in_ok-numbers.ensures.ok c.find_bucket.ensures.reads.same clean.intact),
    )

pub returns-in-None-clause-decides : goal.returns-in-None-clause-decides
returns-in-None-clause-decides g c clean =
    let old = state g.S.Store g.P.Shelf c.args.connection.now in
    let new = state g.S.Store g.P.Shelf c.find_bucket.new.connection in
    (no_rule_found (tables_at old) c.args.tenant.now c.args.bucket.now (c.requires (c.find_bucket.ensures.reads.within.follows.clean clean)).sound (sym c.in-None.is ∙ rw (c.as_str.ensures.value, c.as_str-2.ensures.value) at (IfOk-at_ok _ c.in_ok-numbers.ensures.ok c.find_bucket.ensures.found clean)), same_tables old new (on_ok _ c.in_ok-numbers.ensures.ok c.find_bucket.ensures.reads.same clean.intact))
