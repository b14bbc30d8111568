use Rattle.std.proofs.Common.{rules, ◌∙◌}
use Rattle.std.proofs.lemmas.Result.{err_from_is_err_and}
use Rattle.bh_base.specs.Connections.{state}
use Rattle.bh_schema.specs.Working.{tables_at}
use Rattle.bh_objects.proofs.Dated.{present_then}
use Rattle.bh_objects.proofs.Working.{same_tables, asked_inside, asked_again, any_unless}
use Rattle.bh_objects.proofs.dates.present_date.Goals as goal

pub version_date-requires : goal.version_date-requires
version_date-requires g c = asked_inside (state g.S.Store g.P.Shelf c.args.connection.now) (state g.S.Store g.P.Shelf c.bucket_locked.new.connection) (λ clean. (c.requires.working clean).inside) c.in_ok-locked.ensures.reads.within c.in_ok-locked.ensures.reads.same

pub returns-clause-works : goal.returns-clause-works
returns-clause-works g c = record {
  within = search rules;
  opens = search rules;
  working =
      asked_again (state g.S.Store g.P.Shelf c.args.connection.now) (state g.S.Store g.P.Shelf c.bucket_locked.new.connection) (state g.S.Store g.P.Shelf c.version_date.new.connection) c.requires.working
      c.in_ok-locked.ensures.reads.within c.in_ok-locked.ensures.reads.same c.in_ok-present.ensures.reads.within c.in_ok-present.ensures.reads.same;
}

pub returns-clause-decides : goal.returns-clause-decides
returns-clause-decides g c clean =
    let first = state g.S.Store g.P.Shelf c.args.connection.now in
    let second = state g.S.Store g.P.Shelf c.bucket_locked.new.connection in
    let clean_second = c.in_ok-present.ensures.reads.within.follows.clean clean in
    let one = same_tables first second (c.in_ok-locked.ensures.reads.same clean_second.intact) in
    let two = same_tables second (state g.S.Store g.P.Shelf c.version_date.new.connection) (c.in_ok-present.ensures.reads.same clean.intact) in (
      present_then (tables_at first) c.args.tenant.now c.args.bucket.now c.args.head.now.id c.args.head.now.seq c.args.until c.args.at (tables_at second) c.in_ok-locked.locked c.can_retain-able.result c.in_ok-present.present c.require_later.result
          (c.in_ok-locked.ensures.found clean_second) one (c.in_ok-present.ensures.found clean) c.can_retain-able.ensures c.require_later.ensures ∙ c.in_ok-require_later.was,
      two ∙ one,
    )

pub returns-in_err-require_later-clause-works : goal.returns-in_err-require_later-clause-works
returns-in_err-require_later-clause-works g c = record {
  within = search rules;
  opens = search rules;
  working = any_unless c.from_residual-in_err-require_later.result _
      (asked_again (state g.S.Store g.P.Shelf c.args.connection.now) (state g.S.Store g.P.Shelf c.bucket_locked.new.connection) (state g.S.Store g.P.Shelf c.version_date.new.connection) c.requires.working
      c.in_ok-locked.ensures.reads.within c.in_ok-locked.ensures.reads.same c.in_ok-present.ensures.reads.within c.in_ok-present.ensures.reads.same);
}

pub returns-in_err-require_later-clause-decides : goal.returns-in_err-require_later-clause-decides
returns-in_err-require_later-clause-decides g c clean =
    let first = state g.S.Store g.P.Shelf c.args.connection.now in
    let second = state g.S.Store g.P.Shelf c.bucket_locked.new.connection in
    let clean_second = c.in_ok-present.ensures.reads.within.follows.clean clean in
    let one = same_tables first second (c.in_ok-locked.ensures.reads.same clean_second.intact) in
    let two = same_tables second (state g.S.Store g.P.Shelf c.version_date.new.connection) (c.in_ok-present.ensures.reads.same clean.intact) in
    let p = err_from_is_err_and c.from_residual-in_err-require_later.result c.from_residual-in_err-require_later.ensures.1 in
    rw (p.1, p.2) (
      present_then (tables_at first) c.args.tenant.now c.args.bucket.now c.args.head.now.id c.args.head.now.seq c.args.until c.args.at (tables_at second) c.in_ok-locked.locked c.can_retain-able.result c.in_ok-present.present c.require_later.result
          (c.in_ok-locked.ensures.found clean_second) one (c.in_ok-present.ensures.found clean) c.can_retain-able.ensures c.require_later.ensures ∙ c.in_err-require_later.was,
      two ∙ one,
    )
