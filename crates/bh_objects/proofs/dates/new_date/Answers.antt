use Rattle.std.proofs.Common.{rules, refl, sym, ap, ◌∙◌}
use Rattle.std.proofs.lemmas.Result.{err_from_is_err_and}
use Rattle.bh_base.specs.Connections.{state}
use Rattle.bh_schema.specs.Working.{tables_at}
use Rattle.bh_objects.specs.Dates.{new_date_at}
use Rattle.bh_objects.proofs.Dated.{first_of}
use Rattle.bh_objects.proofs.Working.{no_call, same_tables, asked_working, any_unless}
use Rattle.bh_objects.proofs.dates.new_date.Goals as goal

pub returns-in-None-clause-works : goal.returns-in-None-clause-works
returns-in-None-clause-works g c = record {
  within = search rules;
  opens = search rules;
  working =
      let s = state g.S.Store g.P.Shelf c.args.connection.now in
      asked_working s s c.requires.working (no_call s (λ clean. (c.requires.working clean).inside)) (λ intact. refl);
}

pub returns-in_ok-first_date-in-Some-clause-works : goal.returns-in_ok-first_date-in-Some-clause-works
returns-in_ok-first_date-in-Some-clause-works g c = record {
  within = search rules;
  opens = search rules;
  working = asked_working (state g.S.Store g.P.Shelf c.args.connection.now) (state g.S.Store g.P.Shelf c.bucket_locked.new.connection) c.requires.working c.in_ok-locked-in-Some.ensures.reads.within c.in_ok-locked-in-Some.ensures.reads.same;
}

pub returns-in_ok-first_date-in-Some-clause-decides : goal.returns-in_ok-first_date-in-Some-clause-decides
returns-in_ok-first_date-in-Some-clause-decides g c clean =
    let old = state g.S.Store g.P.Shelf c.args.connection.now in (
      ap (λ given. new_date_at c.args.tenant.now c.args.bucket.now given c.args.at (tables_at old)) c.in-Some.is
          ∙ first_of (tables_at old) c.args.tenant.now c.args.bucket.now c.in_ok-locked-in-Some.locked c.in-Some.date c.args.at (c.in_ok-locked-in-Some.ensures.found clean) ∙ sym c.first_date.ensures ∙ c.in_ok-first_date-in-Some.was,
      same_tables old (state g.S.Store g.P.Shelf c.bucket_locked.new.connection) (c.in_ok-locked-in-Some.ensures.reads.same clean.intact),
    )

pub returns-in_err-first_date-in-Some-clause-works : goal.returns-in_err-first_date-in-Some-clause-works
returns-in_err-first_date-in-Some-clause-works g c = record {
  within = search rules;
  opens = search rules;
  working = any_unless c.from_residual-in_err-first_date-in-Some.result _
      (asked_working (state g.S.Store g.P.Shelf c.args.connection.now) (state g.S.Store g.P.Shelf c.bucket_locked.new.connection) c.requires.working c.in_ok-locked-in-Some.ensures.reads.within c.in_ok-locked-in-Some.ensures.reads.same);
}

pub returns-in_err-first_date-in-Some-clause-decides : goal.returns-in_err-first_date-in-Some-clause-decides
returns-in_err-first_date-in-Some-clause-decides g c clean =
    let old = state g.S.Store g.P.Shelf c.args.connection.now in
    let p = err_from_is_err_and c.from_residual-in_err-first_date-in-Some.result c.from_residual-in_err-first_date-in-Some.ensures.1 in
    rw (p.1, p.2) (
      ap (λ given. new_date_at c.args.tenant.now c.args.bucket.now given c.args.at (tables_at old)) c.in-Some.is
          ∙ first_of (tables_at old) c.args.tenant.now c.args.bucket.now c.in_ok-locked-in-Some.locked c.in-Some.date c.args.at (c.in_ok-locked-in-Some.ensures.found clean) ∙ sym c.first_date.ensures ∙ c.in_err-first_date-in-Some.was,
      same_tables old (state g.S.Store g.P.Shelf c.bucket_locked.new.connection) (c.in_ok-locked-in-Some.ensures.reads.same clean.intact),
    )
