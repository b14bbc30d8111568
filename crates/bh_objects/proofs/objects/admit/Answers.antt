use Rattle.std.proofs.Common.{rules, ℕ, Option, is_ok, sym, ap, ◌∙◌}
use Rattle.std.proofs.lemmas.Result.{err_from_is_err_and}
use Rattle.bh_base.specs.Connections.{state}
use Rattle.bh_tables.specs.Typed.{Tables}
use Rattle.bh_view.specs.View.{view}
use Rattle.bh_schema.specs.Working.{tables_at}
use Rattle.bh_objects.specs.Admitting.{numbers_admitted}
use Rattle.bh_objects.specs.Found.{mode_in, entry_numbers_in}
use Rattle.bh_objects.specs.declared.quotas.NewEntry.{NewEntry}
use Rattle.bh_objects.proofs.Working.{works_then, unless_then}
use Rattle.bh_objects.proofs.Dating.{new_date_read}
use Rattle.bh_objects.proofs.Receiving.{admitted, unadmitted_by, unadmitted_entry}
use Rattle.bh_objects.proofs.objects.admit.Goals as goal

pub new_entry-requires-clause-working : goal.new_entry-requires-clause-working
new_entry-requires-clause-working g c clean = (c.in_ok-until.ensures.works.working clean (λ bytes. bytes)).is

pub new_entry-requires-clause-there : goal.new_entry-requires-clause-there
new_entry-requires-clause-there g c clean =
    ap (λ (x : Tables). mode_in c.args.object.now.bucket.now (view x c.args.object.now.tenant.now)) (c.in_ok-until.ensures.decides clean).1 ∙ c.requires.mode (c.in_ok-until.ensures.works.within.follows.clean clean)

pub returns-in_err-until-clause-decides : goal.returns-in_err-until-clause-decides
returns-in_err-until-clause-decides g c clean =
    let p = err_from_is_err_and c.from_residual.result c.from_residual.ensures.1 in
    let object = c.args.object.now in
    let old = tables_at (state g.S.Store g.P.Shelf c.args.connection.now) in
    let clean_old = c.in_err-until.ensures.works.within.follows.clean clean in
    rw (p.1, p.2) (unadmitted_by (λ (until : Option ℕ). until) numbers_admitted c.args.mode object.tenant.now object.bucket.now object.key.now object.date object.at c.args.size old (tables_at (state g.S.Store g.P.Shelf c.new_date.new.connection))
    (new_date_read old object.tenant.now object.bucket.now (c.requires.working clean_old).sound (ap is_ok (c.requires.mode clean_old)) object.at object.date) c.in_err-until.field-0.0 (c.in_err-until.ensures.decides clean))

pub returns-in_err-entry-clause-works : goal.returns-in_err-entry-clause-works
returns-in_err-entry-clause-works g c = record {
  within = search rules;
  opens = search rules;
  working =
      let p = err_from_is_err_and c.from_residual-in_err-entry.result c.from_residual-in_err-entry.ensures.1 in
      rw (p.1, p.2) (unless_then _ _ c.in_err-entry.field-0.0
      (λ still clean. works_then (state g.S.Store g.P.Shelf c.args.connection.now) (state g.S.Store g.P.Shelf c.new_date.new.connection) (state g.S.Store g.P.Shelf c.new_entry.new.connection) (c.in_ok-until.ensures.works.working (c.in_err-entry.ensures.works.within.follows.clean clean)) (still clean)) c.in_err-entry.ensures.works.working);
}

pub returns-in_err-entry-clause-decides : goal.returns-in_err-entry-clause-decides
returns-in_err-entry-clause-decides g c clean =
    let p = err_from_is_err_and c.from_residual-in_err-entry.result c.from_residual-in_err-entry.ensures.1 in
    let object = c.args.object.now in
    let old = tables_at (state g.S.Store g.P.Shelf c.args.connection.now) in
    let clean_mid = c.in_err-entry.ensures.works.within.follows.clean clean in
    let clean_old = c.in_ok-until.ensures.works.within.follows.clean clean_mid in
    let dated = c.in_ok-until.ensures.decides clean_mid in
    rw (p.1, p.2) (unadmitted_entry (λ (it : NewEntry). (it.numbers.before, it.numbers.after)) numbers_admitted c.args.mode object.tenant.now object.bucket.now object.key.now object.date object.at c.args.size old
    (tables_at (state g.S.Store g.P.Shelf c.new_date.new.connection)) (tables_at (state g.S.Store g.P.Shelf c.new_entry.new.connection)) _
    (new_date_read old object.tenant.now object.bucket.now (c.requires.working clean_old).sound (ap is_ok (c.requires.mode clean_old)) object.at object.date ∙ dated.0) dated.1 c.in_err-entry.field-0.0 (c.in_err-entry.ensures.decides clean))

pub returns-clause-works : goal.returns-clause-works
returns-clause-works g c = record {
  within = search rules;
  opens = search rules;
  working = λ clean. works_then (state g.S.Store g.P.Shelf c.args.connection.now) (state g.S.Store g.P.Shelf c.new_date.new.connection) (state g.S.Store g.P.Shelf c.new_entry.new.connection) (c.in_ok-until.ensures.works.working (c.in_ok-entry.ensures.works.within.follows.clean clean)) (c.in_ok-entry.ensures.works.working clean);
}

pub returns-clause-decides : goal.returns-clause-decides
returns-clause-decides g c clean =
    let object = c.args.object.now in
    let old = tables_at (state g.S.Store g.P.Shelf c.args.connection.now) in
    let clean_mid = c.in_ok-entry.ensures.works.within.follows.clean clean in
    let clean_old = c.in_ok-until.ensures.works.within.follows.clean clean_mid in
    let dated = c.in_ok-until.ensures.decides clean_mid in
    let decided = c.in_ok-entry.ensures.decides clean in (
      admitted c.args.mode object.bucket.now object.key.now object.date object.at c.args.size (view old object.tenant.now) _ _
          (new_date_read old object.tenant.now object.bucket.now (c.requires.working clean_old).sound (ap is_ok (c.requires.mode clean_old)) object.at object.date ∙ dated.0)
          (ap (λ (x : Tables). entry_numbers_in c.args.mode object.bucket.now object.key.now c.args.size (view x object.tenant.now)) (sym dated.1) ∙ decided.0),
      decided.1 ∙ dated.1,
    )
