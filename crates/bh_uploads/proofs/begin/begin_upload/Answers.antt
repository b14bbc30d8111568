use Rattle.std.proofs.Common.{rules, ◌≡◌, ℕ, sym, ap, ◌∙◌}
use Rattle.std.proofs.lemmas.Result.{err_from_is_err_and}
use Rattle.bh_base.specs.Connections.{state}
use Rattle.bh_tables.specs.Typed.{Tables}
use Rattle.bh_view.specs.View.{view}
use Rattle.bh_base.specs.Layer.{IsStateClean}
use Rattle.bh_schema.specs.Working.{tables_at}
use Rattle.bh_objects.proofs.Working.{works_then, unless_then, still_working}
use Rattle.bh_uploads.specs.Found.{next_upload_in}
use Rattle.bh_uploads.specs.Writes.{upload_written}
use Rattle.bh_uploads.proofs.Beginning.{Begins, begins, begun_bodies, number_failed}
use Rattle.bh_storage.specs.Answers.{begun_answer}
use Rattle.bh_uploads.proofs.begin.begin_upload.Given as given
use Rattle.bh_uploads.proofs.begin.begin_upload.Goals as goal

-- the tables that were written, in the words of those before
wrote : (g : given.Over) (c : goal.In_ok-begun g) → IsStateClean (state g.S.Store g.P.Shelf c.write_upload.new.connection)
    → tables_at (state g.S.Store g.P.Shelf c.write_upload.new.connection) ≡ upload_written c.args.upload.now.tenant.now c.args.upload.now.bucket.now c.args.upload.now.key.now c.args.upload.now.at c.in_ok-number.number (tables_at (state g.S.Store g.P.Shelf c.args.connection.now))
wrote g c clean =
    let u = c.args.upload.now in
    let clean_middle = c.in_ok-write_upload.ensures.changes.within.follows.clean clean in
    let clean_first = c.in_ok-number.ensures.works.within.follows.clean clean_middle in
    (c.in_ok-write_upload.ensures.changes.holds clean).is ∙ ap (upload_written u.tenant.now u.bucket.now u.key.now u.at c.in_ok-number.number) ((c.in_ok-number.ensures.decides clean_middle).1 ∙ (c.in_ok-days.ensures.decides clean_first).1)

done : (g : given.Over) (c : goal.In_ok-begun g) → IsStateClean (state g.S.Store g.P.Shelf c.write_upload.new.connection)
    → Begins (tables_at (state g.S.Store g.P.Shelf c.args.connection.now)) (tables_at (state g.S.Store g.P.Shelf c.write_upload.new.connection)) c.args.upload.now.tenant.now c.args.upload.now.bucket.now c.args.upload.now.key.now c.args.upload.now.at c.in_ok-days.days c.in_ok-number.number
done g c clean =
    let u = c.args.upload.now in
    let clean_middle = c.in_ok-write_upload.ensures.changes.within.follows.clean clean in
    let clean_first = c.in_ok-number.ensures.works.within.follows.clean clean_middle in
    let clean_old = c.in_ok-days.ensures.works.within.follows.clean clean_first in
    let one = c.in_ok-days.ensures.decides clean_first in
    let two = c.in_ok-number.ensures.decides clean_middle in
    begins (tables_at (state g.S.Store g.P.Shelf c.args.connection.now)) (tables_at (state g.S.Store g.P.Shelf c.write_upload.new.connection)) u.tenant.now u.bucket.now u.key.now u.at (c.requires.working clean_old).sound (c.requires.early clean_old) c.in_ok-write_upload.ensures.key
    _ one.0 c.in_ok-number.number (ap (λ (x : Tables). next_upload_in (view x u.tenant.now)) (sym one.1) ∙ two.0) (wrote g c clean)

pub returns-clause-works : goal.returns-clause-works
returns-clause-works g c = record {
  within = search rules;
  opens = search rules;
  working = λ clean.
      let old = state g.S.Store g.P.Shelf c.args.connection.now in
      let new = state g.S.Store g.P.Shelf c.write_upload.new.connection in
      let it = done g c clean in
      let clean_old = c.in_ok-days.ensures.works.within.follows.clean (c.in_ok-number.ensures.works.within.follows.clean (c.in_ok-write_upload.ensures.changes.within.follows.clean clean)) in
      still_working old new (c.in_ok-write_upload.ensures.changes.holds clean).within it.1 (begun_bodies (tables_at old) (tables_at new) _ _ _ _ _ (wrote g c clean) (c.requires.working clean_old).bodies) it.2 (ap (λ (x : Tables). x.blocks) (wrote g c clean));
}

pub returns-clause-carries : goal.returns-clause-carries
returns-clause-carries g c clean = rw c.in_ok-begun.ensures (done g c clean).0

pub next_upload-requires : goal.next_upload-requires
next_upload-requires g c clean = (c.in_ok-days.ensures.works.working clean (λ bytes. bytes)).is

pub write_upload-requires-clause-inside : goal.write_upload-requires-clause-inside
write_upload-requires-clause-inside g c clean = (c.in_ok-number.ensures.works.working clean (λ bytes. bytes)).is.inside

pub returns-in_err-number-clause-works : goal.returns-in_err-number-clause-works
returns-in_err-number-clause-works g c = record {
  within = search rules;
  opens = search rules;
  working =
      let p = err_from_is_err_and c.from_residual-in_err-number.result c.from_residual-in_err-number.ensures.1 in
      rw (p.1, p.2) (unless_then _ _ c.in_err-number.field-0.0
      (λ still clean. works_then (state g.S.Store g.P.Shelf c.args.connection.now) (state g.S.Store g.P.Shelf c.bucket_rule.new.connection) (state g.S.Store g.P.Shelf c.next_upload.new.connection) (c.in_ok-days.ensures.works.working (c.in_err-number.ensures.works.within.follows.clean clean)) (still clean)) c.in_err-number.ensures.works.working);
}

pub returns-in_err-number-clause-carries : goal.returns-in_err-number-clause-carries
returns-in_err-number-clause-carries g c clean =
    let p = err_from_is_err_and c.from_residual-in_err-number.result c.from_residual-in_err-number.ensures.1 in
    let u = c.args.upload.now in
    let one = c.in_ok-days.ensures.decides (c.in_err-number.ensures.works.within.follows.clean clean) in
    rw (p.1, p.2) (number_failed begun_answer u.at u.tenant.now u.bucket.now u.key.now (tables_at (state g.S.Store g.P.Shelf c.args.connection.now)) (tables_at (state g.S.Store g.P.Shelf c.next_upload.new.connection))
    (λ (n : ℕ). n) c.in_ok-days.days one.0 (tables_at (state g.S.Store g.P.Shelf c.bucket_rule.new.connection)) one.1 c.in_err-number.field-0.0 (c.in_err-number.ensures.decides clean))
