use Rattle.std.proofs.Common.{rules, ◌≡◌, ℕ, find, Option, None, Err, sym, ap, ◌∙◌, subst}
use Rattle.std.proofs.lemmas.Result.{err_from_is_err_and}
use Rattle.bh_base.specs.Connections.{state}
use Rattle.bh_types.specs.declared.id.VersionId.{VersionId}
use Rattle.bh_types.specs.declared.wanted.Wanted.TheVariants.{Named}
use Rattle.bh_model.specs.Operations.{Removed}
use Rattle.bh_tables.specs.Shown.{is_version}
use Rattle.bh_tables.specs.Typed.{Tables}
use Rattle.bh_view.proofs.BucketLemmas.{row_of}
use Rattle.bh_storage.specs.Answers.{removed_answer}
use Rattle.bh_storage.specs.Calls.{Decides}
use Rattle.bh_base.specs.Layer.{IsStateClean}
use Rattle.bh_schema.specs.Rows.{SeenHead, seen_head}
use Rattle.bh_schema.specs.Views.{head_seen}
use Rattle.bh_schema.specs.Working.{tables_at}
use Rattle.bh_schema.specs.Written.{bytes_of_id}
use Rattle.bh_objects.specs.Dates.{past_date_in, with_date}
use Rattle.bh_objects.specs.Writes.{without_entry}
use Rattle.bh_objects.proofs.Sizes.{size_of_head}
use Rattle.bh_objects.proofs.Working.{host_at, still_working}
use Rattle.bh_objects.proofs.Deleting.{Deletes, deletes_read, deletes_failed, marked_object}
use Rattle.bh_objects.proofs.deletes.delete_found.Given as given
use Rattle.bh_objects.proofs.deletes.delete_found.Goals as goal

done : (g : given.Over) (c : goal.After-is_marker g) → IsStateClean (state g.S.Store g.P.Shelf c.drop_dated.new.connection)
    → Deletes c.args.tenant.now c.args.bucket.now c.args.key.now c.args.at (Named c.args.id) (Removed c.told_id.result c.is_marker.result) (tables_at (state g.S.Store g.P.Shelf c.args.connection.now)) (tables_at (state g.S.Store g.P.Shelf c.drop_dated.new.connection))
done g c clean =
    let t = c.args.tenant.now in
    let b = c.args.bucket.now in
    let k = c.args.key.now in
    let n = c.args.number in
    let first = state g.S.Store g.P.Shelf c.args.connection.now in
    let old = tables_at first in
    let middle = tables_at (state g.S.Store g.P.Shelf c.past_date.new.connection) in
    let new = tables_at (state g.S.Store g.P.Shelf c.drop_dated.new.connection) in
    let clean_middle = c.in_ok-drop_dated.ensures.changes.within.follows.clean clean in
    let clean_old = c.in_ok-date.ensures.works.within.follows.clean clean_middle in
    let one = c.in_ok-date.ensures.decides clean_middle in
    let row = row_of seen_head (find (is_version t b k n) old.versions) (head_seen c.args.head.now) (sym (c.requires.found clean_old)) in
    let seq : c.as_replaced-entry.result.seq ≡ row.0.seq = c.as_replaced-entry.ensures.seq ∙ ap (λ (x : SeenHead). x.seq) (sym row.2) in
    subst (λ (id : Option VersionId). Deletes t b k c.args.at (Named c.args.id) (Removed id c.is_marker.result) old new) (sym c.told_id.ensures)
    (deletes_read old new t b k c.args.at (host_at first (c.requires.working clean_old)) c.args.mode (c.requires.state clean_old) c.args.id n c.requires.number row.0 row.1 c.in_ok-date.date
    (ap (λ (x : SeenHead). past_date_in t x.seq c.args.at old) row.2 ∙ one.0) c.is_marker.result (c.is_marker.ensures ∙ marked_object row.0 c.args.head.now.marker (ap (λ (x : SeenHead). x.marker) (sym row.2)))
    ((c.in_ok-drop_dated.ensures.changes.holds clean).is ∙ ap (λ (m : ℕ). without_entry t b k n m (with_date t m c.in_ok-date.date None middle)) seq
    ∙ ap (λ (x : Tables). without_entry t b k n row.0.seq (with_date t row.0.seq c.in_ok-date.date None x)) one.1))

pub returns-clause-works : goal.returns-clause-works
returns-clause-works g c = record {
  within = search rules;
  opens = search rules;
  working = λ clean.
      let it = done g c clean in
      still_working (state g.S.Store g.P.Shelf c.args.connection.now) (state g.S.Store g.P.Shelf c.drop_dated.new.connection) (c.in_ok-drop_dated.ensures.changes.holds clean).within it.0.1 it.1 it.0.2 it.2;
}

pub returns-clause-carries : goal.returns-clause-carries
returns-clause-carries g c clean = (done g c clean).0.0

pub returns-in_err-date-clause-carries : goal.returns-in_err-date-clause-carries
returns-in_err-date-clause-carries g c clean =
    let p = err_from_is_err_and c.from_residual.result c.from_residual.ensures.1 in
    let t = c.args.tenant.now in
    let b = c.args.bucket.now in
    let k = c.args.key.now in
    let n = c.args.number in
    let first = state g.S.Store g.P.Shelf c.args.connection.now in
    let old = tables_at first in
    let new = tables_at (state g.S.Store g.P.Shelf c.past_date.new.connection) in
    let clean_old = c.in_err-date.ensures.works.within.follows.clean clean in
    let row = row_of seen_head (find (is_version t b k n) old.versions) (head_seen c.args.head.now) (sym (c.requires.found clean_old)) in
    rw (p.1, p.2) (deletes_failed old new t b k c.args.at (host_at first (c.requires.working clean_old)) c.args.mode (c.requires.state clean_old) c.args.id n c.requires.number row.0 row.1 (λ date. date) removed_answer c.in_err-date.field-0.0
    (subst (λ (x : SeenHead). Decides (λ (date : Option ℕ). date) (past_date_in t x.seq c.args.at old) old new (Err c.in_err-date.field-0.0)) (sym row.2) (c.in_err-date.ensures.decides clean)))

pub drop_dated-requires-clause-inside : goal.drop_dated-requires-clause-inside
drop_dated-requires-clause-inside g c clean = (c.in_ok-date.ensures.works.working clean (λ bytes. bytes)).is.inside

pub drop_dated-requires-clause-held : goal.drop_dated-requires-clause-held
drop_dated-requires-clause-held g c clean =
    let t = c.args.tenant.now in
    let b = c.args.bucket.now in
    let k = c.args.key.now in
    let old = tables_at (state g.S.Store g.P.Shelf c.args.connection.now) in
    ap (bytes_of_id t b k c.args.number) (c.in_ok-date.ensures.decides clean).1 ∙ size_of_head t b k c.args.number old (head_seen c.args.head.now) (c.requires.found (c.in_ok-date.ensures.works.within.follows.clean clean)) ∙ sym c.as_replaced-entry.ensures.size
