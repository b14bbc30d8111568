use Rattle.std.proofs.Common.{rules, map, sym, ap, ◌∙◌}
use Rattle.std.proofs.lemmas.Result.{err_from_is_err_and}
use Rattle.std.specs.String.{string_bytes}
use Rattle.bh_base.specs.Connections.{state}
use Rattle.bh_types.specs.Counts.{Counts}
use Rattle.bh_model.specs.Entries.{new_id}
use Rattle.bh_model.specs.Operations.{Completed, id_told}
use Rattle.bh_model.specs.Shown.{naming_of}
use Rattle.bh_model.specs.Uploads.{complete_upload}
use Rattle.bh_tables.specs.Typed.{Tables, raw}
use Rattle.bh_view.specs.View.{view}
use Rattle.bh_view.proofs.ResolvedLemmas.{tables_resolved}
use Rattle.bh_base.specs.Layer.{standing, IsStateClean}
use Rattle.bh_schema.specs.Working.{tables_at}
use Rattle.bh_objects.specs.Found.{numbers_in}
use Rattle.bh_objects.proofs.Working.{host_at, works_then, unless_then}
use Rattle.bh_uploads.specs.Writes.{version_written}
use Rattle.bh_uploads.proofs.Completing.{Completes, completes}
use Rattle.bh_storage.specs.Answers.{completed_answer}
use Rattle.bh_objects.specs.declared.reads.Numbers.{Numbers}
use Rattle.bh_uploads.specs.declared.complete.Completion.{Completion}
use Rattle.bh_uploads.specs.Found.{joined_content}
use Rattle.bh_uploads.proofs.Unfound.{complete_unfound, numbers_failed}
use Rattle.bh_uploads.proofs.complete.complete_upload.Given as given
use Rattle.bh_uploads.proofs.complete.complete_upload.Goals as goal

done : (g : given.Over) (c : goal.After-drop-found-2 g) → IsStateClean (state g.S.Store g.P.Shelf c.close_upload.new.connection)
    → Completes c.args.upload.now.tenant.now (complete_upload c.args.at c.args.least c.args.upload.now.bucket.now c.args.upload.now.key.now c.args.upload.now.upload (map naming_of c.args.named.now))
    (Completed c.args.upload.now.bucket.now c.args.upload.now.key.now (id_told c.in_ok-found.found.mode (new_id c.in_ok-found.found.mode c.in_ok-numbers.numbers.before.version)) (string_bytes c.in_ok-found.found.joined.checksum))
    (tables_at (state g.S.Store g.P.Shelf c.args.connection.now)) (tables_at (state g.S.Store g.P.Shelf c.close_upload.new.connection))
done g c clean =
    let first = state g.S.Store g.P.Shelf c.args.connection.now in
    let last = state g.S.Store g.P.Shelf c.write_version.new.connection in
    let u = c.args.upload.now in
    let found = c.in_ok-found.found in
    let j = found.joined in
    let before = c.in_ok-numbers.numbers.before in
    let after = c.in_ok-numbers.numbers.after in
    let clean_last = c.in_ok-close_upload.ensures.changes.within.follows.clean clean in
    let clean_second = c.in_ok-write_version.ensures.changes.within.follows.clean clean_last in
    let clean_first = c.in_ok-numbers.ensures.works.within.follows.clean clean_second in
    let clean_old = c.in_ok-found.ensures.works.within.follows.clean clean_first in
    let one = c.in_ok-found.ensures.decides clean_first in
    let two = c.in_ok-numbers.ensures.decides clean_second in
    completes (tables_at first) (tables_at last) (tables_at (state g.S.Store g.P.Shelf c.close_upload.new.connection)) (host_at first (c.requires.working clean_old)) (tables_resolved (raw (standing last).now.trees)) u.tenant.now u.bucket.now u.key.now u.upload (map naming_of c.args.named.now)
    c.args.least c.args.at (c.requires.early clean_old) c.in_ok-write_version.ensures.key found.number j.size (string_bytes j.checksum) j.bodies.items found.bodies.items (c.in_ok-found.ensures.size clean_first) (c.in_ok-found.ensures.bodies clean_first) after
    (rw c.deref.ensures.value at (c.in_ok-close_upload.ensures.changes.holds clean).is)
    found.mode before one.0 (ap (λ (x : Tables). numbers_in found.mode (view x u.tenant.now)) (sym one.1) ∙ two.0)
    ((c.in_ok-write_version.ensures.changes.holds clean_last).is ∙ ap (version_written found.mode before after u.tenant.now u.bucket.now u.key.now c.args.at j.size (string_bytes j.checksum) j.bodies.items) (two.1 ∙ one.1))

pub returns-clause-works : goal.returns-clause-works
returns-clause-works g c = record {
  within = search rules;
  opens = search rules;
  working = λ clean.
      let it = done g c clean in
      λ digest. record { is = record { inside = (c.in_ok-close_upload.ensures.changes.holds clean).within; sound = it.sound; bodies = it.bodies }; limits = it.limits; digests = it.digests digest };
}

pub returns-clause-carries : goal.returns-clause-carries
returns-clause-carries g c clean =
    let u = c.args.upload.now in
    let found = c.in_ok-found.found in
    let told = c.in_ok-completed.ensures ∙ ap (λ (x : Counts). Completed u.bucket.now u.key.now (id_told found.mode (new_id found.mode x.version)) (string_bytes found.joined.checksum)) c.before-2.view_is in
    rw told (done g c clean).step

pub new_numbers-requires : goal.new_numbers-requires
new_numbers-requires g c clean = (c.in_ok-found.ensures.works.working clean (λ bytes. bytes)).is

pub write_version-requires : goal.write_version-requires
write_version-requires g c clean = (c.in_ok-numbers.ensures.works.working clean (λ bytes. bytes)).is.inside

pub returns-in_err-numbers-clause-works : goal.returns-in_err-numbers-clause-works
returns-in_err-numbers-clause-works g c = record {
  within = search rules;
  opens = search rules;
  working =
      let p = err_from_is_err_and c.from_residual-in_err-numbers.result c.from_residual-in_err-numbers.ensures.1 in
      rw (p.1, p.2) (unless_then _ _ c.in_err-numbers.field-0.0
      (λ still clean. works_then (state g.S.Store g.P.Shelf c.args.connection.now) (state g.S.Store g.P.Shelf c.completion_plan.new.connection) (state g.S.Store g.P.Shelf c.new_numbers.new.connection) (c.in_ok-found.ensures.works.working (c.in_err-numbers.ensures.works.within.follows.clean clean)) (still clean)) c.in_err-numbers.ensures.works.working);
}

pub returns-in_err-found-clause-carries : goal.returns-in_err-found-clause-carries
returns-in_err-found-clause-carries g c clean =
    let p = err_from_is_err_and c.from_residual.result c.from_residual.ensures.1 in
    let u = c.args.upload.now in
    let first = state g.S.Store g.P.Shelf c.args.connection.now in
    rw (p.1, p.2) (complete_unfound c.args.at c.args.least u.bucket.now u.key.now u.upload (map naming_of c.args.named.now) (λ (c : Completion). (c.mode, c.number, joined_content u.tenant.now (tables_at first) c.joined)) completed_answer u.tenant.now
    (tables_at first) (tables_at (state g.S.Store g.P.Shelf c.completion_plan.new.connection)) c.in_err-found.field-0.0 (c.in_err-found.ensures.decides clean))

pub returns-in_err-numbers-clause-carries : goal.returns-in_err-numbers-clause-carries
returns-in_err-numbers-clause-carries g c clean =
    let p = err_from_is_err_and c.from_residual-in_err-numbers.result c.from_residual-in_err-numbers.ensures.1 in
    let u = c.args.upload.now in
    let found = c.in_ok-found.found in
    let first = state g.S.Store g.P.Shelf c.args.connection.now in
    let one = c.in_ok-found.ensures.decides (c.in_err-numbers.ensures.works.within.follows.clean clean) in
    rw (p.1, p.2) (numbers_failed c.args.at c.args.least u.bucket.now u.key.now u.upload (map naming_of c.args.named.now) (λ (n : Numbers). (n.before, n.after)) completed_answer u.tenant.now
    (tables_at first) (tables_at (state g.S.Store g.P.Shelf c.completion_plan.new.connection)) (tables_at (state g.S.Store g.P.Shelf c.new_numbers.new.connection)) one.1 found.mode found.number (joined_content u.tenant.now (tables_at first) found.joined) one.0
    c.in_err-numbers.field-0.0 (c.in_err-numbers.ensures.decides clean))
