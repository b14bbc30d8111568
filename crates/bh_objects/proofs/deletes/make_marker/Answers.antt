use Rattle.std.proofs.Common.{rules, ◌≡◌, true, Some, sym, ap, ◌∙◌, subst}
use Rattle.bh_base.specs.Connections.{state}
use Rattle.bh_types.specs.Counts.{Counts}
use Rattle.bh_types.specs.declared.id.VersionId.{VersionId}
use Rattle.bh_types.specs.declared.wanted.Wanted.TheVariants.{Current}
use Rattle.bh_model.specs.Entries.{new_id}
use Rattle.bh_model.specs.Operations.{Removed, delete_object}
use Rattle.bh_base.specs.Layer.{IsStateClean}
use Rattle.bh_schema.specs.Working.{tables_at}
use Rattle.bh_storage.specs.Calls.{GivesStep}
use Rattle.bh_objects.specs.Writes.{marker_written}
use Rattle.bh_objects.proofs.Working.{host_at, still_working}
use Rattle.bh_objects.proofs.Deleting.{Deletes, marks}
use Rattle.bh_objects.proofs.deletes.make_marker.Given as given
use Rattle.std.proofs.lemmas.Result.{err_from_is_err_and}
use Rattle.bh_storage.specs.Answers.{removed_answer}
use Rattle.bh_objects.specs.declared.reads.Numbers.{Numbers}
use Rattle.bh_objects.proofs.Unfound.{marks_failed}
use Rattle.bh_objects.proofs.deletes.make_marker.Goals as goal

done : (g : given.Over) (c : goal.After-new_id g) → IsStateClean (state g.S.Store g.P.Shelf c.write_marker.new.connection)
    → Deletes c.args.tenant.now c.args.bucket.now c.args.key.now c.args.at Current (Removed (Some (new_id c.args.mode c.in_ok-numbers.numbers.before.version)) true) (tables_at (state g.S.Store g.P.Shelf c.args.connection.now)) (tables_at (state g.S.Store g.P.Shelf c.write_marker.new.connection))
done g c clean =
    let clean_middle = c.in_ok-write_marker.ensures.changes.within.follows.clean clean in
    let clean_old = c.in_ok-numbers.ensures.works.within.follows.clean clean_middle in
    let two = c.in_ok-numbers.ensures.decides clean_middle in
    let before = c.in_ok-numbers.numbers.before in
    let after = c.in_ok-numbers.numbers.after in
    marks (tables_at (state g.S.Store g.P.Shelf c.args.connection.now)) (tables_at (state g.S.Store g.P.Shelf c.write_marker.new.connection)) c.args.tenant.now c.args.bucket.now c.args.key.now c.args.at (host_at (state g.S.Store g.P.Shelf c.args.connection.now) (c.requires.working clean_old))
    c.args.mode before after c.requires.versioned (c.requires.early clean_old) c.in_ok-write_marker.ensures.key (c.requires.state clean_old) two.0
    ((c.in_ok-write_marker.ensures.changes.holds clean).is ∙ ap (marker_written c.args.mode before after c.args.tenant.now c.args.bucket.now c.args.key.now c.args.at) two.1)

pub returns-clause-works : goal.returns-clause-works
returns-clause-works g c = record {
  within = search rules;
  opens = search rules;
  working = λ clean.
      let it = done g c clean in
      still_working (state g.S.Store g.P.Shelf c.args.connection.now) (state g.S.Store g.P.Shelf c.write_marker.new.connection) (c.in_ok-write_marker.ensures.changes.holds clean).within it.0.1 it.1 it.0.2 it.2;
}

pub returns-clause-carries : goal.returns-clause-carries
returns-clause-carries g c clean =
    let told : c.new_id.result ≡ new_id c.args.mode c.in_ok-numbers.numbers.before.version = c.new_id.ensures ∙ ap (λ (x : Counts). new_id c.args.mode x.version) c.before-2.view_is in
    subst (λ (id : VersionId). GivesStep c.args.tenant.now (delete_object c.args.at c.args.bucket.now c.args.key.now Current) (Removed (Some id) true) (tables_at (state g.S.Store g.P.Shelf c.args.connection.now)) (tables_at (state g.S.Store g.P.Shelf c.write_marker.new.connection)))
    (sym told) (done g c clean).0.0

pub write_marker-requires : goal.write_marker-requires
write_marker-requires g c = record { inside = λ clean. (c.in_ok-numbers.ensures.works.working clean (λ bytes. bytes)).is.inside }

pub returns-in_err-numbers-clause-carries : goal.returns-in_err-numbers-clause-carries
returns-in_err-numbers-clause-carries g c clean =
    let p = err_from_is_err_and c.from_residual.result c.from_residual.ensures.1 in
    let clean_old = c.in_err-numbers.ensures.works.within.follows.clean clean in
    rw (p.1, p.2) (marks_failed (λ (n : Numbers). (n.before, n.after)) removed_answer c.args.at c.args.tenant.now c.args.bucket.now c.args.key.now (tables_at (state g.S.Store g.P.Shelf c.args.connection.now)) (tables_at (state g.S.Store g.P.Shelf c.new_numbers.new.connection))
    c.args.mode c.requires.versioned (c.requires.state clean_old) c.in_err-numbers.field-0.0 (c.in_err-numbers.ensures.decides clean))
