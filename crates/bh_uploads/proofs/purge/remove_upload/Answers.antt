use Rattle.std.proofs.Common.{rules, ap, ◌∙◌, subst}
use Rattle.bh_base.specs.Connections.{state}
use Rattle.bh_tables.specs.Typed.{Tables}
use Rattle.bh_base.specs.Layer.{IsStateClean}
use Rattle.bh_schema.specs.Working.{tables_at}
use Rattle.bh_view.specs.Grouped.{same_number}
use Rattle.bh_objects.proofs.Working.{host_at, same_tables, asked_working, still_working}
use Rattle.bh_uploads.specs.Writes.{upload_closed}
use Rattle.bh_uploads.proofs.Gone.{IsGone, closed_gone}
use Rattle.bh_uploads.proofs.purge.remove_upload.Given as given
use Rattle.bh_uploads.proofs.purge.remove_upload.Goals as goal

gone : (g : given.Over) (c : goal.After-drop-list-3 g) → IsStateClean (state g.S.Store g.P.Shelf c.close_upload.new.connection)
    → IsGone c.args.tenant.now (λ m. same_number m c.args.number) (tables_at (state g.S.Store g.P.Shelf c.args.connection.now)) (tables_at (state g.S.Store g.P.Shelf c.close_upload.new.connection))
gone g c clean =
    let old = state g.S.Store g.P.Shelf c.args.connection.now in
    let t = c.args.tenant.now in
    let n = c.in_ok-number.number in
    let clean_list = c.in_ok-close_upload.ensures.changes.within.follows.clean clean in
    let clean_old = c.in_ok-list.ensures.reads.within.follows.clean clean_list in
    let same = same_tables old (state g.S.Store g.P.Shelf c.upload_parts.new.connection) (c.in_ok-list.ensures.reads.same clean_list.intact) in
    subst (λ k. IsGone t (λ m. same_number m k) (tables_at old) (tables_at (state g.S.Store g.P.Shelf c.close_upload.new.connection))) c.in_ok-number.ensures.same
    (closed_gone (tables_at old) (tables_at (state g.S.Store g.P.Shelf c.close_upload.new.connection)) (host_at old (c.requires clean_old)) t n c.in_ok-list.list.bodies.items ((c.in_ok-list.ensures.parts clean_list).bodies)
    ((rw c.deref.ensures.value at (c.in_ok-close_upload.ensures.changes.holds clean).is) ∙ ap (upload_closed t n c.in_ok-list.list.bodies.items) same))

pub returns-clause-works : goal.returns-clause-works
returns-clause-works g c = record {
  within = search rules;
  opens = search rules;
  working = λ clean.
      let it = gone g c clean in
      still_working (state g.S.Store g.P.Shelf c.args.connection.now) (state g.S.Store g.P.Shelf c.close_upload.new.connection) (c.in_ok-close_upload.ensures.changes.holds clean).within it.sound it.bodies it.limits (ap (λ (x : Tables). x.blocks) it.is);
}

pub returns-clause-removed : goal.returns-clause-removed
returns-clause-removed g c clean = (gone g c clean).is

pub upload_parts-requires-clause-inside : goal.upload_parts-requires-clause-inside
upload_parts-requires-clause-inside g c clean = (c.requires clean).inside

pub close_upload-requires-clause-inside : goal.close_upload-requires-clause-inside
close_upload-requires-clause-inside g c clean =
    (asked_working (state g.S.Store g.P.Shelf c.args.connection.now) (state g.S.Store g.P.Shelf c.upload_parts.new.connection) c.requires c.in_ok-list.ensures.reads.within c.in_ok-list.ensures.reads.same clean (λ bytes. bytes)).is.inside
