use Rattle.std.proofs.Common.{◌+◌, ◌∙◌}
use Rattle.std.proofs.lemmas.Result.{err_from_is_err_and}
use Rattle.bh_base.specs.Connections.{state}
use Rattle.bh_schema.specs.Working.{tables_at}
use Rattle.bh_objects.proofs.Working.{same_tables, asked_working, works_on, works_then}
use Rattle.bh_docs.specs.Pages.{parts_view}
use Rattle.bh_model.specs.Operations.{Parts}
use Rattle.bh_upload_listing.proofs.PartsViewed.{list_is, list_step, one_more}
use Rattle.bh_upload_listing.proofs.Refusing.{parts_failed}
use Rattle.bh_upload_listing.proofs.parts.list_parts.Goals as goal

pub returns-clause-carries : goal.returns-clause-carries
returns-clause-carries g c clean =
    let old = state g.S.Store g.P.Shelf c.args.connection.now in
    let middle = state g.S.Store g.P.Shelf c.found_upload.new.connection in
    let new = state g.S.Store g.P.Shelf c.part_lines.new.connection in
    let u = c.args.upload.now in
    let before = c.in_ok-lines.ensures.reads.within.follows.clean clean in
    let one = c.in_ok-found.ensures.decides before in
    list_step (tables_at old) (tables_at new) u.tenant.now u.bucket.now u.key.now u.upload c.args.asked.max c.args.asked.after (parts_view c.in_ok-told_parts.field-0)
    (list_is (tables_at old) u.tenant.now (c.requires.working (c.in_ok-found.ensures.works.within.follows.clean before)).sound u.bucket.now u.key.now u.upload c.in_ok-found.found.mode c.in_ok-found.found.number one.0 c.args.asked.max c.args.asked.after (c.from.result + 1) (one_more c.from.result c.args.asked.max c.from.ensures)
    c.in_ok-lines.lines.items c.deref.result.now c.deref.ensures.value c.as_str.result.now (tables_at middle) c.as_str.ensures.value one.1 (c.in_ok-lines.ensures.lines clean) (parts_view c.in_ok-told_parts.field-0) c.in_ok-told_parts.ensures)
    (same_tables middle new (c.in_ok-lines.ensures.reads.same clean.intact) ∙ one.1)

pub part_lines-requires-clause-inside : goal.part_lines-requires-clause-inside
part_lines-requires-clause-inside g c clean = (c.in_ok-found.ensures.works.working clean (λ bytes. bytes)).is.inside

pub returns-clause-working : goal.returns-clause-working
returns-clause-working g c clean =
    let old = state g.S.Store g.P.Shelf c.args.connection.now in
    let middle = state g.S.Store g.P.Shelf c.found_upload.new.connection in
    let new = state g.S.Store g.P.Shelf c.part_lines.new.connection in
    works_then old middle new (c.in_ok-found.ensures.works.working (c.in_ok-lines.ensures.reads.within.follows.clean clean))
    (asked_working middle new (λ up. works_on old middle (c.in_ok-found.ensures.works.working up)) c.in_ok-lines.ensures.reads.within c.in_ok-lines.ensures.reads.same clean)

pub returns-in_err-found-clause-carries : goal.returns-in_err-found-clause-carries
returns-in_err-found-clause-carries g c clean =
    let p = err_from_is_err_and c.from_residual.result c.from_residual.ensures.1 in
    let old = tables_at (state g.S.Store g.P.Shelf c.args.connection.now) in
    let new = tables_at (state g.S.Store g.P.Shelf c.found_upload.new.connection) in
    let u = c.args.upload.now in
    rw (p.1, p.2) (parts_failed (λ page. Parts (parts_view page)) u.tenant.now u.bucket.now old new u.key.now u.upload c.args.asked.max c.args.asked.after c.in_err-found.field-0.0 (c.in_err-found.ensures.decides clean))
