use Rattle.std.proofs.Common.{rules, ◌≡◌, ◌≤◌, is_ok, length, None, Ok, sym, ap, ◌∙◌, subst}
use Rattle.std.proofs.lemmas.Result.{err_from_is_err_and}
use Rattle.std.specs.String.{string_bytes}
use Rattle.bh_base.specs.Connections.{state}
use Rattle.bh_model.specs.Entries.{new_id}
use Rattle.bh_model.specs.Operations.{Answer, Copied, id_told, copy_object, source_version}
use Rattle.bh_tables.specs.Typed.{Tables}
use Rattle.bh_view.specs.Blocks.{whole}
use Rattle.bh_view.specs.View.{view, latest_of}
use Rattle.bh_storage.specs.Answers.{copied_answer}
use Rattle.bh_storage.specs.Calls.{GivesStep}
use Rattle.bh_base.specs.Layer.{IsStateClean}
use Rattle.bh_schema.specs.Views.{head_seen}
use Rattle.bh_schema.specs.Working.{tables_at}
use Rattle.bh_objects.specs.Copies.{version_read}
use Rattle.bh_objects.specs.Dates.{new_date_at, with_date}
use Rattle.bh_objects.specs.Found.{counts_in, mode_in}
use Rattle.bh_objects.specs.declared.reads.Numbers.{Numbers}
use Rattle.bh_objects.proofs.Working.{works_then, unless_then, dated_still}
use Rattle.bh_objects.proofs.Copying.{bucket_failed, source_failed}
use Rattle.bh_objects.proofs.Dating.{new_date_read, decided_by, dates_alone}
use Rattle.bh_objects.proofs.DatedPuts.{GivesDated, copies_dated, copy_date_failed, copy_store_failed}
use Rattle.bh_objects.proofs.copies.copy_object.Given as given
use Rattle.bh_objects.proofs.copies.copy_object.Goals as goal

done : (g : given.Over) (c : goal.After-result-1 g) → IsStateClean (state g.S.Store g.P.Shelf c.set_date.new.connection)
    → GivesDated c.args.copy.now.tenant.now (copy_object c.args.copy.now.at c.args.copy.now.bucket.now c.args.copy.now.key.now c.args.copy.now.source_bucket.now c.args.copy.now.source_key.now c.args.copy.now.version c.args.copy.now.date)
    (Copied (id_told c.in_ok-mode.mode (new_id c.in_ok-mode.mode c.in_ok-numbers.numbers.before.version)) c.args.copy.now.at (string_bytes c.in_ok-head.head.checksum))
    (tables_at (state g.S.Store g.P.Shelf c.args.connection.now)) (tables_at (state g.S.Store g.P.Shelf c.store_copy.new.connection)) (tables_at (state g.S.Store g.P.Shelf c.set_date.new.connection))
done g c clean =
    let old = tables_at (state g.S.Store g.P.Shelf c.args.connection.now) in
    let asked = tables_at (state g.S.Store g.P.Shelf c.new_date.new.connection) in
    let middle = tables_at (state g.S.Store g.P.Shelf c.store_copy.new.connection) in
    let copy = c.args.copy.now in
    let mode = c.in_ok-mode.mode in
    let head = head_seen c.in_ok-head.head in
    let before = c.in_ok-numbers.numbers.before in
    let clean_stored = c.in_ok-set_date.ensures.changes.within.follows.clean clean in
    let clean_asked = c.in_ok-numbers.ensures.works.within.follows.clean clean_stored in
    let clean_found = c.in_ok-until.ensures.works.within.follows.clean clean_asked in
    let clean_first = c.in_ok-head.ensures.works.within.follows.clean clean_found in
    let clean_old = c.in_ok-mode.ensures.works.within.follows.clean clean_first in
    let one = c.in_ok-mode.ensures.decides clean_first in
    let two = c.in_ok-head.ensures.decides clean_found in
    let three = c.in_ok-until.ensures.decides clean_asked in
    let still : asked ≡ old = three.1 ∙ two.1 ∙ one.1 in
    let told : Answer = Copied (id_told mode (new_id mode before.version)) copy.at (string_bytes c.in_ok-head.head.checksum) in
    let source = subst (λ (x : Tables). source_version copy.source_bucket.now copy.source_key.now copy.version (view x copy.tenant.now) ≡ Ok (version_read copy.tenant.now x head)) one.1 two.0 in
    copies_dated old middle (tables_at (state g.S.Store g.P.Shelf c.set_date.new.connection)) copy.tenant.now copy.bucket.now copy.key.now mode before (c.requires.working clean_old).sound one.0
    (ap (λ (x : Tables). counts_in (view x copy.tenant.now)) (sym still) ∙ c.in_ok-numbers.ensures.counted clean_stored) c.in_ok-until.until
    (c.in_ok-numbers.ensures.works.working clean_stored (λ bytes. bytes)).is.sound (c.in_ok-numbers.ensures.placed clean_stored) ((c.in_ok-set_date.ensures.changes.holds clean).is ∙ ap (λ (n : Numbers). with_date copy.tenant.now n.before.entry None c.in_ok-until.until middle) c.numbers.view_is)
    copy.date copy.at (new_date_read old copy.tenant.now copy.bucket.now (c.requires.working clean_old).sound (ap is_ok one.0) copy.at copy.date ∙ ap (new_date_at copy.tenant.now copy.bucket.now copy.date copy.at) (sym (two.1 ∙ one.1)) ∙ three.0) c.in_ok-set_date.ensures.near
    copy.source_bucket.now copy.source_key.now copy.version (version_read copy.tenant.now old head) told source
    (subst (λ (x : Tables). GivesStep copy.tenant.now (copy_object copy.at copy.bucket.now copy.key.now copy.source_bucket.now copy.source_key.now copy.version None) told x middle) still (c.in_ok-numbers.ensures.carries clean_stored))

pub returns-clause-works : goal.returns-clause-works
returns-clause-works g c = record {
  within = search rules;
  opens = search rules;
  working = λ clean.
      let it = done g c clean in
      let stored = state g.S.Store g.P.Shelf c.store_copy.new.connection in
      let new = state g.S.Store g.P.Shelf c.set_date.new.connection in
      let holds = c.in_ok-set_date.ensures.changes.holds clean in
      let clean_stored = c.in_ok-set_date.ensures.changes.within.follows.clean clean in
      let clean_asked = c.in_ok-numbers.ensures.works.within.follows.clean clean_stored in
      let clean_found = c.in_ok-until.ensures.works.within.follows.clean clean_asked in
      λ digest. dated_still digest (state g.S.Store g.P.Shelf c.args.connection.now) (state g.S.Store g.P.Shelf c.new_date.new.connection) stored new
      ((c.in_ok-until.ensures.decides clean_asked).1 ∙ (c.in_ok-head.ensures.decides clean_found).1 ∙ (c.in_ok-mode.ensures.decides (c.in_ok-head.ensures.works.within.follows.clean clean_found)).1)
      (c.in_ok-numbers.ensures.works.working clean_stored digest) holds.within (dates_alone c.args.copy.now.tenant.now c.in_ok-numbers.numbers.before.entry c.in_ok-until.until (tables_at stored) (tables_at new) (holds.is ∙ ap (λ (n : Numbers). with_date c.args.copy.now.tenant.now n.before.entry None c.in_ok-until.until (tables_at stored)) c.numbers.view_is)) it.1 it.2;
}

pub returns-clause-carries : goal.returns-clause-carries
returns-clause-carries g c clean =
    let mode = c.in_ok-mode.mode in
    rw (c.new_id_told.ensures ∙ ap (λ (n : Numbers). id_told mode (new_id mode n.before.version)) c.numbers.view_is) (done g c clean).0

pub returns-in_err-mode-clause-carries : goal.returns-in_err-mode-clause-carries
returns-in_err-mode-clause-carries g c clean =
    let p = err_from_is_err_and c.from_residual.result c.from_residual.ensures.1 in
    let copy = c.args.copy.now in
    rw (p.1, p.2) (bucket_failed copied_answer copy.at copy.tenant.now copy.bucket.now copy.key.now copy.source_bucket.now copy.source_key.now copy.version
    (tables_at (state g.S.Store g.P.Shelf c.args.connection.now)) (tables_at (state g.S.Store g.P.Shelf c.bucket_state.new.connection)) copy.date (λ mode. mode) c.in_err-mode.field-0.0 (c.in_err-mode.ensures.decides clean))

pub returns-in_err-head-clause-carries : goal.returns-in_err-head-clause-carries
returns-in_err-head-clause-carries g c clean =
    let p = err_from_is_err_and c.from_residual-in_err-head.result c.from_residual-in_err-head.ensures.1 in
    let copy = c.args.copy.now in
    let middle = tables_at (state g.S.Store g.P.Shelf c.bucket_state.new.connection) in
    let one = c.in_ok-mode.ensures.decides (c.in_err-head.ensures.works.within.follows.clean clean) in
    rw (p.1, p.2) (source_failed copied_answer copy.at copy.tenant.now copy.bucket.now copy.key.now copy.source_bucket.now copy.source_key.now copy.version
    (tables_at (state g.S.Store g.P.Shelf c.args.connection.now)) (tables_at (state g.S.Store g.P.Shelf c.source_head.new.connection)) copy.date c.in_ok-mode.mode one.0 middle one.1
    (λ head. version_read copy.tenant.now middle (head_seen head)) c.in_err-head.field-0.0 (c.in_err-head.ensures.decides clean))

pub returns-in_err-until-clause-carries : goal.returns-in_err-until-clause-carries
returns-in_err-until-clause-carries g c clean =
    let p = err_from_is_err_and c.from_residual-in_err-until.result c.from_residual-in_err-until.ensures.1 in
    let copy = c.args.copy.now in
    let clean_found = c.in_err-until.ensures.works.within.follows.clean clean in
    let one = c.in_ok-mode.ensures.decides (c.in_ok-head.ensures.works.within.follows.clean clean_found) in
    let two = c.in_ok-head.ensures.decides clean_found in
    let old = tables_at (state g.S.Store g.P.Shelf c.args.connection.now) in
    rw (p.1, p.2) (copy_date_failed copied_answer copy.at copy.tenant.now copy.bucket.now copy.key.now old (tables_at (state g.S.Store g.P.Shelf c.source_head.new.connection)) (tables_at (state g.S.Store g.P.Shelf c.new_date.new.connection))
    c.in_ok-mode.mode one.0 copy.date (two.1 ∙ one.1) copy.source_bucket.now copy.source_key.now copy.version (version_read copy.tenant.now old (head_seen c.in_ok-head.head))
    (subst (λ (x : Tables). source_version copy.source_bucket.now copy.source_key.now copy.version (view x copy.tenant.now) ≡ Ok (version_read copy.tenant.now x (head_seen c.in_ok-head.head))) one.1 two.0)
    (λ until. until) c.in_err-until.field-0.0 (decided_by (tables_at (state g.S.Store g.P.Shelf c.source_head.new.connection)) (tables_at (state g.S.Store g.P.Shelf c.new_date.new.connection)) old copy.tenant.now copy.bucket.now copy.at copy.date (two.1 ∙ one.1)
    (new_date_read old copy.tenant.now copy.bucket.now (c.requires.working (c.in_ok-mode.ensures.works.within.follows.clean (c.in_ok-head.ensures.works.within.follows.clean clean_found))).sound (ap is_ok one.0) copy.at copy.date)
    c.in_err-until.field-0.0 (c.in_err-until.ensures.decides clean)))

pub returns-in_err-numbers-clause-carries : goal.returns-in_err-numbers-clause-carries
returns-in_err-numbers-clause-carries g c clean =
    let p = err_from_is_err_and c.from_residual-in_err-numbers.result c.from_residual-in_err-numbers.ensures.1 in
    let copy = c.args.copy.now in
    let clean_asked = c.in_err-numbers.ensures.works.within.follows.clean clean in
    let clean_found = c.in_ok-until.ensures.works.within.follows.clean clean_asked in
    let one = c.in_ok-mode.ensures.decides (c.in_ok-head.ensures.works.within.follows.clean clean_found) in
    let two = c.in_ok-head.ensures.decides clean_found in
    let three = c.in_ok-until.ensures.decides clean_asked in
    let old = tables_at (state g.S.Store g.P.Shelf c.args.connection.now) in
    rw (p.1, p.2) (copy_store_failed copied_answer copy.at copy.tenant.now copy.bucket.now copy.key.now old (tables_at (state g.S.Store g.P.Shelf c.new_date.new.connection)) (tables_at (state g.S.Store g.P.Shelf c.store_copy.new.connection))
    c.in_ok-mode.mode one.0 copy.date (three.1 ∙ two.1 ∙ one.1) copy.source_bucket.now copy.source_key.now copy.version (version_read copy.tenant.now old (head_seen c.in_ok-head.head))
    (subst (λ (x : Tables). source_version copy.source_bucket.now copy.source_key.now copy.version (view x copy.tenant.now) ≡ Ok (version_read copy.tenant.now x (head_seen c.in_ok-head.head))) one.1 two.0)
    (λ (n : Numbers). Copied (id_told c.in_ok-mode.mode (new_id c.in_ok-mode.mode n.before.version)) copy.at (string_bytes c.in_ok-head.head.checksum)) c.in_ok-until.until
    (new_date_read old copy.tenant.now copy.bucket.now (c.requires.working (c.in_ok-mode.ensures.works.within.follows.clean (c.in_ok-head.ensures.works.within.follows.clean clean_found))).sound (ap is_ok one.0) copy.at copy.date
    ∙ ap (new_date_at copy.tenant.now copy.bucket.now copy.date copy.at) (sym (two.1 ∙ one.1)) ∙ three.0) c.in_err-numbers.field-0.0 (c.in_err-numbers.ensures.carries clean))

pub source_head-requires : goal.source_head-requires
source_head-requires g c clean = (c.in_ok-mode.ensures.works.working clean (λ bytes. bytes)).is

pub new_date-requires : goal.new_date-requires
new_date-requires g c = record { working = λ clean. (c.in_ok-head.ensures.works.working clean (λ bytes. bytes)).is }

pub store_copy-requires-clause-working : goal.store_copy-requires-clause-working
store_copy-requires-clause-working g c clean = (c.in_ok-until.ensures.works.working clean (λ bytes. bytes)).is

pub store_copy-requires-clause-early : goal.store_copy-requires-clause-early
store_copy-requires-clause-early g c clean =
    let clean_found = c.in_ok-until.ensures.works.within.follows.clean clean in
    let clean_first = c.in_ok-head.ensures.works.within.follows.clean clean_found in
    subst (λ (x : Tables). c.args.copy.now.at ≤ latest_of x) (sym ((c.in_ok-until.ensures.decides clean).1 ∙ (c.in_ok-head.ensures.decides clean_found).1 ∙ (c.in_ok-mode.ensures.decides clean_first).1)) (c.requires.early (c.in_ok-mode.ensures.works.within.follows.clean clean_first))

pub store_copy-requires-clause-state : goal.store_copy-requires-clause-state
store_copy-requires-clause-state g c clean =
    let clean_found = c.in_ok-until.ensures.works.within.follows.clean clean in
    let one = c.in_ok-mode.ensures.decides (c.in_ok-head.ensures.works.within.follows.clean clean_found) in
    ap (λ (x : Tables). mode_in c.args.copy.now.bucket.now (view x c.args.copy.now.tenant.now)) ((c.in_ok-until.ensures.decides clean).1 ∙ (c.in_ok-head.ensures.decides clean_found).1 ∙ one.1) ∙ one.0

pub store_copy-requires-clause-source : goal.store_copy-requires-clause-source
store_copy-requires-clause-source g c clean =
    let copy = c.args.copy.now in
    let clean_found = c.in_ok-until.ensures.works.within.follows.clean clean in
    subst (λ (x : Tables). source_version copy.source_bucket.now copy.source_key.now copy.version (view x copy.tenant.now) ≡ Ok (version_read copy.tenant.now x (head_seen c.in_ok-head.head)))
    (sym ((c.in_ok-until.ensures.decides clean).1 ∙ (c.in_ok-head.ensures.decides clean_found).1)) (c.in_ok-head.ensures.decides clean_found).0

pub store_copy-requires-clause-sized : goal.store_copy-requires-clause-sized
store_copy-requires-clause-sized g c clean =
    let copy = c.args.copy.now in
    let clean_found = c.in_ok-until.ensures.works.within.follows.clean clean in
    subst (λ (x : Tables). c.in_ok-head.head.size ≡ length (whole x.refs x.blocks (copy.tenant.now, c.in_ok-head.head.seq)))
    (sym ((c.in_ok-until.ensures.decides clean).1 ∙ (c.in_ok-head.ensures.decides clean_found).1)) (c.in_ok-head.ensures.sized clean_found)

pub set_date-requires : goal.set_date-requires
set_date-requires g c = record { inside = λ clean. (c.in_ok-numbers.ensures.works.working clean (λ bytes. bytes)).is.inside }

pub returns-in_err-head-clause-works : goal.returns-in_err-head-clause-works
returns-in_err-head-clause-works g c = record {
  within = search rules;
  opens = search rules;
  working =
      let p = err_from_is_err_and c.from_residual-in_err-head.result c.from_residual-in_err-head.ensures.1 in
      rw (p.1, p.2) (unless_then _ _ c.in_err-head.field-0.0
      (λ still clean. works_then (state g.S.Store g.P.Shelf c.args.connection.now) (state g.S.Store g.P.Shelf c.bucket_state.new.connection) (state g.S.Store g.P.Shelf c.source_head.new.connection) (c.in_ok-mode.ensures.works.working (c.in_err-head.ensures.works.within.follows.clean clean)) (still clean)) c.in_err-head.ensures.works.working);
}

pub returns-in_err-until-clause-works : goal.returns-in_err-until-clause-works
returns-in_err-until-clause-works g c = record {
  within = search rules;
  opens = search rules;
  working =
      let p = err_from_is_err_and c.from_residual-in_err-until.result c.from_residual-in_err-until.ensures.1 in
      rw (p.1, p.2) (unless_then _ _ c.in_err-until.field-0.0
      (λ still clean.
      let clean_found = c.in_err-until.ensures.works.within.follows.clean clean in
      works_then (state g.S.Store g.P.Shelf c.args.connection.now) (state g.S.Store g.P.Shelf c.source_head.new.connection) (state g.S.Store g.P.Shelf c.new_date.new.connection)
      (works_then (state g.S.Store g.P.Shelf c.args.connection.now) (state g.S.Store g.P.Shelf c.bucket_state.new.connection) (state g.S.Store g.P.Shelf c.source_head.new.connection) (c.in_ok-mode.ensures.works.working (c.in_ok-head.ensures.works.within.follows.clean clean_found)) (c.in_ok-head.ensures.works.working clean_found))
      (still clean)) c.in_err-until.ensures.works.working);
}

pub returns-in_err-numbers-clause-works : goal.returns-in_err-numbers-clause-works
returns-in_err-numbers-clause-works g c = record {
  within = search rules;
  opens = search rules;
  working =
      let p = err_from_is_err_and c.from_residual-in_err-numbers.result c.from_residual-in_err-numbers.ensures.1 in
      rw (p.1, p.2) (unless_then _ _ c.in_err-numbers.field-0.0
      (λ still clean.
      let clean_asked = c.in_err-numbers.ensures.works.within.follows.clean clean in
      let clean_found = c.in_ok-until.ensures.works.within.follows.clean clean_asked in
      let first = state g.S.Store g.P.Shelf c.args.connection.now in
      works_then first (state g.S.Store g.P.Shelf c.new_date.new.connection) (state g.S.Store g.P.Shelf c.store_copy.new.connection)
      (works_then first (state g.S.Store g.P.Shelf c.source_head.new.connection) (state g.S.Store g.P.Shelf c.new_date.new.connection)
      (works_then first (state g.S.Store g.P.Shelf c.bucket_state.new.connection) (state g.S.Store g.P.Shelf c.source_head.new.connection) (c.in_ok-mode.ensures.works.working (c.in_ok-head.ensures.works.within.follows.clean clean_found)) (c.in_ok-head.ensures.works.working clean_found))
      (c.in_ok-until.ensures.works.working clean_asked))
      (still clean)) c.in_err-numbers.ensures.works.working);
}
