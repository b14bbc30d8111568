use Rattle.std.proofs.Common.{rules, ℕ, List, Option, sym, ap, ◌∙◌}
use Rattle.std.proofs.lemmas.Result.{err_from_is_err_and}
use Rattle.std.specs.String.{string_bytes}
use Rattle.bh_base.specs.Connections.{state}
use Rattle.bh_model.specs.Entries.{new_id}
use Rattle.bh_model.specs.Operations.{Copied, id_told}
use Rattle.bh_model.specs.State.{Content.Body}
use Rattle.bh_view.specs.Blocks.{whole, AreDigests}
use Rattle.bh_view.specs.Bodies.{HasBodies}
use Rattle.bh_base.specs.Layer.{IsStateClean}
use Rattle.bh_schema.specs.Views.{head_seen}
use Rattle.bh_schema.specs.Working.{tables_at}
use Rattle.bh_objects.specs.Copies.{version_read, copy_written}
use Rattle.bh_objects.specs.Found.{replaced_in, with_entry}
use Rattle.bh_objects.specs.declared.quotas.NewEntry.{NewEntry}
use Rattle.bh_objects.specs.declared.quotas.Replaced.{Replaced}
use Rattle.bh_objects.specs.declared.reads.Numbers.{Numbers}
use Rattle.bh_objects.proofs.Working.{host_at}
use Rattle.bh_objects.proofs.Copying.{Copies, copies_body, numbers_failed}
use Rattle.bh_objects.proofs.Dating.{stored_counts, stored_placed}
use Rattle.bh_objects.proofs.Sizes.{replaced_held}
use Rattle.bh_objects.proofs.Written.{HasRowsOf}
use Rattle.bh_objects.proofs.copies.store_copy.Given as given
use Rattle.bh_objects.proofs.copies.store_copy.Goals as goal

done : (g : given.Over) (c : goal.In_ok-write_copy g) → IsStateClean (state g.S.Store g.P.Shelf c.write_copy.new.connection)
    → Copies (tables_at (state g.S.Store g.P.Shelf c.args.connection.now)) (tables_at (state g.S.Store g.P.Shelf c.write_copy.new.connection)) c.args.copy.now.tenant.now c.args.copy.now.bucket.now c.args.copy.now.key.now
    c.args.copy.now.source_bucket.now c.args.copy.now.source_key.now c.args.copy.now.version c.args.copy.now.at (head_seen c.args.head.now) c.args.mode c.in_ok-entry.entry.numbers.before
    × HasBodies (tables_at (state g.S.Store g.P.Shelf c.write_copy.new.connection))
    × ((digest : List ℕ → List ℕ) → AreDigests digest (tables_at (state g.S.Store g.P.Shelf c.args.connection.now)).blocks → AreDigests digest (tables_at (state g.S.Store g.P.Shelf c.write_copy.new.connection)).blocks)
    × HasRowsOf (with_entry c.args.mode c.in_ok-entry.entry.numbers.before c.in_ok-entry.entry.numbers.after c.args.copy.now.tenant.now c.args.copy.now.bucket.now c.args.copy.now.key.now c.args.copy.now.at
    (Body (whole (tables_at (state g.S.Store g.P.Shelf c.args.connection.now)).refs (tables_at (state g.S.Store g.P.Shelf c.args.connection.now)).blocks (c.args.copy.now.tenant.now, c.args.head.now.seq)) (string_bytes c.args.head.now.checksum))
    (tables_at (state g.S.Store g.P.Shelf c.args.connection.now))) (tables_at (state g.S.Store g.P.Shelf c.write_copy.new.connection))
done g c clean =
    let first = state g.S.Store g.P.Shelf c.args.connection.now in
    let copy = c.args.copy.now in
    let head = head_seen c.args.head.now in
    let mode = c.args.mode in
    let before = c.in_ok-entry.entry.numbers.before in
    let after = c.in_ok-entry.entry.numbers.after in
    let clean_entry = c.in_ok-write_copy.ensures.changes.within.follows.clean clean in
    let clean_old = c.in_ok-entry.ensures.works.within.follows.clean clean_entry in
    let three = c.in_ok-entry.ensures.decides clean_entry in
    copies_body (tables_at first) (tables_at (state g.S.Store g.P.Shelf c.write_copy.new.connection)) copy.tenant.now copy.bucket.now copy.key.now copy.source_bucket.now copy.source_key.now copy.version copy.at head after
    (host_at first (c.requires.working clean_old)) (c.requires.early clean_old) c.in_ok-write_copy.ensures.key (c.requires.source clean_old) (c.requires.sized clean_old)
    mode before (c.requires.state clean_old) three.0
    ((c.in_ok-write_copy.ensures.changes.holds clean).is
    ∙ ap (λ (r : Option Replaced). copy_written mode before after r copy.tenant.now copy.bucket.now copy.key.now copy.at head (tables_at (state g.S.Store g.P.Shelf c.new_entry.new.connection))) (c.in_ok-entry.ensures.replaced clean_entry)
    ∙ ap (copy_written mode before after (replaced_in mode copy.tenant.now copy.bucket.now copy.key.now (tables_at first)) copy.tenant.now copy.bucket.now copy.key.now copy.at head) three.1)

pub returns-clause-works : goal.returns-clause-works
returns-clause-works g c = record {
  within = search rules;
  opens = search rules;
  working = λ clean.
      let it = done g c clean in
      λ digest. record { is = record { inside = (c.in_ok-write_copy.ensures.changes.holds clean).within; sound = it.0.1; bodies = it.1 }; limits = it.0.2; digests = it.2 digest };
}

pub returns-clause-carries : goal.returns-clause-carries
returns-clause-carries g c clean = (done g c clean).0.0

pub returns-clause-counted : goal.returns-clause-counted
returns-clause-counted g c clean =
    let old = tables_at (state g.S.Store g.P.Shelf c.args.connection.now) in
    let copy = c.args.copy.now in
    let clean_entry = c.in_ok-write_copy.ensures.changes.within.follows.clean clean in
    let clean_old = c.in_ok-entry.ensures.works.within.follows.clean clean_entry in
    stored_counts old (tables_at (state g.S.Store g.P.Shelf c.write_copy.new.connection)) copy.tenant.now copy.bucket.now copy.key.now c.args.mode c.in_ok-entry.entry.numbers.before c.in_ok-entry.entry.numbers.after _
    (c.requires.working clean_old).sound (c.requires.state clean_old) (c.in_ok-entry.ensures.decides clean_entry).0

pub returns-clause-placed : goal.returns-clause-placed
returns-clause-placed g c clean =
    let old = tables_at (state g.S.Store g.P.Shelf c.args.connection.now) in
    let new = tables_at (state g.S.Store g.P.Shelf c.write_copy.new.connection) in
    let copy = c.args.copy.now in
    let clean_entry = c.in_ok-write_copy.ensures.changes.within.follows.clean clean in
    let clean_old = c.in_ok-entry.ensures.works.within.follows.clean clean_entry in
    let it = done g c clean in
    stored_placed old new copy.tenant.now copy.bucket.now copy.key.now c.args.mode c.in_ok-entry.entry.numbers.before c.in_ok-entry.entry.numbers.after _
    (c.requires.working clean_old).sound (c.requires.state clean_old) (c.in_ok-entry.ensures.decides clean_entry).0 copy.at _ (string_bytes c.args.head.now.checksum) it.0.1 it.3

pub returns-in_err-entry-clause-carries : goal.returns-in_err-entry-clause-carries
returns-in_err-entry-clause-carries g c clean =
    let p = err_from_is_err_and c.from_residual.result c.from_residual.ensures.1 in
    let copy = c.args.copy.now in
    let clean_old = c.in_err-entry.ensures.works.within.follows.clean clean in
    rw (p.1, p.2) (numbers_failed (λ (n : Numbers). Copied (id_told c.args.mode (new_id c.args.mode n.before.version)) copy.at (string_bytes c.args.head.now.checksum)) copy.at copy.tenant.now copy.bucket.now copy.key.now
    copy.source_bucket.now copy.source_key.now copy.version (tables_at (state g.S.Store g.P.Shelf c.args.connection.now)) (tables_at (state g.S.Store g.P.Shelf c.new_entry.new.connection)) c.args.mode (c.requires.state clean_old)
    (λ (entry : NewEntry). (entry.numbers.before, entry.numbers.after)) (version_read copy.tenant.now (tables_at (state g.S.Store g.P.Shelf c.args.connection.now)) (head_seen c.args.head.now)) (c.requires.source clean_old)
    c.args.head.now.size (c.requires.sized clean_old) c.in_err-entry.field-0.0 (c.in_err-entry.ensures.decides clean))

pub write_copy-requires-clause-inside : goal.write_copy-requires-clause-inside
write_copy-requires-clause-inside g c clean = (c.in_ok-entry.ensures.works.working clean (λ bytes. bytes)).is.inside

pub write_copy-requires-clause-held : goal.write_copy-requires-clause-held
write_copy-requires-clause-held g c clean r is =
    let copy = c.args.copy.now in
    let same = (c.in_ok-entry.ensures.decides clean).1 in
    replaced_held copy.tenant.now copy.bucket.now copy.key.now (tables_at (state g.S.Store g.P.Shelf c.new_entry.new.connection)) c.args.mode r
    (ap (replaced_in c.args.mode copy.tenant.now copy.bucket.now copy.key.now) same ∙ sym (c.in_ok-entry.ensures.replaced clean) ∙ is)
