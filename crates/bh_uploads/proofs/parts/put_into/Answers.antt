use Rattle.std.proofs.Common.{rules, ◌≡◌, ◌≤◌, Err, String, Global, sym, ap, subst, ◌∙◌}
use Rattle.std.proofs.lemmas.Result.{err_from_is_err_and}
use Rattle.std.specs.Option.{option_copied}
use Rattle.std.specs.String.{string_bytes}
use Rattle.bh_base.specs.Connections.{state}
use Rattle.bh_model.specs.Operations.{PartStored}
use Rattle.bh_model.specs.State.{Octets}
use Rattle.bh_model.specs.Uploads.{upload_part}
use Rattle.bh_storage.specs.Calls.{GivesStep}
use Rattle.bh_view.specs.Bodies.{StoresPieces}
use Rattle.bh_view.specs.View.{view}
use Rattle.bh_cache.specs.Kept.{AreCopies}
use Rattle.bh_tables.specs.Typed.{Tables}
use Rattle.bh_base.specs.Layer.{Holds, IsIntact, IsOpen, IsStateClean, standing}
use Rattle.bh_schema.specs.Working.{tables_at}
use Rattle.bh_objects.proofs.Receiving.{operates_failed, operates_outcome, operates_refusing, refusing_unless, unless_outcome}
use Rattle.bh_objects.proofs.Working.{host_at}
use Rattle.bh_uploads.specs.Found.{part_bytes_in, part_entry_in, part_step, replaced_body}
use Rattle.bh_uploads.specs.Writes.{part_written}
use Rattle.bh_uploads.specs.declared.quotas.PartEntry.{PartEntry}
use Rattle.bh_uploads.proofs.Receiving.{part_bad, part_puts, part_unfit}
use Rattle.bh_uploads.proofs.parts.put_into.Goals as goal

pub store_part-requires-clause-may : goal.store_part-requires-clause-may
store_part-requires-clause-may g c = record {
  inside = λ clean. (c.in-Ok.ensures.works.working clean (λ bytes. bytes)).is.inside;
  copies = λ clean. subst (λ (x : Tables). AreCopies c.args.blocks.now.cache.now x.blocks) (sym (c.in-Ok.ensures.decides clean).1) (c.requires.may.copies (c.in-Ok.ensures.works.within.follows.clean clean));
  positive = c.requires.may.positive;
  going = c.requires.may.going;
}

pub store_part-requires-clause-held : goal.store_part-requires-clause-held
store_part-requires-clause-held g c clean =
    ap (part_bytes_in c.args.part.now.upload.tenant.now c.args.found.number c.args.part.now.number) (c.in-Ok.ensures.decides clean).1 ∙ c.in-Ok.ensures.bytes clean

pub store_part-requires-clause-replaced : goal.store_part-requires-clause-replaced
store_part-requires-clause-replaced g c clean =
    c.in-Ok.ensures.replaced clean ∙ ap (replaced_body c.args.part.now.upload.tenant.now c.args.found.number c.args.part.now.number) (sym (c.in-Ok.ensures.decides clean).1)

-- the checksum comes before what the head decides
pub returns-in-Err-clause-operates : goal.returns-in-Err-clause-operates
returns-in-Err-clause-operates g c =
    let part = c.args.part.now in
    let old = tables_at (state g.S.Store g.P.Shelf c.args.connection.now) in
    let (given, gives, by) = c.refused_checked.ensures.came in
    operates_refusing _ part.upload.tenant.now (part_step part (option_copied c.args.given)) _ _ _ _ _ _ given gives _ c.refused_checked.result by
    (λ r count it clean.
    let (refusal, is, told) = it in
    let clean_old = c.in-Err.ensures.works.within.follows.clean clean in
    let d = rw is at c.in-Err.ensures.decides clean in (
      part_unfit old (c.requires.may.working clean_old).sound part.upload.tenant.now part.upload.bucket.now part.upload.key.now part.upload.upload c.args.found.mode c.args.found.number part.number part.at given (option_copied c.args.given) (c.requires.found clean_old) refusal
          (subst (λ n. part_entry_in (part_bytes_in part.upload.tenant.now c.args.found.number part.number old) n (view old part.upload.tenant.now) ≡ Err refusal) (c.due.ensures ∙ count) d.0) r told,
      d.1,
    ))

pub returns-in-Err-clause-works : goal.returns-in-Err-clause-works
returns-in-Err-clause-works g c =
    let (given, gives, by) = c.refused_checked.ensures.came in
    record {
      within = c.in-Err.ensures.works.within;
      opens = refusing_unless PartEntry (String Global) c.in-Err.error c.refused_checked.result _ _ _ _ (λ r it. (it.0, it.1)) by (λ h. h) c.in-Err.ensures.works.opens;
      working = refusing_unless PartEntry (String Global) c.in-Err.error c.refused_checked.result _ _ _ _ (λ r it. (it.0, it.1)) by (λ h clean. h clean g.D.Digester.digest_of) c.in-Err.ensures.works.working;
    }

pub returns-in_err-outcome-in-Ok-clause-operates : goal.returns-in_err-outcome-in-Ok-clause-operates
returns-in_err-outcome-in-Ok-clause-operates g c =
    let p = err_from_is_err_and c.from_residual.result c.from_residual.ensures.1 in
    let it = c.in_err-outcome-in-Ok.ensures.stores in
    rw (p.1, p.2) (operates_failed _ _ _ _ _ _ _ _ _ it.bytes it.gives _ it.received)

pub returns-in_ok-outcome-in-Ok-clause-works : goal.returns-in_ok-outcome-in-Ok-clause-works
unfolding IsIntact IsOpen
returns-in_ok-outcome-in-Ok-clause-works g c = record {
  within = search rules;
  opens = search rules;
  working =
      let part = c.args.part.now in
      let old = tables_at (state g.S.Store g.P.Shelf c.args.connection.now) in
      let mid = tables_at (state g.S.Store g.P.Shelf c.part_entry.new.connection) in
      let new = tables_at (state g.S.Store g.P.Shelf c.store_part.new.connection) in
      let Did : Octets → Type 0 = λ bytes. (1 ≤ part.number) × (part.number ≤ 10000) × (IsStateClean (state g.S.Store g.P.Shelf c.store_part.new.connection)
      → Holds (part_written g.D.Digester.digest_of c.args.blocks.now.size part.upload.tenant.now c.args.found.number part.number bytes part.at c.in-Ok.taken.entry c.in-Ok.taken.replaced mid) (standing (state g.S.Store g.P.Shelf c.store_part.new.connection))) in
      unless_outcome _ _ (option_copied c.args.given) Did c.in_ok-outcome-in-Ok.outcome _ (λ bytes count right did clean.
      let clean_mid = c.in_ok-outcome-in-Ok.ensures.within.follows.clean clean in
      let clean_old = c.in-Ok.ensures.works.within.follows.clean clean_mid in
      let it = part_puts old mid new (host_at (state g.S.Store g.P.Shelf c.args.connection.now) (c.requires.may.working clean_old)) part.upload.tenant.now part.upload.bucket.now part.upload.key.now part.upload.upload c.args.found.mode c.args.found.number (c.requires.found clean_old)
      part.number part.at bytes (option_copied c.args.given) did.0 did.1 (c.requires.may.early clean_old) right g.D.Digester.digest_of c.args.blocks.now.size c.requires.may.positive (c.requires.may.digests clean_old) c.in-Ok.taken.entry c.due.result c.in-Ok.taken.replaced
      (c.in-Ok.ensures.decides clean_mid).0 (c.due.ensures ∙ count) (c.in-Ok.ensures.decides clean_mid).1 (c.in-Ok.ensures.replaced clean_mid) (did.2 clean).is in
      record { is = record { inside = (did.2 clean).within; sound = it.sound; bodies = it.bodies }; limits = it.limits; digests = λ _. it.digests }) c.in_ok-outcome-in-Ok.ensures.stores;
}

pub returns-in_ok-outcome-in-Ok-clause-operates : goal.returns-in_ok-outcome-in-Ok-clause-operates
returns-in_ok-outcome-in-Ok-clause-operates g c =
    let part = c.args.part.now in
    let old = tables_at (state g.S.Store g.P.Shelf c.args.connection.now) in
    let mid = tables_at (state g.S.Store g.P.Shelf c.part_entry.new.connection) in
    let new = tables_at (state g.S.Store g.P.Shelf c.store_part.new.connection) in
    let Did : Octets → Type 0 = λ bytes. (1 ≤ part.number) × (part.number ≤ 10000) × (IsStateClean (state g.S.Store g.P.Shelf c.store_part.new.connection)
    → Holds (part_written g.D.Digester.digest_of c.args.blocks.now.size part.upload.tenant.now c.args.found.number part.number bytes part.at c.in-Ok.taken.entry c.in-Ok.taken.replaced mid) (standing (state g.S.Store g.P.Shelf c.store_part.new.connection))) in
    let step = λ (bytes : Octets). upload_part part.at part.upload.bucket.now part.upload.key.now part.upload.upload part.number bytes (option_copied c.args.given) in
    operates_outcome (λ checksum. PartStored (string_bytes checksum)) part.upload.tenant.now step (λ bytes. StoresPieces g.D.Digester.digest_of c.args.blocks.now.size bytes old new) _ _ _ old new (option_copied c.args.given) Did c.in_ok-outcome-in-Ok.outcome
    (λ bytes text count right told did clean.
    let clean_mid = c.in_ok-outcome-in-Ok.ensures.within.follows.clean clean in
    let clean_old = c.in-Ok.ensures.works.within.follows.clean clean_mid in
    let it = part_puts old mid new (host_at (state g.S.Store g.P.Shelf c.args.connection.now) (c.requires.may.working clean_old)) part.upload.tenant.now part.upload.bucket.now part.upload.key.now part.upload.upload c.args.found.mode c.args.found.number (c.requires.found clean_old)
    part.number part.at bytes (option_copied c.args.given) did.0 did.1 (c.requires.may.early clean_old) right g.D.Digester.digest_of c.args.blocks.now.size c.requires.may.positive (c.requires.may.digests clean_old) c.in-Ok.taken.entry c.due.result c.in-Ok.taken.replaced
    (c.in-Ok.ensures.decides clean_mid).0 (c.due.ensures ∙ count) (c.in-Ok.ensures.decides clean_mid).1 (c.in-Ok.ensures.replaced clean_mid) (did.2 clean).is in
    (subst (λ (l : Octets). GivesStep part.upload.tenant.now (step bytes) (PartStored l) old new) (sym told) it.step, it.blocks))
    (λ bytes wrong clean. part_bad part.upload.bucket.now part.upload.key.now part.upload.upload c.args.found.mode c.args.found.number part.number part.at bytes (option_copied c.args.given) (view old part.upload.tenant.now)
    (c.requires.found (c.in-Ok.ensures.works.within.follows.clean (c.in_ok-outcome-in-Ok.ensures.within.follows.clean clean))) wrong)
    c.in_ok-outcome-in-Ok.ensures.stores
