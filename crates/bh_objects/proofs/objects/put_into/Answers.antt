use Rattle.std.proofs.Common.{rules, ◌≡◌, ◌≤◌, Err, sym, ap, subst, ◌∙◌}
use Rattle.std.specs.Option.{option_copied}
use Rattle.bh_base.specs.Connections.{state}
use Rattle.bh_storage.specs.Answers.{stored_answer}
use Rattle.bh_storage.specs.declared.answer.StoredVersion.{StoredVersion}
use Rattle.bh_objects.specs.declared.objects.Admitted.{Admitted}
use Rattle.bh_tables.specs.Typed.{Tables}
use Rattle.bh_view.specs.Blocks.{AreDigests}
use Rattle.bh_view.specs.Bodies.{StoresPieces}
use Rattle.bh_view.specs.View.{view, latest_of}
use Rattle.bh_cache.specs.Kept.{AreCopies}
use Rattle.bh_schema.specs.Working.{tables_at}
use Rattle.bh_objects.specs.Admitting.{admitted_in, put_step}
use Rattle.bh_objects.specs.Found.{mode_in, replaced_in}
use Rattle.bh_objects.proofs.Receiving.{operates_asked, operates_refusing, put_unfit, refusing_unless, spoilt_kept}
use Rattle.bh_objects.proofs.objects.put_into.Goals as goal

pub store_admitted-requires-clause-may : goal.store_admitted-requires-clause-may
store_admitted-requires-clause-may g c = record {
  working = λ clean. (c.in-Ok.ensures.works.working clean (λ bytes. bytes)).is;
  copies = λ clean. subst (λ (x : Tables). AreCopies c.args.blocks.now.cache.now x.blocks) (sym (c.in-Ok.ensures.decides clean).1) (c.requires.may.copies (c.in-Ok.ensures.works.within.follows.clean clean));
  digests = λ clean. subst (λ (x : Tables). AreDigests g.D.Digester.digest_of x.blocks) (sym (c.in-Ok.ensures.decides clean).1) (c.requires.may.digests (c.in-Ok.ensures.works.within.follows.clean clean));
  positive = c.requires.may.positive;
  early = λ clean. subst (λ (x : Tables). c.args.object.now.at ≤ latest_of x) (sym (c.in-Ok.ensures.decides clean).1) (c.requires.may.early (c.in-Ok.ensures.works.within.follows.clean clean));
  going = c.requires.may.going;
}

pub store_admitted-requires-clause-mode : goal.store_admitted-requires-clause-mode
store_admitted-requires-clause-mode g c clean =
    ap (λ (x : Tables). mode_in c.args.object.now.bucket.now (view x c.args.object.now.tenant.now)) (c.in-Ok.ensures.decides clean).1 ∙ c.requires.mode (c.in-Ok.ensures.works.within.follows.clean clean)

pub store_admitted-requires-clause-admitted : goal.store_admitted-requires-clause-admitted
store_admitted-requires-clause-admitted g c clean =
    let object = c.args.object.now in
    rw c.due.ensures at (ap (λ (x : Tables). admitted_in c.args.mode object.bucket.now object.key.now object.date object.at c.due.result (view x object.tenant.now)) (c.in-Ok.ensures.decides clean).1 ∙ (c.in-Ok.ensures.decides clean).0)

pub store_admitted-requires-clause-replaced : goal.store_admitted-requires-clause-replaced
store_admitted-requires-clause-replaced g c clean =
    let object = c.args.object.now in
    c.in-Ok.ensures.replaced clean ∙ ap (replaced_in c.args.mode object.tenant.now object.bucket.now object.key.now) (sym (c.in-Ok.ensures.decides clean).1)

pub returns-in-Ok-clause-works : goal.returns-in-Ok-clause-works
returns-in-Ok-clause-works g c = record {
  within = search rules;
  opens = search rules;
  working = spoilt_kept c.store_admitted.result _ _ (λ still clean.
      let was = c.in-Ok.ensures.works.working (c.store_admitted.ensures.works.within.follows.clean clean) g.D.Digester.digest_of in
      let now = still clean in
      record { is = now.is; limits = now.limits ∙ was.limits; digests = λ d. now.digests (was.digests d) }) c.store_admitted.ensures.works.working;
}

pub returns-in-Ok-clause-operates : goal.returns-in-Ok-clause-operates
returns-in-Ok-clause-operates g c =
    let object = c.args.object.now in
    let new = tables_at (state g.S.Store g.P.Shelf c.store_admitted.new.connection) in
    operates_asked stored_answer object.tenant.now (put_step object (option_copied c.args.given)) (λ old bytes. StoresPieces g.D.Digester.digest_of c.args.blocks.now.size bytes old new) _ _ _
    (tables_at (state g.S.Store g.P.Shelf c.args.connection.now)) (tables_at (state g.S.Store g.P.Shelf c.admit.new.connection)) new (λ clean. (c.in-Ok.ensures.decides (c.store_admitted.ensures.works.within.follows.clean clean)).1) c.store_admitted.result c.store_admitted.ensures.operates

-- the checksum comes before what the head decides
pub returns-in-Err-clause-operates : goal.returns-in-Err-clause-operates
returns-in-Err-clause-operates g c =
    let object = c.args.object.now in
    let v = view (tables_at (state g.S.Store g.P.Shelf c.args.connection.now)) object.tenant.now in
    let (given, gives, by) = c.refused_checked.ensures.came in
    operates_refusing stored_answer object.tenant.now (put_step object (option_copied c.args.given)) _ _ _ _ _ _ given gives _ c.refused_checked.result by (λ r count it clean.
    let (refusal, is, told) = it in
    let d = rw is at c.in-Err.ensures.decides clean in (
      put_unfit object.at object.bucket.now object.key.now given (option_copied c.args.given) object.date v c.args.mode (c.requires.mode (c.in-Err.ensures.works.within.follows.clean clean)) refusal
          (subst (λ n. admitted_in c.args.mode object.bucket.now object.key.now object.date object.at n v ≡ Err refusal) (c.due.ensures ∙ count) d.0) r told,
      d.1,
    ))

pub returns-in-Err-clause-works : goal.returns-in-Err-clause-works
returns-in-Err-clause-works g c =
    let (given, gives, by) = c.refused_checked.ensures.came in
    record {
      within = c.in-Err.ensures.works.within;
      opens = refusing_unless Admitted StoredVersion c.in-Err.error c.refused_checked.result _ _ _ _ (λ r it. (it.0, it.1)) by (λ h. h) c.in-Err.ensures.works.opens;
      working = refusing_unless Admitted StoredVersion c.in-Err.error c.refused_checked.result _ _ _ _ (λ r it. (it.0, it.1)) by (λ h clean. h clean g.D.Digester.digest_of) c.in-Err.ensures.works.working;
    }
