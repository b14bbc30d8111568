use Rattle.std.proofs.Common.{rules, ◌≡◌, Option, None, Ok, Err, refl, sym, ap, subst, ◌∙◌}
use Rattle.std.proofs.lemmas.Result.{err_from_is_err_and}
use Rattle.std.specs.Option.{option_copied}
use Rattle.bh_base.specs.Connections.{state}
use Rattle.bh_http.proofs.BodyLemmas.{going_may}
use Rattle.bh_types.specs.declared.refusal.Refusal.{Refusal}
use Rattle.bh_model.specs.Entries.{new_id}
use Rattle.bh_model.specs.Operations.{id_told}
use Rattle.bh_view.specs.View.{view}
use Rattle.bh_schema.specs.Working.{tables_at}
use Rattle.bh_objects.specs.Admitting.{admitted_in, numbers_admitted}
use Rattle.bh_objects.specs.Dates.{with_date}
use Rattle.bh_objects.specs.Writes.{object_written}
use Rattle.bh_objects.specs.declared.reads.Numbers.{Numbers}
use Rattle.bh_objects.specs.declared.quotas.Replaced.{Replaced}
use Rattle.bh_objects.proofs.Dating.{dates_alone, same_blocks}
use Rattle.bh_objects.proofs.Putting.{put_bad}
use Rattle.bh_objects.proofs.Receiving.{put_done, counted_whole, operates_done, operates_failed, operates_spoilt}
use Rattle.bh_objects.proofs.Sizes.{replaced_held}
use Rattle.bh_objects.proofs.Working.{host_at, dated_still}
use Rattle.bh_objects.proofs.objects.store_admitted.Goals as goal

pub store_object-requires-clause-may : goal.store_object-requires-clause-may
store_object-requires-clause-may g c =
    record { inside = λ clean. (c.requires.may.working clean).inside; copies = c.requires.may.copies; positive = c.requires.may.positive; going = c.requires.may.going }

pub store_object-requires-clause-held : goal.store_object-requires-clause-held
store_object-requires-clause-held g c clean r is =
    let object = c.args.object.now in
    replaced_held object.tenant.now object.bucket.now object.key.now (tables_at (state g.S.Store g.P.Shelf c.args.connection.now)) c.args.mode r (sym (c.requires.replaced clean) ∙ is)

pub returns-in_err-outcome-clause-operates : goal.returns-in_err-outcome-clause-operates
returns-in_err-outcome-clause-operates g c =
    let p = err_from_is_err_and c.from_residual.result c.from_residual.ensures.1 in
    let it = c.in_err-outcome.ensures.received in
    rw (p.1, p.2) (operates_failed _ _ _ _ _ _ _ _ _ it.bytes it.gives _ it.received)

pub returns-in_err-set_date-in-Done-clause-operates : goal.returns-in_err-set_date-in-Done-clause-operates
returns-in_err-set_date-in-Done-clause-operates g c =
    let p = err_from_is_err_and c.from_residual-in_err-set_date-in-Done.result c.from_residual-in_err-set_date-in-Done.ensures.1 in
    let it = rw c.in-Done.is at c.in_ok-outcome.ensures.received in
    rw (p.1, p.2) (operates_failed _ _ _ _ _ _ _ _ _ it.bytes it.gives _ (going_may _ it.received.0.going))

pub returns-in_ok-set_date-in-Done-clause-works : goal.returns-in_ok-set_date-in-Done-clause-works
returns-in_ok-set_date-in-Done-clause-works g c = record {
  within = search rules;
  opens = search rules;
  working = λ clean.
      let object = c.args.object.now in
      let first = state g.S.Store g.P.Shelf c.args.connection.now in
      let stored = state g.S.Store g.P.Shelf c.store_object.new.connection in
      let new = state g.S.Store g.P.Shelf c.set_date.new.connection in
      let numbers = c.args.admitted.entry.numbers in
      let it = rw c.in-Done.is at c.in_ok-outcome.ensures.received in
      let (whole, right, told, (key, becomes)) = it.received in
      let clean_stored = c.in_ok-set_date-in-Done.ensures.changes.within.follows.clean clean in
      let clean_old = c.in_ok-outcome.ensures.within.follows.clean clean_stored in
      let dated = c.in_ok-set_date-in-Done.ensures.changes.holds clean in
      let dated_is = dated.is ∙ ap (λ (n : Numbers). with_date object.tenant.now n.before.entry None c.args.admitted.until (tables_at stored)) c.numbers.view_is in
      let asked = subst (λ n. admitted_in c.args.mode object.bucket.now object.key.now object.date object.at n (view (tables_at first) object.tenant.now) ≡ Ok (numbers_admitted c.args.admitted)) (counted_whole _ _ it.bytes it.gives whole) (c.requires.admitted clean_old) in
      let done = put_done g.D.Digester.digest_of c.args.blocks.now.size c.requires.may.positive object.tenant.now object.bucket.now object.key.now object.at it.bytes (option_copied c.args.given) object.date c.args.admitted.until c.args.mode numbers.before numbers.after
      (tables_at first) (tables_at stored) (tables_at new) (host_at first (c.requires.may.working clean_old)) (c.requires.may.early clean_old) key (c.requires.may.digests clean_old) (c.requires.mode clean_old) asked
      ((becomes clean_stored).is ∙ ap (λ (r : Option Replaced). object_written g.D.Digester.digest_of c.args.blocks.now.size c.args.mode numbers.before numbers.after r object.tenant.now object.bucket.now object.key.now object.at it.bytes (tables_at first)) (c.requires.replaced clean_old))
      dated_is c.in_ok-set_date-in-Done.ensures.near right in
      dated_still g.D.Digester.digest_of first first stored new refl (record { is = record { inside = (becomes clean_stored).within; sound = done.sound; bodies = done.bodies }; limits = done.limits; digests = λ _. done.digests }) dated.within
      (dates_alone object.tenant.now numbers.before.entry c.args.admitted.until (tables_at stored) (tables_at new) dated_is) done.dated.1 done.dated.2;
}

pub returns-in_ok-set_date-in-Done-clause-operates : goal.returns-in_ok-set_date-in-Done-clause-operates
returns-in_ok-set_date-in-Done-clause-operates g c =
    let it = rw c.in-Done.is at c.in_ok-outcome.ensures.received in
    operates_done _ _ _ _ _ _ _ _ _ it.bytes it.gives _ it.received.0 (λ clean.
    let object = c.args.object.now in
    let first = state g.S.Store g.P.Shelf c.args.connection.now in
    let stored = state g.S.Store g.P.Shelf c.store_object.new.connection in
    let new = state g.S.Store g.P.Shelf c.set_date.new.connection in
    let numbers = c.args.admitted.entry.numbers in
    let it = rw c.in-Done.is at c.in_ok-outcome.ensures.received in
    let (whole, right, told, (key, becomes)) = it.received in
    let clean_stored = c.in_ok-set_date-in-Done.ensures.changes.within.follows.clean clean in
    let clean_old = c.in_ok-outcome.ensures.within.follows.clean clean_stored in
    let dated = c.in_ok-set_date-in-Done.ensures.changes.holds clean in
    let dated_is = dated.is ∙ ap (λ (n : Numbers). with_date object.tenant.now n.before.entry None c.args.admitted.until (tables_at stored)) c.numbers.view_is in
    let asked = subst (λ n. admitted_in c.args.mode object.bucket.now object.key.now object.date object.at n (view (tables_at first) object.tenant.now) ≡ Ok (numbers_admitted c.args.admitted)) (counted_whole _ _ it.bytes it.gives whole) (c.requires.admitted clean_old) in
    let done = put_done g.D.Digester.digest_of c.args.blocks.now.size c.requires.may.positive object.tenant.now object.bucket.now object.key.now object.at it.bytes (option_copied c.args.given) object.date c.args.admitted.until c.args.mode numbers.before numbers.after
    (tables_at first) (tables_at stored) (tables_at new) (host_at first (c.requires.may.working clean_old)) (c.requires.may.early clean_old) key (c.requires.may.digests clean_old) (c.requires.mode clean_old) asked
    ((becomes clean_stored).is ∙ ap (λ (r : Option Replaced). object_written g.D.Digester.digest_of c.args.blocks.now.size c.args.mode numbers.before numbers.after r object.tenant.now object.bucket.now object.key.now object.at it.bytes (tables_at first)) (c.requires.replaced clean_old))
    dated_is c.in_ok-set_date-in-Done.ensures.near right in
    rw (c.new_id_told-id.ensures ∙ ap (λ (n : Numbers). id_told c.args.mode (new_id c.args.mode n.before.version)) c.numbers.view_is, told) done.dated.0) (λ clean.
    let object = c.args.object.now in
    let first = state g.S.Store g.P.Shelf c.args.connection.now in
    let stored = state g.S.Store g.P.Shelf c.store_object.new.connection in
    let new = state g.S.Store g.P.Shelf c.set_date.new.connection in
    let numbers = c.args.admitted.entry.numbers in
    let it = rw c.in-Done.is at c.in_ok-outcome.ensures.received in
    let (whole, right, told, (key, becomes)) = it.received in
    let clean_stored = c.in_ok-set_date-in-Done.ensures.changes.within.follows.clean clean in
    let clean_old = c.in_ok-outcome.ensures.within.follows.clean clean_stored in
    let dated = c.in_ok-set_date-in-Done.ensures.changes.holds clean in
    let dated_is = dated.is ∙ ap (λ (n : Numbers). with_date object.tenant.now n.before.entry None c.args.admitted.until (tables_at stored)) c.numbers.view_is in
    let asked = subst (λ n. admitted_in c.args.mode object.bucket.now object.key.now object.date object.at n (view (tables_at first) object.tenant.now) ≡ Ok (numbers_admitted c.args.admitted)) (counted_whole _ _ it.bytes it.gives whole) (c.requires.admitted clean_old) in
    let done = put_done g.D.Digester.digest_of c.args.blocks.now.size c.requires.may.positive object.tenant.now object.bucket.now object.key.now object.at it.bytes (option_copied c.args.given) object.date c.args.admitted.until c.args.mode numbers.before numbers.after
    (tables_at first) (tables_at stored) (tables_at new) (host_at first (c.requires.may.working clean_old)) (c.requires.may.early clean_old) key (c.requires.may.digests clean_old) (c.requires.mode clean_old) asked
    ((becomes clean_stored).is ∙ ap (λ (r : Option Replaced). object_written g.D.Digester.digest_of c.args.blocks.now.size c.args.mode numbers.before numbers.after r object.tenant.now object.bucket.now object.key.now object.at it.bytes (tables_at first)) (c.requires.replaced clean_old))
    dated_is c.in_ok-set_date-in-Done.ensures.near right in
    same_blocks (tables_at stored) (tables_at new) (dates_alone object.tenant.now numbers.before.entry c.args.admitted.until (tables_at stored) (tables_at new) dated_is) ∙ done.stores)

pub returns-in-Spoilt-clause-operates : goal.returns-in-Spoilt-clause-operates
returns-in-Spoilt-clause-operates g c =
    let object = c.args.object.now in
    let it = rw c.in-Spoilt.is at c.in_ok-outcome.ensures.received in
    let (whole, wrong, is) = it.received in
    operates_spoilt _ _ _ _ _ _ _ _ _ it.bytes it.gives _ whole (λ clean.
    put_bad object.at object.bucket.now object.key.now it.bytes (option_copied c.args.given) object.date (view (tables_at (state g.S.Store g.P.Shelf c.args.connection.now)) object.tenant.now) c.args.mode (c.requires.mode (c.in_ok-outcome.ensures.within.follows.clean clean)) wrong
    ∙ ap (λ (r : Refusal). Err r) (sym is))
