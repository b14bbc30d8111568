use Rattle.std.proofs.Common.{refl}
use Rattle.std.proofs.lemmas.Result.{err_from_is_err_and}
use Rattle.bh_base.specs.Connections.{state}
use Rattle.bh_http.proofs.BodyLemmas.{breaks_may}
use Rattle.bh_storage.specs.Answers.{found_answer}
use Rattle.bh_host.specs.declared.offer.Offer.{Offer}
use Rattle.bh_schema.specs.Working.{tables_at}
use Rattle.bh_dispatch.proofs.Operating.{still}
use Rattle.bh_dispatch.proofs.Receiving.{gives_response, spoilt_err}
use Rattle.bh_dispatch.proofs.Offering.{found_err}
use Rattle.bh_dispatch.proofs.operations.get_object.Goals as goal

pub returns-in-Err-clause-found : goal.returns-in-Err-clause-found
returns-in-Err-clause-found g c =
    let (given, gives) = c.drain.ensures.some in
    record {
      works = still g.S.Store g.P.Shelf c.args.connection.now c.requires.working _ (λ P p. tt);
      operates = record { given = given; gives = gives; decided = breaks_may _ c.in-Err.ensures.broken; carries = λ _. tt };
    }

pub returns-in_err-found-in-Ok-clause-found : goal.returns-in_err-found-in-Ok-clause-found
returns-in_err-found-in-Ok-clause-found g c =
    let p = err_from_is_err_and c.from_residual.result c.from_residual.ensures.1 in
    let (given, gives) = c.drain.ensures.some in
    let h = c.in_err-found-in-Ok.ensures in
    let error = c.in_err-found-in-Ok.field-0.0 in
    let new = tables_at (state g.S.Store g.P.Shelf c.get_object.new.connection) in
    rw (p.1, p.2) (record {
      works = record { within = h.works.within; opens = spoilt_err Offer error _ h.works.opens; working = spoilt_err Offer error _ h.works.working };
      operates = found_err new new c.args.tenant.now _ _ _ _ (tables_at (state g.S.Store g.P.Shelf c.args.connection.now)) new given gives c.in-Ok.ensures.whole error h.carries;
    })

pub returns-in_ok-found-in-Ok-clause-found : goal.returns-in_ok-found-in-Ok-clause-found
returns-in_ok-found-in-Ok-clause-found g c =
    let (given, gives) = c.drain.ensures.some in
    let h = c.in_ok-found-in-Ok.ensures in
    let old = tables_at (state g.S.Store g.P.Shelf c.args.connection.now) in
    let new = tables_at (state g.S.Store g.P.Shelf c.get_object.new.connection) in
    record {
      works = record { within = h.works.within; opens = h.works.opens; working = h.works.working };
      operates = record {
        given = given;
        gives = gives;
        decided = c.in-Ok.ensures.whole;
        carries = λ clean. gives_response c.args.tenant.now (found_answer new c.in_ok-found-in-Ok.found) old new _ _ refl (h.carries clean);
      };
    }
