use Rattle.std.proofs.Common.{refl}
use Rattle.std.proofs.lemmas.Result.{err_from_is_err_and}
use Rattle.bh_http.proofs.BodyLemmas.{breaks_may}
use Rattle.bh_host.specs.declared.offer.Offer.{Offer}
use Rattle.bh_storage.specs.Answers.{found_answer}
use Rattle.bh_dispatch.specs.Seeing.{seen}
use Rattle.bh_dispatch.proofs.Offering.{found_err}
use Rattle.bh_dispatch.proofs.Receiving.{gives_response, spoilt_err}
use Rattle.bh_dispatch.proofs.Remembering.{nothing_done}
use Rattle.bh_dispatch.proofs.sql_host.SqlHost.get_object.Goals as goal

pub drain-requires : goal.drain-requires
drain-requires g c = record { going = c.requires.going }

pub find_object-requires : goal.find_object-requires
find_object-requires g c = c.requires.working

pub returns-in_err-found-in-Ok-clause-goes_on : goal.returns-in_err-found-in-Ok-clause-goes_on
returns-in_err-found-in-Ok-clause-goes_on g c =
    let p = err_from_is_err_and c.from_residual.result c.from_residual.ensures.1 in
    let s = c.in_err-found-in-Ok.ensures.goes_on in
    rw (p.1, p.2) (record { within = s.within; opens = spoilt_err Offer c.in_err-found-in-Ok.field-0.0 _ s.opens; working = spoilt_err Offer c.in_err-found-in-Ok.field-0.0 _ s.working })

pub returns-in_err-found-in-Ok-clause-operates : goal.returns-in_err-found-in-Ok-clause-operates
returns-in_err-found-in-Ok-clause-operates g c =
    let p = err_from_is_err_and c.from_residual.result c.from_residual.ensures.1 in
    let (given, gives) = c.drain.ensures.some in
    let old = (seen g.S.Store g.P.Shelf c.args.self.now).now in
    let new = (seen g.S.Store g.P.Shelf c.find_object.new.self).now in
    rw (p.1, p.2) (found_err new new c.args.tenant.now _ _ _ _ old new given gives c.in-Ok.ensures.whole c.in_err-found-in-Ok.field-0.0 c.in_err-found-in-Ok.ensures.carries)

pub returns-in_err-found-in-Ok-clause-measured : goal.returns-in_err-found-in-Ok-clause-measured
returns-in_err-found-in-Ok-clause-measured g c = let p = err_from_is_err_and c.from_residual.result c.from_residual.ensures.1 in rw p.1 tt

pub returns-in_ok-found-in-Ok-clause-goes_on : goal.returns-in_ok-found-in-Ok-clause-goes_on
returns-in_ok-found-in-Ok-clause-goes_on g c = let s = c.in_ok-found-in-Ok.ensures.goes_on in record { within = s.within; opens = s.opens; working = s.working }

pub returns-in_ok-found-in-Ok-clause-operates : goal.returns-in_ok-found-in-Ok-clause-operates
returns-in_ok-found-in-Ok-clause-operates g c =
    let (given, gives) = c.drain.ensures.some in
    let old = (seen g.S.Store g.P.Shelf c.args.self.now).now in
    let new = (seen g.S.Store g.P.Shelf c.find_object.new.self).now in
    record {
      given = given;
      gives = gives;
      decided = c.in-Ok.ensures.whole;
      carries = λ clean. gives_response c.args.tenant.now (found_answer new c.in_ok-found-in-Ok.found) old new _ _ refl (c.in_ok-found-in-Ok.ensures.carries clean);
    }

pub returns-in_ok-found-in-Ok-clause-measured : goal.returns-in_ok-found-in-Ok-clause-measured
returns-in_ok-found-in-Ok-clause-measured g c = c.in_ok-found-in-Ok.ensures.measured

pub returns-in-Err-clause-goes_on : goal.returns-in-Err-clause-goes_on
returns-in-Err-clause-goes_on g c = record { within = nothing_done g.S.Store g.P.Shelf c.args.self.now; opens = tt; working = tt }

pub returns-in-Err-clause-operates : goal.returns-in-Err-clause-operates
returns-in-Err-clause-operates g c =
    let (given, gives) = c.drain.ensures.some in
    record { given = given; gives = gives; decided = breaks_may _ c.in-Err.ensures.broken; carries = λ _. tt }
