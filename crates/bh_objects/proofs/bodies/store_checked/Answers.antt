use Rattle.std.proofs.Common.{refl, sym, ap, ◌∙◌}
use Rattle.std.proofs.lemmas.Result.{err_from_is_err_and}
use Rattle.bh_http.proofs.BodyLemmas.{going_may}
use Rattle.bh_types.specs.Checksums.{digest_text}
use Rattle.bh_objects.proofs.Receiving.{received_err}
use Rattle.bh_objects.proofs.bodies.store_checked.Goals as goal

pub returns-in_err-sum-clause-received : goal.returns-in_err-sum-clause-received
returns-in_err-sum-clause-received g c =
    let p = err_from_is_err_and c.from_residual.result c.from_residual.ensures.1 in
    let (given, gives, may) = c.in_err-sum.ensures.stores.stopped in
    received_err c.from_residual.result _ _ _ _ p.0 p.1 given gives may

pub returns-in_err-text-clause-received : goal.returns-in_err-text-clause-received
returns-in_err-text-clause-received g c =
    let p = err_from_is_err_and c.from_residual-in_err-text.result c.from_residual-in_err-text.ensures.1 in
    let (given, gives, whole, sum, becomes) = c.in_ok-sum.ensures.stores.stored in
    received_err c.from_residual-in_err-text.result _ _ _ _ p.0 p.1 given gives (going_may _ whole.going)

pub returns-then-is_given-clause-received : goal.returns-then-is_given-clause-received
returns-then-is_given-clause-received g c =
    let (given, gives, whole, sum, becomes) = c.in_ok-sum.ensures.stores.stored in
    let told = c.in_ok-text.ensures ∙ ap digest_text sum in
    record { bytes = given; gives = gives; received = (whole, sym (c.is_given.ensures given (c.as_str.ensures.value ∙ told)) ∙ c.if-is_given.true, told, becomes) }

pub returns-else-is_given-clause-received : goal.returns-else-is_given-clause-received
returns-else-is_given-clause-received g c =
    let (given, gives, whole, sum, becomes) = c.in_ok-sum.ensures.stores.stored in
    let told = c.in_ok-text.ensures ∙ ap digest_text sum in
    record { bytes = given; gives = gives; received = (whole, sym (c.is_given.ensures given (c.as_str.ensures.value ∙ told)) ∙ c.if-is_given.false, refl) }
