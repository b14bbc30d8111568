use Rattle.std.proofs.Common.{[], Err, ◌≤◌, sym, ap, subst, ◌∙◌}
use Rattle.std.proofs.lemmas.Result.{err_from_is_err_and}
use Rattle.bh_types.specs.Limits.{HostLimits}
use Rattle.bh_types.specs.declared.rejection.Rejection.{Rejection}
use Rattle.bh_http.specs.Views.{with_body}
use Rattle.bh_http.proofs.BodyLemmas.{gives_none, going_may}
use Rattle.bh_machine.specs.Machine.{operated, requested}
use Rattle.bh_host.specs.Offers.{offer_view, responded}
use Rattle.bh_storage.specs.Calls.{Clean}
use Rattle.bh_tables.specs.Typed.{Tables}
use Rattle.bh_view.specs.View.{latest_of, view}
use Rattle.bh_host.proofs.Asking.{requested_ok, requested_err, operates_as}
use Rattle.bh_host.proofs.serve.requested.Goals as goal

pub operate-requires-clause-early : goal.operate-requires-clause-early
operate-requires-clause-early g c clean =
    let within = c.in-Ok.ensures.within in
    subst (λ (x : Tables). c.args.at ≤ latest_of x) (sym (c.in-Ok.ensures.decides [] clean).1) (c.requires.early (within.intact clean.0, within.opened clean.0 clean.1))

pub returns-in-Ok-clause-operates : goal.returns-in-Ok-clause-operates
returns-in-Ok-clause-operates g c =
    let seen = g.H.Storage.seen in
    let old = seen c.args.host.now in
    let mid = seen c.operation_asked.new.host in
    let key = c.args.key.now in
    let head = c.args.head.now in
    let operation = c.in-Ok.operation in
    let within = c.operate.ensures.goes_on.within in
    operates_as (offer_view (seen c.operate.new.self).now) key.tenant (λ given s. responded (operated mid.limits c.args.at given operation s)) (λ given s. responded (requested old.limits c.args.at (with_body head given) s)) (Clean g.H.Storage.IsIntact g.H.Storage.IsOpen c.operate.new.self) _ _ old.now mid.now (seen c.operate.new.self).now c.operate.result
    (λ clean. (c.in-Ok.ensures.decides [] (within.intact clean.0, within.opened clean.0 clean.1)).1)
    (λ clean given.
    ap responded (requested_ok old.limits c.args.at key (with_body head given) (view old.now key.tenant) operation (c.requires.keyed given) (c.in-Ok.ensures.decides given (within.intact clean.0, within.opened clean.0 clean.1)).0
    ∙ ap (λ (l : HostLimits). operated l c.args.at given operation (view old.now key.tenant)) (sym c.in-Ok.ensures.within.limits)))
    c.operate.ensures.operates

pub returns-in_err-take_whole-in-Err-Refused-clause-operates : goal.returns-in_err-take_whole-in-Err-Refused-clause-operates
returns-in_err-take_whole-in-Err-Refused-clause-operates g c =
    let p = err_from_is_err_and c.from_residual.result c.from_residual.ensures.1 in
    let (given, gives) = c.take_whole.ensures.some in
    rw (p.1, p.2) (record { given = given; gives = gives; decided = c.in_err-take_whole-in-Err-Refused.ensures.stopped; carries = λ _. tt })

pub returns-in_ok-take_whole-in-Err-Refused-clause-operates : goal.returns-in_ok-take_whole-in-Err-Refused-clause-operates
returns-in_ok-take_whole-in-Err-Refused-clause-operates g c =
    let old = g.H.Storage.seen c.args.host.now in
    let key = c.args.key.now in
    let head = c.args.head.now in
    let (given, gives) = c.take_whole.ensures.some in
    record {
      given = given;
      gives = gives;
      decided = c.in_ok-take_whole-in-Err-Refused.ensures.whole;
      carries = λ clean.
          let d = rw c.in-Err-Refused.field-0-is at c.in-Err-Refused.ensures.decides given clean in
          (ap responded (requested_err old.limits c.args.at key (with_body head given) (view old.now key.tenant) c.in-Err-Refused.rejection (c.requires.keyed given) d.0 ∙ ap (λ (r : Rejection). Err r) (sym c.in-Err-Refused.rejection-is)), d.1);
    }

pub returns-in-Err-Failed-clause-operates : goal.returns-in-Err-Failed-clause-operates
returns-in-Err-Failed-clause-operates g c = record { given = []; gives = gives_none _ c.requires.going; decided = going_may _ c.requires.going; carries = λ _. tt }
