use Rattle.std.proofs.Common.{refl, ap, ◌∙◌}
use Rattle.std.proofs.lemmas.Result.{err_from_is_err_and}
use Rattle.bh_types.specs.Rejections.{plainly}
use Rattle.bh_http.specs.Views.{with_body}
use Rattle.bh_view.specs.View.{view}
use Rattle.bh_host.proofs.Asking.{secret_refused, asked_so, key_decides, names_decide}
use Rattle.bh_host.proofs.serve.operation_asked.Goals as goal

pub returns-in_err-secret-clause-decides : goal.returns-in_err-secret-clause-decides
returns-in_err-secret-clause-decides g c = λ given clean.
    let p = err_from_is_err_and c.from_residual.result c.from_residual.ensures.1 in
    let key = c.args.key.now in
    rw (p.1, p.2) (secret_refused key (with_body c.args.head.now given) (view (g.H.Storage.seen c.args.host.now).now key.tenant) _ (c.in_err-secret.ensures.err given), refl)

pub returns-in_err-authenticate-clause-decides : goal.returns-in_err-authenticate-clause-decides
returns-in_err-authenticate-clause-decides g c = λ given clean.
    let p = err_from_is_err_and c.from_residual-in_err-authenticate.result c.from_residual-in_err-authenticate.ensures.1 in
    let key = c.args.key.now in
    rw (p.1, p.2) (key_decides key (with_body c.args.head.now given) c.in_ok-secret.secret.now (g.H.Storage.seen c.args.host.now).now (g.H.Storage.seen c.authenticate.new.self).now (view (g.H.Storage.seen c.args.host.now).now key.tenant)
    (c.in_ok-secret.ensures.ok given) c.in_err-authenticate.field-0.0 (c.in_err-authenticate.ensures.decides clean))

pub returns-in_err-operation_of-clause-decides : goal.returns-in_err-operation_of-clause-decides
returns-in_err-operation_of-clause-decides g c = λ given clean.
    let p = err_from_is_err_and c.from_residual-in_err-operation_of.result c.from_residual-in_err-operation_of.ensures.1 in
    let key = c.args.key.now in
    let known = c.in_ok-authenticate.ensures.decides clean in
    rw (p.1, p.2) (names_decide key (with_body c.args.head.now given) c.in_ok-secret.secret.now (g.H.Storage.seen c.args.host.now).now (g.H.Storage.seen c.authenticate.new.self).now (view (g.H.Storage.seen c.args.host.now).now key.tenant)
    (c.in_ok-secret.ensures.ok given) known.0 known.1 c.in_err-operation_of.field-0.0 (c.in_err-operation_of.ensures given))

pub returns-clause-decides : goal.returns-clause-decides
returns-clause-decides g c = λ given clean.
    let key = c.args.key.now in
    let known = c.in_ok-authenticate.ensures.decides clean in
    (asked_so key (with_body c.args.head.now given) (view (g.H.Storage.seen c.args.host.now).now key.tenant) c.in_ok-secret.secret.now (c.in_ok-secret.ensures.ok given) known.0 ∙ ap plainly (c.in_ok-operation_of.ensures given), known.1)
