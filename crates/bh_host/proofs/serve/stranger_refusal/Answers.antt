use Rattle.bh_http.specs.Views.{with_body}
use Rattle.bh_host.proofs.Asking.{stranger_ok, stranger_err}
use Rattle.bh_host.proofs.serve.stranger_refusal.Goals as goal

pub returns-in-Ok : goal.returns-in-Ok
returns-in-Ok c = λ limits at body. stranger_ok limits at (with_body c.args.head.now body) _ (c.in-Ok.ensures.ok body)

pub returns-in-Err : goal.returns-in-Err
returns-in-Err c = λ limits at body. stranger_err limits at (with_body c.args.head.now body) c.in-Err.refusal (c.in-Err.ensures.err body)
