use Rattle.std.proofs.Common.{Err, sym, ap, ◌∙◌}
use Rattle.bh_types.specs.declared.rejection.Rejection.{Rejection}
use Rattle.bh_host.proofs.Serving.{served_nobody}
use Rattle.bh_host.proofs.receiving.serve.Goals as goal

pub serve_tenant-requires-clause-keyed : goal.serve_tenant-requires-clause-keyed
serve_tenant-requires-clause-keyed g c = λ given. sym (c.in_ok-key.ensures given) ∙ c.in-Some.is

pub returns-in_ok-text-in-None-clause-serves : goal.returns-in_ok-text-in-None-clause-serves
returns-in_ok-text-in-None-clause-serves g c =
    let (given, gives) = c.drain.ensures.some in
    served_nobody _ _ _ _ _ _ _ _ _ given gives c.in_ok-drain-in-None.ensures.whole (sym (c.in_ok-key.ensures given) ∙ c.in-None.is) (λ n. c.stranger_refusal.ensures _ n given ∙ ap (λ (r : Rejection). Err r) (sym c.from-rejection.ensures)) (c.in_ok-text-in-None.ensures given)
