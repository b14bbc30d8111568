use Rattle.bh_http.proofs.BodyLemmas.{gives_then}
use Rattle.bh_http.proofs.body.drain_due.Goals as goal

pub taking-preserved : goal.taking-preserved
taking-preserved g c =
    let (given, gives) = c.taking.invariant.some in
    record {
      going = c.in_ok-next.ensures.going;
      some = (_, gives_then _ _ _ given _ c.taking.invariant.going gives c.in_ok-next.ensures.gives);
    }

pub returns-in_err-next-clause-some : goal.returns-in_err-next-clause-some
returns-in_err-next-clause-some g c =
    let (given, gives) = c.taking.invariant.some in
    (_, gives_then _ _ _ given _ c.taking.invariant.going gives c.in_err-next.ensures.none)
