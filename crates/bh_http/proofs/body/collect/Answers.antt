use Rattle.std.proofs.Common.{subst, sym}
use Rattle.bh_http.specs.Bodies.{Gives}
use Rattle.bh_http.proofs.BodyLemmas.{gives_then, if_err}
use Rattle.bh_http.proofs.body.collect.Goals as goal

pub taking-preserved : goal.taking-preserved
taking-preserved g c = record {
  going = c.in_ok-count.ensures.going;
  gives = subst (Gives (g.B.Body.coming c.args.body.now) _) (sym c.in_ok-append.ensures) (gives_then _ _ _ c.taking.bytes.items _ c.taking.invariant.going c.taking.invariant.gives c.in_ok-count.ensures.gives);
}

pub returns-in_err-append-clause-some : goal.returns-in_err-append-clause-some
returns-in_err-append-clause-some g c =
    if_err c.from_residual-in_err-append.result (_, gives_then _ _ _ c.taking.bytes.items _ c.taking.invariant.going c.taking.invariant.gives c.in_ok-count.ensures.gives)

pub returns-in_err-count-clause-some : goal.returns-in_err-count-clause-some
returns-in_err-count-clause-some g c =
    if_err c.from_residual.result (_, gives_then _ _ _ c.taking.bytes.items _ c.taking.invariant.going c.taking.invariant.gives c.in_err-count.ensures.none)
