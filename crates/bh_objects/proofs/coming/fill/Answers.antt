use Rattle.std.proofs.Common.{arith, sym, subst}
use Rattle.bh_http.specs.Bodies.{Gives}
use Rattle.bh_http.proofs.BodyLemmas.{gives_none, gives_then, if_err, breaks_may}
use Rattle.bh_objects.proofs.Filling.{more_came, more_fits}
use Rattle.bh_objects.proofs.coming.fill.Goals as goal

pub filling-init : goal.filling-init
filling-init g c = record {
  fits = omega arith;
  going = c.requires.going;
  gives = gives_none _ c.requires.going;
}

pub filling-preserved : goal.filling-preserved
filling-preserved g c =
    let inv = c.filling.invariant in
    let step = c.in_ok-count.ensures in
    record {
      fits = more_fits _ _ _ _ _ inv.fits step.fits;
      going = step.going;
      gives = subst (Gives (g.B.Body.coming c.args.body.now) _) (sym (more_came _ _ _ _ _ inv.fits step.fits)) (gives_then _ _ _ _ _ inv.going inv.gives step.gives);
    }

pub returns-in_err-count-clause-stopped : goal.returns-in_err-count-clause-stopped
returns-in_err-count-clause-stopped g c =
    let inv = c.filling.invariant in
    if_err c.from_residual.result (_, gives_then _ _ _ _ _ inv.going inv.gives c.in_err-count.ensures.none, breaks_may _ c.in_err-count.ensures.broken)
