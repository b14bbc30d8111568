use Rattle.std.proofs.Common.{rules, arith, ◌∙◌}
use Rattle.bh_http.proofs.BodyLemmas.{gives_then, if_err, going_may}
use Rattle.bh_schema.proofs.Storing.{on_ok, within_then}
use Rattle.bh_objects.proofs.coming.take_all.Goals as goal

pub taking-preserved : goal.taking-preserved
taking-preserved g c =
    let inv = c.taking.invariant in
    let (given, gives, held, goes) = inv.came in
    let pushed = c.push.ensures in
    let is = c.in_ok-or_trouble.ensures.ok in
    record {
      within = within_then _ _ _ inv.opens inv.within pushed.within;
      opens = λ intact up. on_ok _ is pushed.opens intact (inv.opens (pushed.within.follows.intact intact) up);
      inside = on_ok _ is pushed.inside;
      copies = on_ok _ is pushed.copies;
      of = pushed.of ∙ inv.of;
      body = (let b = pushed.body in let i = inv.body in omega (arith, b, i));
      size = pushed.size ∙ inv.size;
      place = on_ok _ is pushed.small;
      fewer = on_ok _ is pushed.fewer;
      going = c.in_ok-count.ensures.going;
      came = (_, gives_then _ _ _ given _ inv.going gives c.in_ok-count.ensures.gives, c.update.ensures given held, λ clean. on_ok _ is pushed.goes clean given _ (goes (pushed.within.follows.clean clean)));
    }

pub returns-clause-takes : goal.returns-clause-takes
returns-clause-takes g c = record { within = c.taking.invariant.within; taken = c.taking.invariant; stopped = tt }

pub returns-in_err-count-clause-takes : goal.returns-in_err-count-clause-takes
returns-in_err-count-clause-takes g c =
    let inv = c.taking.invariant in
    let (given, gives, held, goes) = inv.came in
    let (last, came, may) = c.in_err-count.ensures.stopped in
    record {
      within = inv.within;
      taken = search rules;
      stopped = if_err c.from_residual-in_err-count.result (_, gives_then _ _ _ given last inv.going gives came, may);
    }

pub returns-in_err-or_trouble-clause-takes : goal.returns-in_err-or_trouble-clause-takes
returns-in_err-or_trouble-clause-takes g c =
    let inv = c.taking.invariant in
    let (given, gives, held, goes) = inv.came in
    record {
      within = within_then _ _ _ inv.opens inv.within c.push.ensures.within;
      taken = search rules;
      stopped = if_err c.from_residual-in_err-or_trouble.result (_, gives_then _ _ _ given _ inv.going gives c.in_ok-count.ensures.gives, going_may _ c.in_ok-count.ensures.going);
    }
