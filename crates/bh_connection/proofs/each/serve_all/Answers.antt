use Rattle.std.proofs.Common.{◌<◌, length, refl, sym, subst, arith, rules}
use Rattle.std.proofs.lemmas.List.Elements.{All-get_or}
use Rattle.bh_host.proofs.Resting.{stays_here, stays_then}
use Rattle.bh_connection.specs.Each.{IsGoing, ends}
use Rattle.bh_connection.proofs.EachLemmas.{more_none, served_next, served_all, same_at, rest_next}
use Rattle.bh_connection.proofs.each.serve_all.Goals as goal

pub loop-index-init : goal.loop-index-init
loop-index-init g c =
    let old = c.args.host.now in
    record {
      stays = stays_here old c.requires.rest;
      count = search rules;
      room = refl;
      rest = refl;
      served = more_none g.H.Storage.IsIntact g.H.Storage.IsOpen g.H.Storage.seen g.H.Storage.left c.args.serveds.now.items old;
    }

pub serve_arrival-served-requires-clause-going : goal.serve_arrival-served-requires-clause-going
serve_arrival-served-requires-clause-going g c =
    let firsts = c.args.arrivals.now in
    let nows = c.loop-index.arrivals in
    let i = c.loop-index.index in
    let d = c.index-arrivals-index.result in
    let lt : i < length firsts = omega (arith, c.loop-index-test.true, c.loop-index.auto.arrivals) in
    subst IsGoing (sym (same_at nows firsts i d c.loop-index.invariant.rest)) (All-get_or IsGoing firsts i d lt c.requires.going)

pub loop-index-preserved : goal.loop-index-preserved
loop-index-preserved g c =
    let firsts = c.args.arrivals.now in
    let nows = c.loop-index.arrivals in
    let i = c.loop-index.index in
    let d = c.index-arrivals-index.result in
    let so_far = c.loop-index.invariant in
    let one = c.serve_arrival-served.ensures in
    let lt : i < length firsts = omega (arith, c.loop-index-test.true, c.loop-index.auto.arrivals) in
    let lt2 : i < length nows = omega (arith, c.loop-index-test.true, c.loop-index.auto.arrivals) in
    record {
      stays = stays_then so_far.stays one.stays;
      count = search rules;
      room = search rules;
      rest = rest_next nows firsts i c.serve_arrival-served.new.arrival so_far.rest;
      served = served_next g.H.Storage.IsIntact g.H.Storage.IsOpen g.H.Storage.seen g.H.Storage.left (ends g.R.Source.remaining g.R.Source.transfers g.W.Sink.contents g.W.Sink.transfers) firsts nows _ i d _ c.serve_arrival-served.new.arrival _ _ _ c.serve_arrival-served.result _ _ _
          lt lt2 (same_at nows firsts i d so_far.rest) refl c.push_reserved.ensures.items one.stays.intact so_far.stays.limits so_far.served one.came_to;
    }

pub returns-clause-served : goal.returns-clause-served
returns-clause-served g c =
    served_all g.H.Storage.IsIntact g.H.Storage.IsOpen g.H.Storage.seen g.H.Storage.left (ends g.R.Source.remaining g.R.Source.transfers g.W.Sink.contents g.W.Sink.transfers) c.args.arrivals.now c.loop-index.arrivals c.loop-index.index
    c.args.serveds.now.items c.loop-index.serveds.items c.args.host.now c.loop-index.host
    (omega (arith, c.loop-index-test.false, c.loop-index.auto.arrivals)) (omega (arith, c.loop-index-test.false, c.loop-index.auto.arrivals)) c.loop-index.invariant.served
