use Rattle.std.proofs.Common.{refl, sym, ap, subst, ◌∙◌, arith, map, length}
use Rattle.std.specs.List.{zip}
use Rattle.std.proofs.lemmas.List.{take_all, length_push}
use Rattle.std.proofs.lemmas.Iterator.{YieldsList-from_slice, YieldsList-from_zip}
use Rattle.std.proofs.lemmas.Iterator.Consumers.{YieldsList-at, YieldsList-turn, YieldsList-end}
use Rattle.std.proofs.lemmas.Iterator.Adapters.{YieldsList-from_vec}
use Rattle.bh_http.specs.Transfers.{Logs}
use Rattle.bh_http.proofs.TransferLemmas.{logs_nothing}
use Rattle.bh_connection.specs.Each.{ends}
use Rattle.bh_connection.specs.Groups.{Closed}
use Rattle.bh_connection.proofs.GroupLemmas.{closes_are, closed_more}
use Rattle.bh_connection.proofs.group.close_each.Goals as goal

pub loop-arrival-init : goal.loop-arrival-init
loop-arrival-init g c = record { operated = refl; closed = logs_nothing _ }

pub loop-arrival-preserved : goal.loop-arrival-preserved
loop-arrival-preserved g c =
    let so_far = c.loop-arrival.invariant in
    let all = YieldsList-from_zip {s = c.zip-arrival-items.result} (YieldsList-at c.zip-arrival-items.ensures.first (YieldsList-from_vec {s = c.into_iter.result} c.args.arrivals.items c.into_iter.ensures.rest (c.into_iter.ensures.len ∙ c.args.arrivals.ok.0)))
    (YieldsList-at c.zip-arrival-items.ensures.second (YieldsList-from_slice {s = c.iter.result} c.args.serveds.now c.iter.ensures.rest)) in
    let turn = YieldsList-turn (YieldsList-at c.into_iter-arrival-iterator.ensures.into_iter_gives all) c.loop-arrival.yielded c.loop-arrival.arrival-iterator c.loop-arrival.yielded_by c.next.result c.next.new.self (c.in-Some.arrival, c.in-Some.served) c.in-Some.is c.next.ensures.steps in
    record {
      operated = c.close.ensures.operated ∙ so_far.operated;
      closed = closed_more (λ p. Closed (ends g.A.Reader.Source.remaining g.A.Reader.Source.transfers g.A.Writer.Sink.contents g.A.Writer.Sink.transfers p.0) p.1) (zip c.args.arrivals.items c.args.serveds.now) (length c.loop-arrival.yielded) _ (c.in-Some.arrival, c.in-Some.served.now) _ _ _
          turn.0 turn.1 (length_push c.loop-arrival.yielded (c.in-Some.arrival, c.in-Some.served)) so_far.closed c.close.ensures.calls;
    }

pub returns-clause-closed : goal.returns-clause-closed
returns-clause-closed g c =
    let at = ends g.A.Reader.Source.remaining g.A.Reader.Source.transfers g.A.Writer.Sink.contents g.A.Writer.Sink.transfers in
    let pairs = zip c.args.arrivals.items c.args.serveds.now in
    let all = YieldsList-from_zip {s = c.zip-arrival-items.result} (YieldsList-at c.zip-arrival-items.ensures.first (YieldsList-from_vec {s = c.into_iter.result} c.args.arrivals.items c.into_iter.ensures.rest (c.into_iter.ensures.len ∙ c.args.arrivals.ok.0)))
    (YieldsList-at c.zip-arrival-items.ensures.second (YieldsList-from_slice {s = c.iter.result} c.args.serveds.now c.iter.ensures.rest)) in
    let end = YieldsList-end (YieldsList-at c.into_iter-arrival-iterator.ensures.into_iter_gives all) c.loop-arrival.yielded c.loop-arrival.arrival-iterator c.loop-arrival.yielded_by c.next.result c.next.new.self c.in-None.is c.next.ensures.steps in
    subst (Logs (g.A.Acceptor.calls c.args.acceptor.now) (g.A.Acceptor.calls c.loop-arrival.acceptor))
    (ap (map (λ p. Closed (at p.0) p.1)) (take_all (length c.loop-arrival.yielded) pairs (omega (arith, end.1))) ∙ sym (closes_are at c.args.arrivals.items c.args.serveds.now))
    c.loop-arrival.invariant.closed
