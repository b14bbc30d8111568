use Rattle.std.proofs.Common.{◌<◌, ◌≡◌, [], length, map, refl, sym, subst, arith, rules}
use Rattle.std.proofs.lemmas.List.{take-set}
use Rattle.std.proofs.lemmas.List.Elements.{All-get_or, All-set}
use Rattle.bh_event.specs.Events.{arrival}
use Rattle.bh_connection.specs.Each.{IsGoing, ends}
use Rattle.bh_connection.specs.Together.{IsAnswerable, AllTaken}
use Rattle.bh_connection.proofs.EachLemmas.{same_at, rest_next}
use Rattle.bh_connection.proofs.TogetherLemmas.{taken_next, taken_so_far, untaken_next}
use Rattle.bh_connection.proofs.taking.take_all.Goals as goal

pub loop-index-init : goal.loop-index-init
loop-index-init g c = record {
  answerable = c.requires.answerable;
  count = search rules;
  room = c.requires.room;
  rest = refl;
  taken = subst (λ es. AllTaken c.args.limits.now [] [] (map arrival es)) (sym c.requires.empty) tt;
}

pub take_event-requires : goal.take_event-requires
take_event-requires g c =
    let firsts = c.args.arrivals.now in
    let nows = c.loop-index.arrivals in
    let i = c.loop-index.index in
    let d = c.index-arrivals-index.result in
    let lt : i < length firsts = omega (arith, c.loop-index-test.true, c.loop-index.auto.arrivals) in
    record { going = subst IsGoing (sym (same_at nows firsts i d c.loop-index.invariant.rest)) (All-get_or IsGoing firsts i d lt c.requires.going) }

pub loop-index-preserved : goal.loop-index-preserved
loop-index-preserved g c =
    let firsts = c.args.arrivals.now in
    let nows = c.loop-index.arrivals in
    let i = c.loop-index.index in
    let d = c.index-arrivals-index.result in
    let so_far = c.loop-index.invariant in
    let is = c.take_event.new.arrival in
    let lt : i < length firsts = omega (arith, c.loop-index-test.true, c.loop-index.auto.arrivals) in
    let lt2 : i < length nows = omega (arith, c.loop-index-test.true, c.loop-index.auto.arrivals) in
    record {
      answerable = All-set IsAnswerable nows i is (c.take_event.ensures.answerable (All-get_or IsAnswerable nows i d lt2 so_far.answerable)) so_far.answerable;
      count = search rules;
      room = search rules;
      rest = rest_next nows firsts i is so_far.rest;
      taken = taken_next (ends g.R.Source.remaining g.R.Source.transfers g.W.Sink.contents g.W.Sink.transfers) arrival c.args.limits.now firsts nows _ i d _ is _ _ c.in-Ok.event
          lt lt2 (same_at nows firsts i d so_far.rest) refl c.push_reserved.ensures.items so_far.taken c.in-Ok.ensures.taken;
    }

pub returns-in-Err-clause-taken : goal.returns-in-Err-clause-taken
returns-in-Err-clause-taken g c =
    let nows = c.loop-index.arrivals in
    let i = c.loop-index.index in
    let so_far = c.loop-index.invariant in
    let count : length c.loop-index.events.items ≡ i = omega (arith, so_far.count, c.loop-index.events.ok.0) in
    taken_so_far (ends g.R.Source.remaining g.R.Source.transfers g.W.Sink.contents g.W.Sink.transfers) c.args.limits.now c.args.arrivals.now nows _ i _ (map arrival c.loop-index.events.items)
    count (take-set nows i c.take_event.new.arrival) so_far.taken

pub returns-in-Err-clause-untaken : goal.returns-in-Err-clause-untaken
returns-in-Err-clause-untaken g c =
    let firsts = c.args.arrivals.now in
    let nows = c.loop-index.arrivals in
    let i = c.loop-index.index in
    let d = c.index-arrivals-index.result in
    let so_far = c.loop-index.invariant in
    let lt : i < length firsts = omega (arith, c.loop-index-test.true, c.loop-index.auto.arrivals) in
    let lt2 : i < length nows = omega (arith, c.loop-index-test.true, c.loop-index.auto.arrivals) in
    let count : length c.loop-index.events.items ≡ i = omega (arith, so_far.count, c.loop-index.events.ok.0) in
    untaken_next (ends g.R.Source.remaining g.R.Source.transfers g.W.Sink.contents g.W.Sink.transfers) c.args.limits.now c.in-Err.error firsts nows _ i _ d _ c.take_event.new.arrival
    count lt lt2 (same_at nows firsts i d so_far.rest) refl so_far.rest c.in-Err.ensures.untaken

pub returns-in-Err-clause-answerable : goal.returns-in-Err-clause-answerable
returns-in-Err-clause-answerable g c =
    let nows = c.loop-index.arrivals in
    let i = c.loop-index.index in
    let so_far = c.loop-index.invariant in
    let lt2 : i < length nows = omega (arith, c.loop-index-test.true, c.loop-index.auto.arrivals) in
    All-set IsAnswerable nows i c.take_event.new.arrival (c.take_event.ensures.answerable (All-get_or IsAnswerable nows i c.index-arrivals-index.result lt2 so_far.answerable)) so_far.answerable

pub returns-clause-taken : goal.returns-clause-taken
returns-clause-taken g c =
    let so_far = c.loop-index.invariant in
    let count : length c.loop-index.events.items ≡ c.loop-index.index = omega (arith, so_far.count, c.loop-index.events.ok.0) in
    taken_so_far (ends g.R.Source.remaining g.R.Source.transfers g.W.Sink.contents g.W.Sink.transfers) c.args.limits.now c.args.arrivals.now c.loop-index.arrivals c.loop-index.arrivals c.loop-index.index _ (map arrival c.loop-index.events.items)
    count refl so_far.taken
