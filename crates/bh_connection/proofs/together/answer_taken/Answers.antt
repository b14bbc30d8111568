use Rattle.std.proofs.Common.{◌≤◌, ◌+◌, ◌++◌, map, length, length-append, take, drop, refl, sym, ap, subst, ◌∙◌, arith, rules}
use Rattle.std.proofs.lemmas.List.{take_all, take_rest, length-map, drop-drop}
use Rattle.std.proofs.lemmas.List.Elements.{All-drop, All-same}
use Rattle.bh_event.specs.Events.{arrival}
use Rattle.bh_host.proofs.Resting.{stays_here, stays_then}
use Rattle.bh_connection.specs.Each.{ends}
use Rattle.bh_connection.specs.Together.{IsAnswerable, AllTaken, HasServedMore}
use Rattle.bh_connection.proofs.EachLemmas.{more_none}
use Rattle.bh_connection.proofs.TogetherLemmas.{groups_next, drop_behind, taken_count}
use Rattle.bh_connection.proofs.together.answer_taken.Goals as goal

pub groups-init : goal.groups-init
groups-init g c = record {
  stays = stays_here c.args.host.now c.requires.rest;
  within = omega arith;
  same = refl;
  count = search rules;
  room = refl;
  rest = refl;
  served = λ befores taken. more_none g.H.Storage.IsIntact g.H.Storage.IsOpen g.H.Storage.seen g.H.Storage.left c.args.serveds.now.items c.args.host.now;
}

pub answer_next-done-requires-clause-answerable : goal.answer_next-done-requires-clause-answerable
answer_next-done-requires-clause-answerable g c =
    All-same IsAnswerable _ _ (c.split_at_mut-others.ensures.back ∙ c.groups.invariant.rest) (All-drop IsAnswerable c.groups.done c.args.arrivals.now c.requires.answerable)

pub groups-preserved : goal.groups-preserved
groups-preserved g c =
    let at = ends g.R.Source.remaining g.R.Source.transfers g.W.Sink.contents g.W.Sink.transfers in
    let so_far = c.groups.invariant in
    let split = c.split_at_mut-others in
    let one = c.answer_next-done.ensures in
    let k = c.groups.done in
    let n = c.answer_next-done.result in
    let firsts = c.args.arrivals.now in
    let nows = c.groups.arrivals in
    let ys = c.answer_next-done.new.arrivals in
    let le : k ≤ length nows = omega (arith, so_far.within, so_far.same) in
    record {
      stays = stays_then so_far.stays one.stays;
      within = omega (arith, so_far.same, split.ensures.back_len, one.within);
      same = omega (arith, so_far.same, split.ensures.back_len, split.ensures.front_len, one.same, length-append split.result.0.now ys);
      count = omega (arith, so_far.count, one.count, c.groups.serveds.ok.0, c.answer_next-done.new.serveds.ok.0);
      room = one.capacity ∙ so_far.room;
      rest = ap (λ l. drop (k + n) (l ++ ys)) split.ensures.front ∙ drop_behind k n nows ys le ∙ one.others ∙ ap (drop n) (split.ensures.back ∙ so_far.rest) ∙ drop-drop n k firsts;
      served = λ befores taken. groups_next g.H.Storage.IsIntact g.H.Storage.IsOpen g.H.Storage.seen g.H.Storage.left at arrival befores firsts nows ys _ c.args.events.now k n _ _ _ c.args.host.now c.groups.host c.answer_next-done.new.host
          le so_far.rest (ap (λ l. l ++ ys) split.ensures.front) one.stays.intact so_far.stays.limits taken (so_far.served befores taken)
          (λ cs all. one.served cs (subst (λ es. AllTaken (g.H.Storage.seen c.groups.host).limits cs (map at split.result.1.now) (map arrival es)) (sym (take_rest c.args.events.now k))
          (subst (λ l. AllTaken (g.H.Storage.seen c.groups.host).limits cs (map at l) (map arrival (drop k c.args.events.now))) (sym split.ensures.back) all)));
    }

pub returns-clause-served : goal.returns-clause-served
returns-clause-served g c = λ befores taken.
    let at = ends g.R.Source.remaining g.R.Source.transfers g.W.Sink.contents g.W.Sink.transfers in
    let limits = (g.H.Storage.seen c.args.host.now).limits in
    let k = c.groups.done in
    let firsts = c.args.arrivals.now in
    let nows = c.groups.arrivals in
    let so_far = c.groups.invariant in
    let count = taken_count limits befores (map at firsts) (map arrival c.args.events.now) taken in
    let le : length befores ≤ k = omega (arith, count, length-map firsts at, c.requires.whole, c.groups-test.false) in
    let le2 : length nows ≤ k = omega (arith, so_far.same, c.requires.whole, c.groups-test.false) in
    subst (λ b. HasServedMore g.H.Storage.IsIntact g.H.Storage.IsOpen g.H.Storage.seen g.H.Storage.left b (map at nows) c.args.serveds.now.items c.groups.serveds.items c.args.host.now c.groups.host) (take_all k befores le)
    (subst (λ l. HasServedMore g.H.Storage.IsIntact g.H.Storage.IsOpen g.H.Storage.seen g.H.Storage.left (take k befores) (map at l) c.args.serveds.now.items c.groups.serveds.items c.args.host.now c.groups.host) (take_all k nows le2) (so_far.served befores taken))
