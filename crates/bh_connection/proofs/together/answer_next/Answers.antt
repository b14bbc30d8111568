use Rattle.std.proofs.Common.{◌<◌, map, length, take, set, sym, subst, arith}
use Rattle.std.proofs.lemmas.List.{take-map}
use Rattle.std.proofs.lemmas.List.Elements.{All-get_or}
use Rattle.bh_event.specs.Events.{arrival}
use Rattle.bh_host.specs.Groups.{tolds_in}
use Rattle.bh_host.specs.Runs.{GoesOn}
use Rattle.bh_host.proofs.Resting.{stays_then}
use Rattle.bh_connection.specs.Each.{ends}
use Rattle.bh_connection.specs.Together.{IsAnswerable, HasTold, HasServedMore}
use Rattle.bh_connection.proofs.TogetherLemmas.{group_served, first_refused, after_first, some_counted}
use Rattle.bh_connection.proofs.together.answer_next.Goals as goal

pub returns-in-Ok-clause-served : goal.returns-in-Ok-clause-served
returns-in-Ok-clause-served g c = λ befores taken.
    let at = ends g.R.Source.remaining g.R.Source.transfers g.W.Sink.contents g.W.Sink.transfers in
    let n = c.answer_group.result in
    let group = c.in-Ok.group in
    let mid = c.apply_together.new.host in
    let new = c.answer_group.new.host in
    let said = tolds_in (g.H.Storage.seen mid).now group in
    let (tolds, all, is) = c.answer_group.ensures.told in
    let told = subst (λ l. HasTold tolds l (map at (take n c.answer_group.new.arrivals)) c.args.serveds.now.items c.answer_group.new.serveds.items) (sym (take-map at n c.args.arrivals.now)) all in
    group_served g.H.Storage.IsIntact g.H.Storage.IsOpen g.H.Storage.seen g.H.Storage.left n befores (map at c.args.arrivals.now) (map at (take n c.answer_group.new.arrivals)) (map arrival c.args.events.now)
    said tolds _ _ c.args.host.now mid new
    (λ others intact alike. subst (λ k. GoesOn g.H.Storage.IsOpen g.H.Storage.seen g.H.Storage.left (take k others) said c.args.host.now mid) (sym c.answer_group.ensures.count)
    (c.in-Ok.ensures.goes_on (c.answer_group.ensures.stays.intact intact) others alike))
    c.answer_group.ensures.keeps is told taken

pub returns-in-Ok-clause-some : goal.returns-in-Ok-clause-some
returns-in-Ok-clause-some g c =
    let group = c.in-Ok.group in
    let some = some_counted group.planned (length group.tolds.items) (length c.args.events.now) c.requires.some c.in-Ok.ensures.whole in
    subst (λ k. 0 < k) (sym c.answer_group.ensures.count) some

pub returns-in-Ok-clause-within : goal.returns-in-Ok-clause-within
returns-in-Ok-clause-within g c = omega (arith, c.answer_group.ensures.count, c.in-Ok.ensures.count, c.requires.whole)

pub returns-in-Ok-clause-stays : goal.returns-in-Ok-clause-stays
returns-in-Ok-clause-stays g c = stays_then c.in-Ok.ensures.stays c.answer_group.ensures.stays

pub returns-in-Err-clause-others : goal.returns-in-Err-clause-others
returns-in-Err-clause-others g c = after_first c.args.arrivals.now c.leave-served.new.arrival

pub returns-in-Err-clause-served : goal.returns-in-Err-clause-served
returns-in-Err-clause-served g c = λ befores taken.
    let at = ends g.R.Source.remaining g.R.Source.transfers g.W.Sink.contents g.W.Sink.transfers in
    let nows = c.args.arrivals.now in
    let d = c.index-arrivals-0.result in
    let some : 0 < length nows = omega (arith, c.requires.some, c.requires.whole) in
    subst (λ h. HasServedMore g.H.Storage.IsIntact g.H.Storage.IsOpen g.H.Storage.seen g.H.Storage.left (take 1 befores) (map at (take 1 (set nows 0 c.leave-served.new.arrival))) c.args.serveds.now.items c.push_reserved.new.self.items c.args.host.now h) (sym c.in-Err.ensures.err)
    (first_refused g.H.Storage.IsIntact g.H.Storage.IsOpen g.H.Storage.seen g.H.Storage.left at arrival befores nows c.args.events.now d c.leave-served.new.arrival c.args.serveds.now.items c.push_reserved.new.self.items c.leave-served.result c.args.host.now
    some (All-get_or IsAnswerable nows 0 d some c.requires.answerable) c.leave-served.ensures.left c.push_reserved.ensures.items taken)
