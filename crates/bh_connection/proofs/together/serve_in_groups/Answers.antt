use Rattle.std.proofs.Common.{◌≡◌, ◌≤◌, map, length, take, drop, refl, sym, ap, subst, ◌∙◌, arith}
use Rattle.std.proofs.lemmas.List.Elements.{All-drop, All-same}
use Rattle.bh_event.specs.Events.{arrival}
use Rattle.bh_host.proofs.Resting.{stays_then}
use Rattle.bh_connection.specs.Each.{IsGoing, ends}
use Rattle.bh_connection.specs.Together.{AllTaken, IsFirstUntaken}
use Rattle.bh_connection.proofs.TogetherLemmas.{both_served, all_served, first_others}
use Rattle.bh_connection.proofs.together.serve_in_groups.Goals as goal

pub serve_others-requires-clause-going : goal.serve_others-requires-clause-going
serve_others-requires-clause-going g c =
    let at = ends g.R.Source.remaining g.R.Source.transfers g.W.Sink.contents g.W.Sink.transfers in
    let firsts = c.args.arrivals.now in
    let n = length c.take_all-failed.new.events.items in
    let len : c.len.result ≡ n = omega (arith, c.len.ensures, c.take_all-failed.new.events.ok.0) in
    let back = c.split_at_mut-taken.ensures.back ∙ ap (λ k. drop k c.take_all-failed.new.arrivals) len in
    let same = first_others _ at c.in-Some.error (drop n firsts) _ c.in-Some.ensures.untaken in
    All-same IsGoing _ _ (ap (drop 1) back ∙ same) (All-drop IsGoing 1 (drop n firsts) (All-drop IsGoing n firsts c.requires.going))

pub returns-in-Some-clause-stays : goal.returns-in-Some-clause-stays
returns-in-Some-clause-stays g c = stays_then c.answer_taken.ensures.stays c.serve_others.ensures.stays

pub returns-in-Some-clause-served : goal.returns-in-Some-clause-served
returns-in-Some-clause-served g c =
    let at = ends g.R.Source.remaining g.R.Source.transfers g.W.Sink.contents g.W.Sink.transfers in
    let host = c.args.host.now in
    let mid = c.answer_taken.new.host in
    let firsts = c.args.arrivals.now in
    let nows = c.take_all-failed.new.arrivals in
    let events = c.take_all-failed.new.events.items in
    let n = length events in
    let split = c.split_at_mut-taken in
    let len : c.len.result ≡ n = omega (arith, c.len.ensures, c.take_all-failed.new.events.ok.0) in
    let front = split.ensures.front ∙ ap (λ k. take k nows) len in
    let back = split.ensures.back ∙ ap (λ k. drop k nows) len in
    let limits = c.limits.ensures in
    let taken : AllTaken (g.H.Storage.seen host).limits (map at (take n firsts)) (map at split.result.0.now) (map arrival c.as_slice.result.now) =
    subst (λ l. AllTaken l (map at (take n firsts)) (map at split.result.0.now) (map arrival c.as_slice.result.now)) limits
    (subst (λ l. AllTaken c.limits.result (map at (take n firsts)) (map at l) (map arrival c.as_slice.result.now)) (sym front)
    (subst (λ l. AllTaken c.limits.result (map at (take n firsts)) (map at (take n nows)) (map arrival l)) (sym c.as_slice.ensures.value) c.take_all-failed.ensures.taken)) in
    let untaken : IsFirstUntaken (g.H.Storage.seen mid).limits at c.in-Some.error (drop n firsts) split.result.1.now =
    subst (λ l. IsFirstUntaken l at c.in-Some.error (drop n firsts) split.result.1.now) (limits ∙ sym c.answer_taken.ensures.stays.limits)
    (subst (λ l. IsFirstUntaken c.limits.result at c.in-Some.error (drop n firsts) l) (sym back) c.in-Some.ensures.untaken) in
    both_served g.H.Storage.IsIntact g.H.Storage.IsOpen g.H.Storage.seen g.H.Storage.left at firsts c.answer_taken.new.arrivals c.serve_others.new.arrivals _ n _ _ _ host mid c.serve_others.new.host refl c.serve_others.ensures.stays.intact c.answer_taken.ensures.stays.limits
    (c.answer_taken.ensures.served (map at (take n firsts)) taken) (c.serve_others.ensures.served (drop n firsts) untaken)

pub returns-clause-served : goal.returns-clause-served
returns-clause-served g c =
    let at = ends g.R.Source.remaining g.R.Source.transfers g.W.Sink.contents g.W.Sink.transfers in
    let host = c.args.host.now in
    let firsts = c.args.arrivals.now in
    let nows = c.take_all-failed.new.arrivals in
    let events = c.take_all-failed.new.events.items in
    let n = length events in
    let split = c.split_at_mut-taken in
    let len : c.len.result ≡ n = omega (arith, c.len.ensures, c.take_all-failed.new.events.ok.0) in
    let front = split.ensures.front ∙ ap (λ k. take k nows) len in
    let back = split.ensures.back ∙ ap (λ k. drop k nows) len in
    let taken : AllTaken (g.H.Storage.seen host).limits (map at (take n firsts)) (map at split.result.0.now) (map arrival c.as_slice.result.now) =
    subst (λ l. AllTaken l (map at (take n firsts)) (map at split.result.0.now) (map arrival c.as_slice.result.now)) c.limits.ensures
    (subst (λ l. AllTaken c.limits.result (map at (take n firsts)) (map at l) (map arrival c.as_slice.result.now)) (sym front)
    (subst (λ l. AllTaken c.limits.result (map at (take n firsts)) (map at (take n nows)) (map arrival l)) (sym c.as_slice.ensures.value) c.take_all-failed.ensures.taken)) in
    let whole = c.in_default.ensures.whole in
    let le : length firsts ≤ n = omega (arith, whole) in
    let le2 : length nows ≤ n = omega (arith, whole, c.take_all-failed.ensures.same) in
    all_served g.H.Storage.IsIntact g.H.Storage.IsOpen g.H.Storage.seen g.H.Storage.left at firsts nows c.answer_taken.new.arrivals split.result.1.now n _ _ host c.answer_taken.new.host le le2 back (c.answer_taken.ensures.served (map at (take n firsts)) taken)
