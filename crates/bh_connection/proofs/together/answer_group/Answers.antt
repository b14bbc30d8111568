use Rattle.std.proofs.Common.{◌≡◌, ◌+◌, ◌++◌, ◌∷◌, ◌<◌, ◌≤◌, [], Some, map, length, sym, ap, subst, ◌∙◌, arith, append-nil}
use Rattle.bh_host.specs.Answers.{told}
use Rattle.bh_host.specs.Groups.{planned_in, planned_count}
use Rattle.bh_host.proofs.Resting.{stays_here}
use Rattle.bh_connection.specs.Each.{ends}
use Rattle.bh_connection.proofs.TogetherLemmas.{told_front, told_last, rest_last}
use Rattle.bh_connection.proofs.together.answer_group.Goals as goal

pub returns-clause-stays : goal.returns-clause-stays
returns-clause-stays g c = stays_here c.args.host.now c.requires.rest

pub returns-clause-told : goal.returns-clause-told
returns-clause-told g c =
    let said = map told c.args.group.tolds.items in
    let split = c.split_at_mut-first in
    let long : length c.tell_each.new.arrivals ≡ c.len-count.result = omega (arith, c.tell_each.ensures.same, split.ensures.front_len) in (
      said,
      told_front (ends g.R.Source.remaining g.R.Source.transfers g.W.Sink.contents g.W.Sink.transfers) said c.args.arrivals.now split.result.0.now split.result.1.now c.tell_each.new.arrivals c.len-count.result _ _ split.ensures.front long
          (rw c.as_slice.ensures.value at c.tell_each.ensures.told),
      λ _. sym (append-nil said) ∙ ap (λ p. said ++ planned_in (g.H.Storage.seen c.args.host.now).now p) (sym c.in-None.is),
    )

pub returns-in-Some-clause-told : goal.returns-in-Some-clause-told
returns-in-Some-clause-told g c =
    let said = map told c.args.group.tolds.items in
    let split = c.split_at_mut-first in
    let long : length c.tell_each.new.arrivals ≡ c.len-count.result = omega (arith, c.tell_each.ensures.same, split.ensures.front_len) in
    let some : 0 < length split.result.1.now =
    (let enough = subst (λ p. length c.args.group.tolds.items + planned_count p ≤ length c.args.arrivals.now) c.in-Some.is c.requires.enough in
    omega (arith, enough, split.ensures.back_len, c.len-count.ensures, c.args.group.tolds.ok.0)) in
    let (bytes, one, is) = c.tell_planned-served.ensures.told in (
      said ++ (Some c.in-Some.reply.stamp, bytes) ∷ [],
      told_last (ends g.R.Source.remaining g.R.Source.transfers g.W.Sink.contents g.W.Sink.transfers) said c.args.arrivals.now split.result.0.now split.result.1.now c.tell_each.new.arrivals c.len-count.result c.index-others-0.result c.tell_planned-served.new.arrival _ _ _ c.tell_planned-served.result (Some c.in-Some.reply.stamp, bytes)
          split.ensures.front split.ensures.back long some c.push_reserved.ensures.items (rw c.as_slice.ensures.value at c.tell_each.ensures.told) one,
      λ intact. ap (λ b. said ++ (Some c.in-Some.reply.stamp, b) ∷ []) (is intact) ∙ ap (λ p. said ++ planned_in (g.H.Storage.seen c.args.host.now).now p) (sym c.in-Some.is),
    )

pub returns-in-Some-clause-others : goal.returns-in-Some-clause-others
returns-in-Some-clause-others g c =
    let split = c.split_at_mut-first in
    let long : length c.tell_each.new.arrivals ≡ c.len-count.result = omega (arith, c.tell_each.ensures.same, split.ensures.front_len) in
    rest_last c.args.arrivals.now split.result.1.now c.tell_each.new.arrivals c.len-count.result c.tell_planned-served.new.arrival split.ensures.back long
