use Rattle.std.proofs.Common.{◌≡◌, [], ◌∷◌, length, arith, ◌+◌, take, map, refl, rules, subst, sym, ap, ◌∙◌}
use Rattle.std.specs.Prelude.{All}
use Rattle.std.proofs.lemmas.List.{map-append}
use Rattle.std.proofs.lemmas.List.Elements.{All-push}
use Rattle.bh_event.specs.Events.{arrival}
use Rattle.bh_host.specs.Answers.{told}
use Rattle.bh_host.specs.Groups.{RanTogether, HasSmallReply}
use Rattle.bh_host.proofs.Grouping.{planned_next, together_next, within_here, within_then}
use Rattle.bh_host.proofs.group.apply_all.Goals as goal

pub loop-event-init : goal.loop-event-init
loop-event-init g c =
    let now = (g.H.Storage.seen c.args.host.now).now in
    record {
      within = within_here c.args.host.now;
      opens = λ opened intact. opened;
      working = c.requires.working;
      count = search rules;
      room = search rules;
      small = search rules;
      ran = λ clean. subst (λ dones. RanTogether [] (map told dones) now now) (sym c.in_ok-tolds.ensures.items) refl;
    }

pub loop-event-preserved : goal.loop-event-preserved
loop-event-preserved g c =
    let so_far = c.loop-event.invariant in
    let done = rw c.in-Told.is at c.in_ok-told.ensures in
    record {
      within = within_then so_far.within so_far.opens done.within;
      opens = λ opened intact. done.opens (so_far.opens opened (done.within.intact intact)) intact;
      working = done.working;
      count = search rules;
      room = search rules;
      small = subst (All HasSmallReply) (sym c.push_reserved.ensures.items) (All-push HasSmallReply c.loop-event.tolds.items c.in-Told.told so_far.small done.small);
      ran = λ clean.
          let said = ap (map told) c.push_reserved.ensures.items ∙ map-append told c.loop-event.tolds.items (c.in-Told.told ∷ []) in
          let seen = g.H.Storage.seen in
          let old = (seen c.args.host.now).now in
          let mid = (seen c.loop-event.host).now in
          let new = (seen c.apply_within.new.host).now in
          subst (λ ds. RanTogether (take (c.loop-event.event-index + 1) (map arrival c.args.events.now)) ds old new) (sym said)
          (together_next c.args.events.now c.loop-event.event-index c.event-item.result (map told c.loop-event.tolds.items) (told c.in-Told.told) old mid new c.loop-event-test.true c.event-item.is
          (so_far.ran (done.within.intact clean.0, done.within.opened clean.0 clean.1)) (done.applied clean));
    }

pub returns-in-Planned-clause-ran : goal.returns-in-Planned-clause-ran
returns-in-Planned-clause-ran g c = λ clean.
    let seen = g.H.Storage.seen in
    let so_far = c.loop-event.invariant in
    let done = rw c.in-Planned.is at c.in_ok-told.ensures in
    let mid = c.loop-event.host in
    let new = c.apply_within.new.host in
    let count : length c.loop-event.tolds.items ≡ c.loop-event.event-index = omega (arith, so_far.count, c.loop-event.tolds.ok.0) in
    planned_next c.args.events.now c.loop-event.event-index c.event-item.result c.loop-event.tolds.items c.in-Planned.reply (seen c.args.host.now).now (seen mid).now (seen new).now
    count c.loop-event-test.true c.event-item.is (so_far.ran (done.within.intact clean.0, done.within.opened clean.0 clean.1)) (done.applied clean)
