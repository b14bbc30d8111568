use Rattle.std.proofs.Common.{[], map, rules, subst, sym}
use Rattle.bh_host.specs.Answers.{told}
use Rattle.bh_host.specs.Runs.{RanOn}
use Rattle.bh_host.proofs.Resting.{stays_here, stays_then}
use Rattle.bh_host.proofs.Running.{ran_alone, ran_more, ran_none}
use Rattle.bh_host.proofs.events.run.Goals as goal

pub loop-event-init : goal.loop-event-init
loop-event-init g c =
    let host = c.args.host.now in
    record {
      stays = stays_here host c.requires;
      count = search rules;
      room = search rules;
      ran = λ intact. subst (λ dones. RanOn g.H.Storage.IsOpen g.H.Storage.seen g.H.Storage.left [] (map told dones) host host)
          (sym c.in_ok-dones.ensures.items) (ran_none g.H.Storage.IsOpen g.H.Storage.seen g.H.Storage.left host);
    }

pub loop-event-preserved : goal.loop-event-preserved
loop-event-preserved g c =
    let so_far = c.loop-event.invariant in
    let done = c.apply-done.ensures in
    record {
      stays = stays_then so_far.stays done.stays;
      count = search rules;
      room = search rules;
      ran = λ intact. ran_more g.H.Storage.IsOpen g.H.Storage.seen g.H.Storage.left _ _ c.event-item.result _ _ c.apply-done.result _ _ _ c.loop-event-test.true c.event-item.is c.push_reserved.ensures.items
          (so_far.ran (done.stays.intact intact)) (done.applied intact) (done.told_apart intact) _ intact done.acknowledged done.crash;
    }

pub returns-clause-alone : goal.returns-clause-alone
returns-clause-alone g c = λ intact.
    ran_alone g.H.Storage.IsOpen g.H.Storage.seen g.H.Storage.left c.args.events.now c.loop-event.event-index (map told c.loop-event.dones.items) c.args.host.now c.loop-event.host
    c.loop-event-test.false (c.loop-event.invariant.ran intact)
