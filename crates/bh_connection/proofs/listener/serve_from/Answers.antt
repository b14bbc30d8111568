use Rattle.std.proofs.Common.{[], ◌∷◌, ◌++◌, refl, sym, ap, subst, inl, inr, ◌∙◌, arith, option_map}
use Rattle.std.proofs.lemmas.Bool.{false≢true}
use Rattle.std.specs.List.{flat_map}
use Rattle.bh_http.proofs.TransferLemmas.{logs_then}
use Rattle.bh_host.proofs.Resting.{stays_here, stays_then}
use Rattle.bh_connection.specs.Groups.{calls_of, in_groups}
use Rattle.bh_connection.specs.Listening.{HasServedAll}
use Rattle.bh_connection.proofs.ListeningLemmas.{count_more, open_more, none_more, stopped_by, none_come, come_still, more_come, ran_for, at_err}
use Rattle.bh_connection.proofs.listener.serve_from.Goals as goal

pub groups-init : goal.groups-init
groups-init g c = record {
  stays = stays_here c.args.host.now c.requires;
  operated = refl;
  alive = λ up. up;
  within = omega arith;
  listened = ([], refl, tt, tt, none_come g.H.Storage.IsIntact g.H.Storage.IsOpen g.H.Storage.seen g.H.Storage.left g.H.BackUp.shows _ _ _ c.args.host.now);
}

pub groups-preserved : goal.groups-preserved
groups-preserved g c =
    let so_far = c.groups.invariant in
    let one = c.serve_group.ensures in
    let (groups, count, going, none, come) = so_far.listened in
    let (group, is) = c.in_ok-group.ensures.comes in
    let now = come_still g.H.Storage.IsIntact g.H.Storage.IsOpen g.H.Storage.seen g.H.Storage.left g.H.BackUp.shows _ _ _ _ _ groups _ _ _ c.prepare.ensures.rest.intact c.prepare.ensures.stays c.prepare.ensures.calls come in
    let next = more_come g.H.Storage.IsIntact g.H.Storage.IsOpen g.H.Storage.seen g.H.Storage.left g.H.BackUp.shows _ _ _ _ _ _ groups group _ _ _ _ (c.prepare.ensures.operated ∙ so_far.operated) one.stays.intact (c.prepare.ensures.rest.limits ∙ so_far.stays.limits) now is in
    record {
      stays = stays_then (stays_then so_far.stays c.prepare.ensures.rest) one.stays;
      operated = one.operated ∙ c.prepare.ensures.operated ∙ so_far.operated;
      alive = λ _. sym c.is_lost.ensures ∙ c.if-is_lost.false;
      within = omega (arith, c.in_ok-group.ensures.most, c.groups-test.true);
      listened = (
        groups ++ group ∷ [],
        omega (arith, count, is.count, count_more groups group),
        open_more groups group going (is.opened c.if-group-2.false),
        none_more groups group none (is.going c.if-group.false),
        next,
      );
    }

-- a stop

pub returns-then-group-clause-ran : goal.returns-then-group-clause-ran
returns-then-group-clause-ran g c = λ intact.
    let so_far = c.groups.invariant in
    let one = c.serve_group.ensures in
    let (groups, count, going, none, come) = so_far.listened in
    let (group, is) = c.in_ok-group.ensures.comes in
    let now = come_still g.H.Storage.IsIntact g.H.Storage.IsOpen g.H.Storage.seen g.H.Storage.left g.H.BackUp.shows _ _ _ _ _ groups _ _ _ c.prepare.ensures.rest.intact c.prepare.ensures.stays c.prepare.ensures.calls come in
    let next = more_come g.H.Storage.IsIntact g.H.Storage.IsOpen g.H.Storage.seen g.H.Storage.left g.H.BackUp.shows _ _ _ _ _ _ groups group _ _ _ _ (c.prepare.ensures.operated ∙ so_far.operated) one.stays.intact (c.prepare.ensures.rest.limits ∙ so_far.stays.limits) now is in
    ran_for g.H.Storage.IsIntact g.H.Storage.IsOpen g.H.Storage.seen g.H.Storage.left g.H.BackUp.shows _ _ _ _ _ intact next.admitted next.served

pub returns-then-group-clause-stays : goal.returns-then-group-clause-stays
returns-then-group-clause-stays g c = stays_then (stays_then c.groups.invariant.stays c.prepare.ensures.rest) c.serve_group.ensures.stays

pub returns-then-group-clause-listened : goal.returns-then-group-clause-listened
returns-then-group-clause-listened g c =
    let so_far = c.groups.invariant in
    let one = c.serve_group.ensures in
    let (groups, count, going, none, come) = so_far.listened in
    let (group, is) = c.in_ok-group.ensures.comes in
    let now = come_still g.H.Storage.IsIntact g.H.Storage.IsOpen g.H.Storage.seen g.H.Storage.left g.H.BackUp.shows _ _ _ _ _ groups _ _ _ c.prepare.ensures.rest.intact c.prepare.ensures.stays c.prepare.ensures.calls come in
    let next = more_come g.H.Storage.IsIntact g.H.Storage.IsOpen g.H.Storage.seen g.H.Storage.left g.H.BackUp.shows _ _ _ _ _ _ groups group _ _ _ _ (c.prepare.ensures.operated ∙ so_far.operated) one.stays.intact (c.prepare.ensures.rest.limits ∙ so_far.stays.limits) now is in
    (groups ++ group ∷ [], next.each, next.served, next.admitted, (inr (omega (arith, count, is.count, c.in_ok-group.ensures.most, c.groups-test.true, count_more groups group), stopped_by groups group none (is.stopped c.if-group.true).0), open_more groups group going (is.stopped c.if-group.true).1, next.calls))

pub returns-then-group-clause-lost : goal.returns-then-group-clause-lost
returns-then-group-clause-lost g c = λ was gone.
    let (groups, count, going, none, come) = c.groups.invariant.listened in
    let now = come_still g.H.Storage.IsIntact g.H.Storage.IsOpen g.H.Storage.seen g.H.Storage.left g.H.BackUp.shows _ _ _ _ _ groups _ _ _ c.prepare.ensures.rest.intact c.prepare.ensures.stays c.prepare.ensures.calls come in
    let (group, is) = c.in_ok-group.ensures.comes in
    (in_groups groups, c.prepare.new.host, group, now.served, is.did)

-- a backup over which the host is lost

pub returns-then-is_lost-clause-ran : goal.returns-then-is_lost-clause-ran
returns-then-is_lost-clause-ran g c = λ intact.
    let so_far = c.groups.invariant in
    let one = c.serve_group.ensures in
    let (groups, count, going, none, come) = so_far.listened in
    let (group, is) = c.in_ok-group.ensures.comes in
    let now = come_still g.H.Storage.IsIntact g.H.Storage.IsOpen g.H.Storage.seen g.H.Storage.left g.H.BackUp.shows _ _ _ _ _ groups _ _ _ c.prepare.ensures.rest.intact c.prepare.ensures.stays c.prepare.ensures.calls come in
    let next = more_come g.H.Storage.IsIntact g.H.Storage.IsOpen g.H.Storage.seen g.H.Storage.left g.H.BackUp.shows _ _ _ _ _ _ groups group _ _ _ _ (c.prepare.ensures.operated ∙ so_far.operated) one.stays.intact (c.prepare.ensures.rest.limits ∙ so_far.stays.limits) now is in
    ran_for g.H.Storage.IsIntact g.H.Storage.IsOpen g.H.Storage.seen g.H.Storage.left g.H.BackUp.shows _ _ _ _ _ intact next.admitted next.served

pub returns-then-is_lost-clause-stays : goal.returns-then-is_lost-clause-stays
returns-then-is_lost-clause-stays g c = stays_then (stays_then c.groups.invariant.stays c.prepare.ensures.rest) c.serve_group.ensures.stays

pub returns-then-is_lost-clause-listened : goal.returns-then-is_lost-clause-listened
returns-then-is_lost-clause-listened g c =
    let so_far = c.groups.invariant in
    let one = c.serve_group.ensures in
    let (groups, count, going, none, come) = so_far.listened in
    let (group, is) = c.in_ok-group.ensures.comes in
    let now = come_still g.H.Storage.IsIntact g.H.Storage.IsOpen g.H.Storage.seen g.H.Storage.left g.H.BackUp.shows _ _ _ _ _ groups _ _ _ c.prepare.ensures.rest.intact c.prepare.ensures.stays c.prepare.ensures.calls come in
    let next = more_come g.H.Storage.IsIntact g.H.Storage.IsOpen g.H.Storage.seen g.H.Storage.left g.H.BackUp.shows _ _ _ _ _ _ groups group _ _ _ _ (c.prepare.ensures.operated ∙ so_far.operated) one.stays.intact (c.prepare.ensures.rest.limits ∙ so_far.stays.limits) now is in
    (groups ++ group ∷ [], next.each, next.served, next.admitted, (none_more groups group none (is.going c.if-group.false), inr (record { before = groups; last = group; all = refl; going = going; why = inl (sym c.is_lost.ensures ∙ c.if-is_lost.true) }, omega (arith, count, is.count, c.in_ok-group.ensures.most, c.groups-test.true, count_more groups group), next.calls)))

pub returns-then-is_lost-clause-lost : goal.returns-then-is_lost-clause-lost
returns-then-is_lost-clause-lost g c = λ was gone.
    let (groups, count, going, none, come) = c.groups.invariant.listened in
    let now = come_still g.H.Storage.IsIntact g.H.Storage.IsOpen g.H.Storage.seen g.H.Storage.left g.H.BackUp.shows _ _ _ _ _ groups _ _ _ c.prepare.ensures.rest.intact c.prepare.ensures.stays c.prepare.ensures.calls come in
    let (group, is) = c.in_ok-group.ensures.comes in
    (in_groups groups, c.prepare.new.host, group, now.served, is.did)

-- a store that is shut

pub returns-then-group-2-clause-ran : goal.returns-then-group-2-clause-ran
returns-then-group-2-clause-ran g c = λ intact.
    let so_far = c.groups.invariant in
    let one = c.serve_group.ensures in
    let (groups, count, going, none, come) = so_far.listened in
    let (group, is) = c.in_ok-group.ensures.comes in
    let now = come_still g.H.Storage.IsIntact g.H.Storage.IsOpen g.H.Storage.seen g.H.Storage.left g.H.BackUp.shows _ _ _ _ _ groups _ _ _ c.prepare.ensures.rest.intact c.prepare.ensures.stays c.prepare.ensures.calls come in
    let next = more_come g.H.Storage.IsIntact g.H.Storage.IsOpen g.H.Storage.seen g.H.Storage.left g.H.BackUp.shows _ _ _ _ _ _ groups group _ _ _ _ (c.prepare.ensures.operated ∙ so_far.operated) one.stays.intact (c.prepare.ensures.rest.limits ∙ so_far.stays.limits) now is in
    ran_for g.H.Storage.IsIntact g.H.Storage.IsOpen g.H.Storage.seen g.H.Storage.left g.H.BackUp.shows _ _ _ _ _ intact next.admitted next.served

pub returns-then-group-2-clause-stays : goal.returns-then-group-2-clause-stays
returns-then-group-2-clause-stays g c = stays_then (stays_then c.groups.invariant.stays c.prepare.ensures.rest) c.serve_group.ensures.stays

pub returns-then-group-2-clause-listened : goal.returns-then-group-2-clause-listened
returns-then-group-2-clause-listened g c =
    let so_far = c.groups.invariant in
    let one = c.serve_group.ensures in
    let (groups, count, going, none, come) = so_far.listened in
    let (group, is) = c.in_ok-group.ensures.comes in
    let now = come_still g.H.Storage.IsIntact g.H.Storage.IsOpen g.H.Storage.seen g.H.Storage.left g.H.BackUp.shows _ _ _ _ _ groups _ _ _ c.prepare.ensures.rest.intact c.prepare.ensures.stays c.prepare.ensures.calls come in
    let next = more_come g.H.Storage.IsIntact g.H.Storage.IsOpen g.H.Storage.seen g.H.Storage.left g.H.BackUp.shows _ _ _ _ _ _ groups group _ _ _ _ (c.prepare.ensures.operated ∙ so_far.operated) one.stays.intact (c.prepare.ensures.rest.limits ∙ so_far.stays.limits) now is in
    (groups ++ group ∷ [], next.each, next.served, next.admitted, (none_more groups group none (is.going c.if-group.false), inr (record { before = groups; last = group; all = refl; going = going; why = inr (is.shut c.if-group-2.true) }, omega (arith, count, is.count, c.in_ok-group.ensures.most, c.groups-test.true, count_more groups group), next.calls)))

pub returns-then-group-2-clause-lost : goal.returns-then-group-2-clause-lost
returns-then-group-2-clause-lost g c = λ was now. absurd (false≢true (sym (sym c.is_lost.ensures ∙ c.if-is_lost.false) ∙ now))

-- a fault

pub returns-in_err-group-clause-ran : goal.returns-in_err-group-clause-ran
returns-in_err-group-clause-ran g c = λ intact.
    let (groups, count, going, none, come) = c.groups.invariant.listened in
    let now = come_still g.H.Storage.IsIntact g.H.Storage.IsOpen g.H.Storage.seen g.H.Storage.left g.H.BackUp.shows _ _ _ _ _ groups _ _ _ c.prepare.ensures.rest.intact c.prepare.ensures.stays c.prepare.ensures.calls come in
    let (fault, is) = c.in_err-group.ensures.comes in
    ran_for g.H.Storage.IsIntact g.H.Storage.IsOpen g.H.Storage.seen g.H.Storage.left g.H.BackUp.shows _ _ _ _ _ intact now.admitted
    (subst (λ x. HasServedAll g.H.Storage.IsIntact g.H.Storage.IsOpen g.H.Storage.seen g.H.Storage.left (option_map (λ s. s.now) c.args.secret) (in_groups groups) c.args.host.now x) (sym is.same) now.served)

pub returns-in_err-group-clause-listened : goal.returns-in_err-group-clause-listened
returns-in_err-group-clause-listened g c =
    let (groups, count, going, none, come) = c.groups.invariant.listened in
    let now = come_still g.H.Storage.IsIntact g.H.Storage.IsOpen g.H.Storage.seen g.H.Storage.left g.H.BackUp.shows _ _ _ _ _ groups _ _ _ c.prepare.ensures.rest.intact c.prepare.ensures.stays c.prepare.ensures.calls come in
    let (fault, is) = c.in_err-group.ensures.comes in (
      groups,
      now.each,
      subst (λ x. HasServedAll g.H.Storage.IsIntact g.H.Storage.IsOpen g.H.Storage.seen g.H.Storage.left (option_map (λ s. s.now) c.args.secret) (in_groups groups) c.args.host.now x) (sym is.same) now.served,
      now.admitted,
      at_err c.from_residual.result _ c.from_residual.ensures.0 (none, inl (omega (arith, count, c.groups-test.true), going, (fault, is.which, logs_then _ _ _ (flat_map calls_of groups) fault now.calls is.calls))),
    )

pub returns-in_err-group-clause-stays : goal.returns-in_err-group-clause-stays
returns-in_err-group-clause-stays g c = stays_then (stays_then c.groups.invariant.stays c.prepare.ensures.rest) c.serve_group.ensures.stays

pub returns-in_err-group-clause-lost : goal.returns-in_err-group-clause-lost
returns-in_err-group-clause-lost g c = λ was now.
    let (fault, is) = c.in_err-group.ensures.comes in
    absurd (false≢true (sym (c.groups.invariant.alive was) ∙ sym c.prepare.ensures.lost ∙ ap g.H.BackUp.lost (sym is.same) ∙ now))

-- all

pub returns-clause-ran : goal.returns-clause-ran
returns-clause-ran g c = λ intact.
    let (groups, count, going, none, come) = c.groups.invariant.listened in
    ran_for g.H.Storage.IsIntact g.H.Storage.IsOpen g.H.Storage.seen g.H.Storage.left g.H.BackUp.shows _ _ _ _ _ intact come.admitted come.served

pub returns-clause-listened : goal.returns-clause-listened
returns-clause-listened g c =
    let so_far = c.groups.invariant in
    let (groups, count, going, none, come) = so_far.listened in
    (groups, come.each, come.served, come.admitted, (inl (omega (arith, count, so_far.within, c.groups-test.false), none), going, come.calls))

pub returns-clause-lost : goal.returns-clause-lost
returns-clause-lost g c = λ was now. absurd (false≢true (sym (c.groups.invariant.alive was) ∙ now))
