use Rattle.std.proofs.Common.{sym, subst, ◌∙◌}
use Rattle.bh_event.specs.Events.{arrival}
use Rattle.bh_storage.specs.Calls.{Clean}
use Rattle.bh_host.specs.Groups.{AppliedAt}
use Rattle.bh_host.proofs.Grouping.{at_stamp}
use Rattle.bh_host.proofs.within.apply_within.Goals as goal

pub returns-clause-applied : goal.returns-clause-applied
returns-clause-applied g c clean =
    let seen = g.H.Storage.seen in
    let old = seen c.args.host.now in
    let mid = seen c.stamp_event.new.host in
    let new = seen c.serve_event.new.host in
    let stamped = c.in_ok-stamp.ensures in
    let served = c.in_ok-composed.ensures in
    let i1 = served.within.intact clean.0 in
    let o1 = served.within.opened clean.0 clean.1 in
    let was : Clean g.H.Storage.IsIntact g.H.Storage.IsOpen c.args.host.now = (stamped.within.intact i1, stamped.within.opened i1 o1) in
    let limits = stamped.within.limits ∙ sym (c.requires.working was).limits in
    subst (AppliedAt (arrival c.args.event.now) old.now new.now) (sym (c.replied_at.ensures.told new.now))
    (at_stamp mid.limits (arrival c.args.event.now) c.in_ok-stamp.stamp old.now mid.now new.now _ limits (stamped.stamps (i1, o1)) (served.turned clean))

pub returns-clause-measured : goal.returns-clause-measured
returns-clause-measured g c clean =
    c.replied_at.ensures.measured (g.H.Storage.seen c.serve_event.new.host).now (c.in_ok-composed.ensures.measured clean)
