use Rattle.std.proofs.Common.{◌⊎◌, inl, inr, map}
use Rattle.bh_event.specs.Events.{arrival}
use Rattle.bh_tables.specs.Typed.{Tables}
use Rattle.bh_host.specs.Turns.{WouldApplySome}
use Rattle.bh_host.proofs.Grouping.{group_would, group_committed, on_err}
use Rattle.bh_host.proofs.group.try_group.Goals as goal

pub returns-in_err-commit-clause-crash : goal.returns-in_err-commit-clause-crash
returns-in_err-commit-clause-crash g c =
    let H = g.H.Storage in
    let old = c.args.host.now in
    let mid = c.apply_all.new.host in
    let new = c.commit.new.self in
    let came = map arrival c.args.events.now in
    let begun = c.in_ok-begin.ensures in
    let all = c.in_ok-group.ensures in
    let failed = c.in_err-commit.ensures in
    let crash : H.IsIntact new → (x : Tables) → H.left new x → H.left old x ⊎ (H.IsOpen old × WouldApplySome came (H.seen old).now x) = λ intact x leaves.
    let i2 = failed.intact intact in
    let i1 = all.within.intact i2 in
    let (was, o1) = begun.opens i1 in
    let o2 = all.opens o1 i2 in
    elim (failed.crash o2 intact x leaves) [
      | inl stays ↦ inl (begun.survives i1 x (all.within.survives o1 i2 x stays))
      | inr is ↦
          inr (was, group_would c.args.events.now c.in_ok-group.group (H.seen old).now (H.seen c.begin.new.self).now (H.seen mid).now x c.requires.some all.whole (begun.same i1) is (all.ran (i2, o2)))
    ] in
    on_err c.from_residual-in_err-commit.result _ crash

pub returns-clause-ran : goal.returns-clause-ran
returns-clause-ran g c intact =
    let seen = g.H.Storage.seen in
    let old = c.args.host.now in
    let mid = c.apply_all.new.host in
    let new = c.commit.new.self in
    let begun = c.in_ok-begin.ensures in
    let all = c.in_ok-group.ensures in
    let done = c.in_ok-commit.ensures in
    let i2 = done.intact intact in
    let i1 = all.within.intact i2 in
    let (was, o1) = begun.opens i1 in
    let (o2, o3) = done.opens intact in
    (was, o3, group_committed c.args.events.now c.in_ok-group.group (seen old).now (seen c.begin.new.self).now (seen mid).now (seen new).now (begun.same i1) (done.done intact).now (all.ran (i2, o2)))
