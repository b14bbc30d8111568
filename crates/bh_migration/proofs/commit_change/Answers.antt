use Rattle.std.proofs.Common.{ap, sym, subst, ◌∙◌}
use Rattle.sqlite.specs.Held.{state}
use Rattle.bh_rows.specs.Means.{is_trouble}
use Rattle.bh_base.specs.Layer.{Standing}
use Rattle.bh_schema.proofs.Finds.{handed_on}
use Rattle.bh_migration.specs.Migration.{IsEarlierHost}
use Rattle.bh_migration.proofs.Stages.{may_leave}
use Rattle.bh_migration.proofs.commit_change.Goals as goal

pub returns-clause-crash : goal.returns-clause-crash
returns-clause-crash g c intact =
    let a = state g.S.Store c.args.connection.now in
    let b = state g.S.Store c.begin.new.connection in
    let m = state g.S.Store c.change_whole.new.connection in
    let d = state g.S.Store c.commit.new.connection in
    may_leave a b m d (ap (λ (x : Standing). x.now) (c.in_ok-begin.ensures.begins (c.change_whole.ensures.within.follows.intact (c.commit.ensures.follows.intact intact)))) c.in_ok-begin.ensures.opens c.begin.ensures.survives
    c.in_ok-listed.ensures.opens c.change_whole.ensures.within c.in_ok-listed.ensures.brings c.commit.ensures.follows c.commit.ensures.survives intact

pub returns-in_err-commit-clause-crash : goal.returns-in_err-commit-clause-crash
returns-in_err-commit-clause-crash g c intact =
    let a = state g.S.Store c.args.connection.now in
    let b = state g.S.Store c.begin.new.connection in
    let m = state g.S.Store c.change_whole.new.connection in
    let d = state g.S.Store c.commit.new.connection in
    may_leave a b m d (ap (λ (x : Standing). x.now) (c.in_ok-begin.ensures.begins (c.change_whole.ensures.within.follows.intact (c.commit.ensures.follows.intact intact)))) c.in_ok-begin.ensures.opens c.begin.ensures.survives
    c.in_ok-listed.ensures.opens c.change_whole.ensures.within c.in_ok-listed.ensures.brings c.commit.ensures.follows c.commit.ensures.survives intact

pub returns-in_err-listed-clause-trouble : goal.returns-in_err-listed-clause-trouble
returns-in_err-listed-clause-trouble g c = handed_on _ _ _ c.from_residual-in_err-listed.ensures (λ e same intact unlimited host.
    let before = c.change_whole.ensures.within.follows.intact intact in
    let begun = c.in_ok-begin.ensures.begins before in
    ap is_trouble same ∙ c.in_err-listed.ensures.trouble intact (c.begin.ensures.within.follows.limit ∙ unlimited) (subst (λ (x : Standing). IsEarlierHost c.args.version x.now) (sym begun) (host (c.begin.ensures.within.follows.clean (record { intact = before; is_open = (c.in_ok-begin.ensures.opens before).1 })))))
