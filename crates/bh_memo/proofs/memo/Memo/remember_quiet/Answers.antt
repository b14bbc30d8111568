use Rattle.std.proofs.Common.{rules, ◌≡◌}
use Rattle.bh_memo.proofs.memo.Memo.remember_quiet.Goals as goal

pub returns-in-Ok-clause-quiet : goal.returns-in-Ok-clause-quiet
returns-in-Ok-clause-quiet c =
    let same : c.in-Ok.name ≡ c.args.tenant.now = search rules in
    rw (← c.self.view_is, ← same) c.add.ensures
