use Rattle.std.proofs.Common.{rules, ◌≡◌}
use Rattle.bh_memo.specs.declared.facts.KnownSecret.{KnownSecret}
use Rattle.bh_memo.proofs.memo.Memo.remember_secret.Goals as goal

pub returns-in-Ok-Some-clause-secrets : goal.returns-in-Ok-Some-clause-secrets
returns-in-Ok-Some-clause-secrets c =
    let known : KnownSecret = record { key = c.args.key.now; secret = c.args.secret.now } in
    let same : c.in-Ok-Some.known ≡ known = search rules in
    rw (← c.self.view_is, ← same) c.add.ensures
