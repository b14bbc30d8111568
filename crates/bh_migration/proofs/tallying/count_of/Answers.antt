use Rattle.std.proofs.Common.{◌∙◌}
use Rattle.std.proofs.lemmas.Result.{IfOk-weaker}
use Rattle.bh_migration.proofs.tallying.count_of.Goals as goal

pub returns-clause-counts : goal.returns-clause-counts
returns-clause-counts g c = IfOk-weaker c.in_range.result _ _ (λ n same clean sums host name named.
    same ∙ c.in_ok-read_total.ensures.read _ (c.deref.ensures.value ∙ c.in_ok-rows.ensures.rows clean sums host name named)) c.in_range.ensures.same
