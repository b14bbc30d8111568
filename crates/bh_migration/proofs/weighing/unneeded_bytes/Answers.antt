use Rattle.std.proofs.Common.{◌∙◌}
use Rattle.std.proofs.lemmas.Result.{IfOk-weaker}
use Rattle.bh_migration.proofs.weighing.unneeded_bytes.Goals as goal

pub returns-clause-sums : goal.returns-clause-sums
returns-clause-sums g c = IfOk-weaker c.in_column.result _ _ (λ n same clean sums host. same ∙ c.in_ok-read_total.ensures.read _ (c.deref.ensures.value ∙ c.in_ok-rows.ensures.rows clean sums host)) c.in_column.ensures.same
