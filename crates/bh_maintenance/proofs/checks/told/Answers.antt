use Rattle.std.proofs.Common.{Ok, inr, ap, ◌∙◌}
use Rattle.std.proofs.lemmas.Result.{IfOk-weaker}
use Rattle.bh_maintenance.proofs.Verdicts.{verdict_weaker}
use Rattle.bh_maintenance.proofs.checks.told.Goals as goal

pub returns-in_ok-verdict-in-Ok : goal.returns-in_ok-verdict-in-Ok
returns-in_ok-verdict-in-Ok c = verdict_weaker _ _ c.in_ok-verdict-in-Ok.field-0 (λ none. c.in-Ok.is ∙ ap Ok none) c.in_ok-verdict-in-Ok.ensures

pub returns-in-Err : goal.returns-in-Err
returns-in-Err c = IfOk-weaker c.unread.result _ _ (λ printed one. inr one) c.unread.ensures
