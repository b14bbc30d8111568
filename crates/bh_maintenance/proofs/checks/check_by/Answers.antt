use Rattle.bh_maintenance.proofs.Verdicts.{verdict_weaker, ok_none}
use Rattle.bh_maintenance.proofs.checks.check_by.Goals as goal

pub returns : goal.returns
returns g c = verdict_weaker _ _ c.in_ok-told.field-0 (λ is. ok_none _ is c.check_connection-found.ensures.sound) c.in_ok-told.ensures
