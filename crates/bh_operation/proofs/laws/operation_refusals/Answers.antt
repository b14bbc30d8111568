use Rattle.bh_operation.proofs.Refused.{operation_only}
use Rattle.bh_operation.proofs.laws.operation_refusals.Goals as goal

pub returns : goal.returns
returns c = operation_only
