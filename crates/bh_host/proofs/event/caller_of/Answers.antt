use Rattle.std.proofs.Common.{sym}
use Rattle.bh_host.proofs.Turning.{operator_asks}
use Rattle.bh_host.proofs.event.caller_of.Goals as goal

pub returns-in-Order : goal.returns-in-Order
returns-in-Order c = rw c.in-Order.is (sym (operator_asks c.in-Order.field-0))
