use Rattle.std.proofs.Common.{rules}
use Rattle.bh_event.specs.Events.{message_of}
use Rattle.bh_event.specs.Orders.{arrival_at}
use Rattle.bh_host.proofs.ToldApart.{apart_on}
use Rattle.bh_host.proofs.Turning.{operator_asks}
use Rattle.bh_host.proofs.event.apply_order.Goals as goal

pub returns-in-Ok-clause-told_apart : goal.returns-in-Ok-clause-told_apart
returns-in-Ok-clause-told_apart g c = λ intact. apart_on g.H.Storage.IsOpen g.H.Storage.seen (arrival_at c.args.reading (message_of c.args.order.now)) _ _ _ _ (c.in-Ok.ensures.applied intact)

pub returns-in-Err-clause-told_apart : goal.returns-in-Err-clause-told_apart
returns-in-Err-clause-told_apart g c = λ intact. rw (operator_asks c.args.order.now) (search rules)
