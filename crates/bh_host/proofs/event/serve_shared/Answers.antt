use Rattle.std.proofs.Common.{ℕ, List}
use Rattle.bh_event.specs.Events.{message_of}
use Rattle.bh_storage.specs.Calls.{Clean, IsWorking}
use Rattle.bh_host.specs.Turns.{IsServed}
use Rattle.bh_host.proofs.Turning.{if_told, limits_stay, turned_shared}
use Rattle.bh_host.proofs.event.serve_shared.Goals as goal

pub returns-clause-turned : goal.returns-clause-turned
returns-clause-turned g c =
    let message = message_of c.args.order.now in
    let seen = g.H.Storage.seen in
    let new = c.order-outcome.new.self in
    let now = Clean g.H.Storage.IsIntact g.H.Storage.IsOpen new in
    let turned : List ℕ → Type 0 = λ bytes. now → IsServed (seen c.args.host.now).limits message c.args.at (seen c.args.host.now).now (seen new).now bytes in
    let order = c.order-outcome.ensures.goes_on in
    if_told c.order_text.result c.order-outcome.result (now → IsWorking g.H.Storage.IsSoundStore (seen new)) turned c.order_text.ensures order.working
    (λ bytes working told clean.
    let old : Clean g.H.Storage.IsIntact g.H.Storage.IsOpen c.args.host.now = (order.within.intact clean.0, order.within.opened clean.0 clean.1) in
    let limits = limits_stay (seen c.args.host.now) (seen new) (c.requires.working old) (working clean) order.within.limits in
    turned_shared (seen c.args.host.now).limits c.args.at message _ _ c.order-outcome.result bytes c.requires.shared (c.order-outcome.ensures.does clean) limits told)
