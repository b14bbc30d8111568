use Rattle.std.proofs.Common.{ℕ, List, sym, subst}
use Rattle.std.specs.Prelude.{IfOk}
use Rattle.bh_event.specs.Events.{Message as Asked, Requested, message_view}
use Rattle.bh_event.specs.declared.event.Message.{Message}
use Rattle.bh_storage.specs.Calls.{Clean}
use Rattle.bh_host.specs.Answers.{composed_in}
use Rattle.bh_host.specs.Turns.{IsServed}
use Rattle.bh_host.proofs.within.serve_event.Goals as goal

pub returns-in-Request-clause-turned : goal.returns-in-Request-clause-turned
returns-in-Request-clause-turned g c =
    let seen = g.H.Storage.seen in
    let old = seen c.args.host.now in
    let new = seen c.serve_request.new.host in
    let C : Asked → Type 0 = λ m. IfOk c.serve_request.result (λ composed. Clean g.H.Storage.IsIntact g.H.Storage.IsOpen c.serve_request.new.host → IsServed old.limits m c.args.at old.now new.now (composed_in new.now composed)) in
    subst (λ (m : Message). C (message_view m)) (sym c.in-Request.is) (subst (λ (b : List ℕ). C (Requested b)) c.deref.ensures.value c.serve_request.ensures.turned)
