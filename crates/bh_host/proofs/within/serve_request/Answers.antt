use Rattle.std.proofs.Common.{Ok, Err, refl, subst}
use Rattle.bh_http.specs.Reading.{Reads, completed}
use Rattle.bh_http.specs.Views.{announced_view}
use Rattle.bh_http.proofs.Completing.{head_reads}
use Rattle.bh_machine.specs.Machine.{RequestRead}
use Rattle.bh_host.proofs.Grouping.{if_ok}
use Rattle.bh_host.proofs.Turning.{turned_unread}
use Rattle.bh_host.proofs.within.serve_request.Goals as goal

pub returns-in-Ok-clause-turned : goal.returns-in-Ok-clause-turned
returns-in-Ok-clause-turned g c =
    let answer = completed (announced_view c.in-Ok.head) c.in-Ok.rest.now in
    let reads = subst (λ l. Reads l c.args.bytes.now answer) c.limits.ensures (head_reads c.limits.result c.args.bytes.now (Ok (announced_view c.in-Ok.head, c.in-Ok.rest.now)) c.in-Ok.ensures.ok) in
    if_ok c.serve_headed.result _ _ (λ composed turned clean. (RequestRead answer, (answer, reads, refl), turned clean)) c.serve_headed.ensures.turned

pub returns-in_ok-unread_text-in-Err-clause-turned : goal.returns-in_ok-unread_text-in-Err-clause-turned
returns-in_ok-unread_text-in-Err-clause-turned g c clean =
    let seen = g.H.Storage.seen c.args.host.now in
    let reads = subst (λ l. Reads l c.args.bytes.now (Err c.in-Err.refusal)) c.limits.ensures (head_reads c.limits.result c.args.bytes.now (Err c.in-Err.refusal) c.in-Err.ensures.err) in
    (RequestRead (Err c.in-Err.refusal), (Err c.in-Err.refusal, reads, refl), turned_unread seen.limits c.args.at c.in-Err.refusal seen.now _ c.in_ok-unread_text-in-Err.ensures)
