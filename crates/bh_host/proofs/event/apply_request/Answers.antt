use Rattle.std.proofs.Common.{Ok, Err, subst}
use Rattle.bh_http.specs.Reading.{Reads, completed}
use Rattle.bh_http.specs.Views.{announced_view}
use Rattle.bh_http.proofs.Completing.{head_reads}
use Rattle.bh_host.proofs.Answered.{anew_told, told_happened, replied_happened}
use Rattle.bh_host.proofs.event.apply_request.Goals as goal

pub returns-in-Ok-clause-happened : goal.returns-in-Ok-clause-happened
returns-in-Ok-clause-happened g c =
    let H = g.H.Storage in
    let bytes = c.args.bytes.now in
    let answer = completed (announced_view c.in-Ok.head) c.in-Ok.rest.now in
    let reads = subst (λ l. Reads l bytes answer) c.limits.ensures (head_reads c.limits.result bytes (Ok (announced_view c.in-Ok.head, c.in-Ok.rest.now)) c.in-Ok.ensures.ok) in
    replied_happened H.IsIntact H.IsOpen H.seen H.left H.IsSoundStore c.args.reading bytes answer c.args.host.now c.apply_headed.new.host c.apply_headed.result
    c.requires.in_range c.requires.rest c.apply_headed.ensures.stays.intact reads c.apply_headed.ensures.told

pub returns-in-Err-clause-happened : goal.returns-in-Err-clause-happened
returns-in-Err-clause-happened g c =
    let H = g.H.Storage in
    let bytes = c.args.bytes.now in
    let refusal = c.in-Err.refusal in
    let reads = subst (λ l. Reads l bytes (Err refusal)) c.limits.ensures (head_reads c.limits.result bytes (Err refusal) c.in-Err.ensures.err) in
    told_happened H.IsIntact H.IsOpen H.seen H.left H.IsSoundStore c.args.reading bytes (Err refusal) c.args.host.now _ _ _ c.requires.in_range c.requires.rest c.refuse_unread.ensures.stays.intact reads
    (anew_told H.IsIntact H.IsOpen H.seen H.left c.args.reading refusal c.args.host.now _ _ _ c.refuse_unread.ensures.anew)
