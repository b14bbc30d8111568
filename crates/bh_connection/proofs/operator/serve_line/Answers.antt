use Rattle.std.proofs.Common.{◌≡◌, Some, None, refl, sym, ap, ◌∙◌, option_map}
use Rattle.std.specs.Prelude.{is_some}
use Rattle.bh_host.specs.Replies.{reply_bytes, wanting_text}
use Rattle.bh_host.specs.declared.reply.Caller.TheVariants.{Operator}
use Rattle.bh_event.specs.Events.{Arrival, arrival}
use Rattle.bh_event.specs.Orders.{ToDo}
use Rattle.bh_connection.specs.Operators.{bad_line, is_sweep}
use Rattle.bh_connection.proofs.OperatorLemmas.{obeyed, copied, stopping, not_ordered, not_heard}
use Rattle.bh_connection.proofs.operator.serve_line.Goals as goal

pub returns-in-Ok-Some-Host-clause-ordered : goal.returns-in-Ok-Some-Host-clause-ordered
returns-in-Ok-Some-Host-clause-ordered g c =
    let (taken, took, gave) = rw (c.in-Ok-Some-Host.field-0-is, c.in-Ok-Some-Host.field-0-0-is) at c.in-Ok-Some-Host.ensures.took in
    let event = arrival c.at-event.result in
    let reads : event.reading ≡ c.args.reading = ap (λ (e : Arrival). e.reading) c.at-event.ensures in
    let done = c.apply-told.ensures in
    let sent = c.answer_line.ensures in
    obeyed g.H.Storage.IsIntact g.H.Storage.IsOpen g.H.Storage.seen g.H.Storage.left g.H.BackUp.shows (option_map (λ s. s.now) c.args.secret) _ _ c.answer_line.result _ _ taken
    (reply_bytes c.apply-told.result.reply) _ event c.apply-told.result.stamp _ _
    reads (ap (λ (e : Arrival). Some (ToDo e.message)) c.at-event.ensures) took gave c.in-Ok-Some-Host.ensures.going
    (record { applied = done.applied; told_apart = done.told_apart; acknowledged = done.acknowledged; crash = done.crash })
    sent.stamp (rw c.bytes.ensures at sent.out) (rw c.bytes.ensures at sent.took) (rw c.bytes.ensures at sent.ended)
    (ap is_some (sent.trouble ∙ c.trouble.ensures) ∙ done.noted) refl
    (c.is_sweep-sweeps.ensures ∙ ap (λ (e : Arrival). is_sweep e.message) (sym c.at-event.ensures))

pub returns-in-Ok-None-clause-ordered : goal.returns-in-Ok-None-clause-ordered
returns-in-Ok-None-clause-ordered g c =
    let (taken, took, gave) = rw c.in-Ok-None.field-0-is at c.in-Ok-None.ensures.took in
    let sent = c.answer_line-in-Ok-None.ensures in
    rw c.going_on-in-Ok-None.ensures.served (not_ordered g.H.Storage.IsIntact g.H.Storage.IsOpen g.H.Storage.seen g.H.Storage.left g.H.BackUp.shows (option_map (λ s. s.now) c.args.secret) _ _ c.answer_line-in-Ok-None.result c.going_on-in-Ok-None.result.stops c.going_on-in-Ok-None.result.sweeps taken bad_line None _ _
    refl took gave c.in-Ok-None.ensures.going refl refl sent.stamp sent.out sent.took sent.ended sent.trouble c.going_on-in-Ok-None.ensures.stops c.going_on-in-Ok-None.ensures.sweeps)

pub returns-in-Ok-Some-Server-clause-ordered : goal.returns-in-Ok-Some-Server-clause-ordered
returns-in-Ok-Some-Server-clause-ordered g c =
    let (taken, took, gave) = rw (c.in-Ok-Some-Server.field-0-is, c.in-Ok-Some-Server.field-0-0-is) at c.in-Ok-Some-Server.ensures.took in
    let sent = c.answer_line-in-Ok-Some-Server.ensures in
    rw c.going_on-in-Ok-Some-Server.ensures.served (not_ordered g.H.Storage.IsIntact g.H.Storage.IsOpen g.H.Storage.seen g.H.Storage.left g.H.BackUp.shows (option_map (λ s. s.now) c.args.secret) _ _ c.answer_line-in-Ok-Some-Server.result c.going_on-in-Ok-Some-Server.result.stops c.going_on-in-Ok-Some-Server.result.sweeps taken bad_line _ _ _
    refl took gave c.in-Ok-Some-Server.ensures.going refl refl sent.stamp sent.out sent.took sent.ended sent.trouble c.going_on-in-Ok-Some-Server.ensures.stops c.going_on-in-Ok-Some-Server.ensures.sweeps)

pub returns-in-Err-OutOfMemory-clause-ordered : goal.returns-in-Err-OutOfMemory-clause-ordered
returns-in-Err-OutOfMemory-clause-ordered g c =
    let (taken, part, gave) = c.in-Err-OutOfMemory.ensures.within in
    let sent = c.answer_line-in-Err-OutOfMemory.ensures in
    let text = c.bytes-in-Err-OutOfMemory.ensures in
    rw c.going_on-in-Err-OutOfMemory.ensures.served (not_heard g.H.Storage.IsIntact g.H.Storage.IsOpen g.H.Storage.seen g.H.Storage.left g.H.BackUp.shows (option_map (λ s. s.now) c.args.secret) _ _ c.answer_line-in-Err-OutOfMemory.result c.going_on-in-Err-OutOfMemory.result.stops c.going_on-in-Err-OutOfMemory.result.sweeps taken
    (wanting_text Operator) _ _ part gave (rw c.in-Err-OutOfMemory.field-0-is at c.in-Err-OutOfMemory.ensures.failed) refl refl
    sent.stamp (rw text at sent.out) (rw text at sent.took) (rw text at sent.ended) (sent.trouble ∙ c.trouble-in-Err-OutOfMemory.ensures) c.going_on-in-Err-OutOfMemory.ensures.stops c.going_on-in-Err-OutOfMemory.ensures.sweeps)

pub returns-in-Ok-Some-Backup-clause-ordered : goal.returns-in-Ok-Some-Backup-clause-ordered
returns-in-Ok-Some-Backup-clause-ordered g c =
    let (taken, took, gave) = rw (c.in-Ok-Some-Backup.field-0-is, c.in-Ok-Some-Backup.field-0-0-is) at c.in-Ok-Some-Backup.ensures.took in
    let sent = c.answer_line-in-Ok-Some-Backup.ensures in
    rw c.going_on.ensures.served (copied g.H.Storage.IsIntact g.H.Storage.IsOpen g.H.Storage.seen g.H.Storage.left g.H.BackUp.shows (option_map (λ s. s.now) c.args.secret) _ _ c.answer_line-in-Ok-Some-Backup.result c.going_on.result.stops c.going_on.result.sweeps taken
    c.backup_reply-reply.result.now _ _ _ took gave c.in-Ok-Some-Backup.ensures.going c.backup_reply-reply.ensures.backed_up sent.stamp sent.out sent.took sent.ended sent.trouble c.going_on.ensures.stops c.going_on.ensures.sweeps)

pub returns-in-Ok-Some-Stop-clause-ordered : goal.returns-in-Ok-Some-Stop-clause-ordered
returns-in-Ok-Some-Stop-clause-ordered g c =
    let (taken, took, gave) = rw (c.in-Ok-Some-Stop.field-0-is, c.in-Ok-Some-Stop.field-0-0-is) at c.in-Ok-Some-Stop.ensures.took in
    let sent = c.answer_line-in-Ok-Some-Stop.ensures in
    stopping g.H.Storage.IsIntact g.H.Storage.IsOpen g.H.Storage.seen g.H.Storage.left g.H.BackUp.shows (option_map (λ s. s.now) c.args.secret) _ _ c.answer_line-in-Ok-Some-Stop.result _ _ taken
    _ _ took gave c.in-Ok-Some-Stop.ensures.going refl sent.stamp sent.out sent.took sent.ended sent.trouble refl refl
