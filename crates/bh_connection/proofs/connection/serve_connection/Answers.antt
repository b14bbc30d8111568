use Rattle.std.proofs.Common.{[], Bool, refl, sym, subst, ◌∙◌}
use Rattle.bh_connection.proofs.ConnectionLemmas.{answered_fixed, broken, fixed_clock, fixed_wanting, took_nothing}
use Rattle.bh_link.specs.Taking.{Opens, announced_size}
use Rattle.bh_connection.proofs.HeadedLemmas.{came_untouched, came_acknowledged}
use Rattle.bh_http.proofs.TransferLemmas.{gives_nothing, gives_going}
use Rattle.bh_connection.specs.Connections.{Ends, ends_of, CameTo}
use Rattle.bh_connection.proofs.connection.serve_connection.Goals as goal

pub returns-then-reading-gt-LAST_READING-clause-came_to : goal.returns-then-reading-gt-LAST_READING-clause-came_to
returns-then-reading-gt-LAST_READING-clause-came_to g c =
    answered_fixed g.H.Storage.IsIntact g.H.Storage.IsOpen g.H.Storage.seen g.H.Storage.left (g.H.Storage.seen c.args.host.now).limits _ _ c.answer.result [] _ _ _ refl
    (took_nothing _ _) (gives_going _ _ _ _ c.requires.reads (gives_nothing _)) c.requires.reads refl (fixed_clock c.args.reading c.if-reading-gt-LAST_READING.true)
    (c.answer.ensures.stamp ∙ c.left_out-told.ensures.stamp) (rw c.left_out-told.ensures.reply at c.answer.ensures.out) (rw c.left_out-told.ensures.reply at c.answer.ensures.took)
    (rw c.left_out-told.ensures.reply at c.answer.ensures.ended)

pub returns-in-Ok-clause-came_to : goal.returns-in-Ok-clause-came_to
returns-in-Ok-clause-came_to g c =
    let R = g.R.Source in
    let W = g.W.Sink in
    let reader = c.args.reader.now in
    let writer = c.args.writer.now in
    let start = R.remaining reader.inner in
    let left = R.remaining c.take_head.new.reader.inner in
    let opening = c.in-Ok.opening in
    let before : Bool → Ends = λ failed. record (ends_of R.remaining R.transfers W.contents W.transfers c.args.reading reader writer) { reader_failed = failed } in
    let after = ends_of R.remaining R.transfers W.contents W.transfers c.args.reading c.serve_opened.new.reader c.serve_opened.new.writer in
    subst (λ failed. CameTo g.H.Storage.IsIntact g.H.Storage.IsOpen g.H.Storage.seen g.H.Storage.left (before failed) after c.serve_opened.result c.args.host.now c.serve_opened.new.host) (c.in-Ok.ensures.going ∙ sym c.requires.reads)
    (c.serve_opened.ensures.came_to start (R.transfers reader.inner)
    (subst (λ l. Opens l start left opening.bytes.items (announced_size opening.head)) c.limits.ensures c.in-Ok.ensures.opens) c.in-Ok.ensures.given)

pub returns-in-Err-OutOfMemory-clause-came_to : goal.returns-in-Err-OutOfMemory-clause-came_to
returns-in-Err-OutOfMemory-clause-came_to g c =
    let (taken, took, gave) = c.in-Err-OutOfMemory.ensures.within in
    let sent = c.answer-in-Err-OutOfMemory.ensures in
    let left_out = c.left_out-told-in-Err-OutOfMemory.ensures in
    answered_fixed g.H.Storage.IsIntact g.H.Storage.IsOpen g.H.Storage.seen g.H.Storage.left c.limits.result _ _ c.answer-in-Err-OutOfMemory.result taken _ _ _
    c.limits.ensures took gave (rw c.in-Err-OutOfMemory.field-0-is at c.in-Err-OutOfMemory.ensures.failed) refl (fixed_wanting c.args.reading c.if-reading-gt-LAST_READING.false)
    (sent.stamp ∙ left_out.stamp) (rw left_out.reply at sent.out) (rw left_out.reply at sent.took) (rw left_out.reply at sent.ended)

pub returns-in-Err-ReadFailed-clause-came_to : goal.returns-in-Err-ReadFailed-clause-came_to
returns-in-Err-ReadFailed-clause-came_to g c =
    let (taken, took, gave) = c.in-Err-ReadFailed.ensures.within in
    broken g.H.Storage.IsIntact g.H.Storage.IsOpen g.H.Storage.seen g.H.Storage.left c.limits.result _ _ _ taken _ _
    c.limits.ensures took gave (rw c.in-Err-ReadFailed.field-0-is at c.in-Err-ReadFailed.ensures.failed) c.requires.writes refl refl refl c.broken_off.ensures.ended c.broken_off.ensures.stamp c.broken_off.ensures.sent

pub returns-in-Ok-clause-untouched : goal.returns-in-Ok-clause-untouched
returns-in-Ok-clause-untouched g c = came_untouched g.H.Storage.IsIntact g.H.Storage.IsOpen g.H.Storage.seen g.H.Storage.left _ _ c.serve_opened.result _ _ (returns-in-Ok-clause-came_to g c)

pub returns-in-Ok-clause-acknowledged : goal.returns-in-Ok-clause-acknowledged
returns-in-Ok-clause-acknowledged g c = came_acknowledged g.H.Storage.IsIntact g.H.Storage.IsOpen g.H.Storage.seen g.H.Storage.left _ _ c.serve_opened.result _ _ (returns-in-Ok-clause-came_to g c)
