use Rattle.std.proofs.Common.{List, ℕ, None, rules, sym, subst}
use Rattle.bh_event.specs.Events.{Arrival, arrival}
use Rattle.bh_event.specs.declared.event.Message.{Message}
use Rattle.bh_host.specs.Answers.{told_in}
use Rattle.bh_host.specs.Replies.{clock_text}
use Rattle.bh_host.specs.Turns.{Happened, request_at}
use Rattle.bh_host.specs.declared.reply.Caller.{Caller}
use Rattle.bh_host.proofs.Answered.{late_happened}
use Rattle.bh_host.proofs.event.apply_with.Goals as goal

pub returns-then-reading-gt-LAST_READING-clause-happened : goal.returns-then-reading-gt-LAST_READING-clause-happened
returns-then-reading-gt-LAST_READING-clause-happened g c =
    let H = g.H.Storage in
    let event = arrival c.args.event.now in
    subst (λ (who : Caller). Happened H.IsIntact H.IsOpen H.seen H.left event c.args.host.now c.args.host.now None (clock_text who)) (sym c.caller_of.ensures)
    (late_happened H.IsIntact H.IsOpen H.seen H.left event c.args.host.now (search rules))

pub returns-in-Request-clause-happened : goal.returns-in-Request-clause-happened
returns-in-Request-clause-happened g c =
    let H = g.H.Storage in
    let told = told_in (H.seen c.apply_request.new.host).now c.apply_request.result in
    let P : Arrival → Type 0 = λ e. Happened H.IsIntact H.IsOpen H.seen H.left e c.args.host.now c.apply_request.new.host told.0 told.1 in
    subst (λ (m : Message). P (arrival (record c.args.event.now { message = m }))) (sym c.in-Request.is) (subst (λ (b : List ℕ). P (request_at c.args.event.now.reading b)) c.deref.ensures.value c.apply_request.ensures.happened)
