use Rattle.std.proofs.Common.{ℕ, Result, length, length-take, arith, sym, ap, subst}
use Rattle.bh_types.specs.declared.refusal.Refusal.{Refusal}
use Rattle.bh_http.specs.Views.{Taken}
use Rattle.bh_host.specs.Receives.{ToldOf}
use Rattle.bh_host.specs.Replies.{reply_bytes}
use Rattle.bh_host.proofs.Answered.{anew_told, completed_short, whole_replied}
use Rattle.bh_host.proofs.event.apply_headed.Goals as goal

pub returns-then-head-rest-clause-told : goal.returns-then-head-rest-clause-told
returns-then-head-rest-clause-told g c =
    let told = c.refuse_unread.result in
    subst (λ (a : Result Taken Refusal). ToldOf g.H.Storage.IsIntact g.H.Storage.IsOpen g.H.Storage.seen g.H.Storage.left c.args.reading a c.args.host.now c.refuse_unread.new.host (told.stamp, reply_bytes told.reply)) (sym (completed_short c.args.head.now c.args.rest.now c.if-head-rest.true))
    (anew_told g.H.Storage.IsIntact g.H.Storage.IsOpen g.H.Storage.seen g.H.Storage.left c.args.reading _ c.args.host.now c.refuse_unread.new.host told.stamp (reply_bytes told.reply) c.refuse_unread.ensures.anew)

pub returns-in-Some-clause-told : goal.returns-in-Some-clause-told
returns-in-Some-clause-told g c =
    let enough = c.if-head-rest.false in
    let is = c.new-body.ensures in
    let count = ap length is in
    whole_replied g.H.Storage.IsIntact g.H.Storage.IsOpen g.H.Storage.seen g.H.Storage.left c.args.reading c.args.head.now c.args.rest.now c.new-body.result.bytes.now _ c.args.host.now c.receive.new.host enough is
    (omega (arith, enough, count, length-take {A = ℕ})) c.in-Some.replied c.in-Some.ensures.receives
