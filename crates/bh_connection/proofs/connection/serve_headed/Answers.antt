use Rattle.std.proofs.Common.{◌≡◌, ◌<◌, ◌++◌, ℕ, length, Some, false, refl, sym, subst}
use Rattle.bh_http.specs.Transfers.{Gives}
use Rattle.bh_host.specs.Answers.{in_one_write}
use Rattle.bh_host.specs.Replies.{reply_bytes}
use Rattle.bh_link.specs.Taking.{Opens}
use Rattle.bh_storage.specs.Plans.{to_come}
use Rattle.bh_connection.proofs.ConnectionLemmas.{not_asked, ends_in, no_store_fault}
use Rattle.bh_connection.proofs.HeadedLemmas.{headed_told, headed_broken, fault_is}
use Rattle.bh_connection.proofs.connection.serve_headed.Goals as goal

pub returns-in-Some-Told-clause-came_to : goal.returns-in-Some-Told-clause-came_to
returns-in-Some-Told-clause-came_to g c = λ start begun bytes opens reads gave.
    let same = sym c.announce.ensures.inner in
    let sent = c.answer.ensures in
    headed_told g.H.Storage.IsIntact g.H.Storage.IsOpen g.H.Storage.seen g.H.Storage.left g.H.Storage.IsSoundStore (g.H.Storage.seen c.args.host.now).limits _ _ c.args.head.now bytes _ _ c.args.host.now c.receive.new.host c.answer.result
    c.receive.new.host (not_asked g.H.Storage.IsIntact g.H.Storage.IsOpen g.H.Storage.seen g.H.Storage.left c.answer.result.ended c.receive.new.host) c.in-Some-Told.told.stamp (reply_bytes c.in-Some-Told.told.reply) (reply_bytes c.in-Some-Told.told.reply) (λ _. refl)
    (λ _ fault. absurd (no_store_fault c.answer.result.ended c.answer.result.sent (reply_bytes c.in-Some-Told.told.reply) _ sent.ended fault))
    (λ _ fault. absurd (no_store_fault c.answer.result.ended c.answer.result.sent (reply_bytes c.in-Some-Told.told.reply) _ sent.ended fault))
    (record {
      limits_are = refl;
      rest = c.requires.rest;
      still = c.receive.ensures.stays.intact;
      opens = subst (λ i. Opens (g.H.Storage.seen c.args.host.now).limits start (g.R.Source.remaining i) bytes c.args.head.now.body_size) same opens;
      reads = reads;
      gave = subst (λ i. Gives begun (g.R.Source.transfers i) bytes false) same gave;
      due = c.announce.ensures.due;
      left_is = refl;
      gave_is = refl;
      failed_is = sym (fault_is _ _);
      receives = rw c.in-Some-Told.field-0-is at c.in-Some-Told.ensures.receives;
    }) c.requires.in_range sent.stamp sent.out sent.took (ends_in c.answer.result.ended c.in-Some-Told.told.stamp c.answer.result.sent (reply_bytes c.in-Some-Told.told.reply) _ sent.ended)

-- a storage of which a reply is still to be read is open
pub send_planned-requires-clause-open : goal.send_planned-requires-clause-open
send_planned-requires-clause-open g c intact = let (come, going, did, survives) = (rw c.in-Some-Planned.field-0-is at c.in-Some-Planned.ensures.receives).came in (did intact).1

-- and as many bytes of it are to come as its plan says
pub send_planned-requires-clause-measured : goal.send_planned-requires-clause-measured
send_planned-requires-clause-measured g c = rw c.in-Some-Planned.field-0-is at c.in-Some-Planned.ensures.measured

pub returns-in-Some-Planned-clause-came_to : goal.returns-in-Some-Planned-clause-came_to
returns-in-Some-Planned-clause-came_to g c = λ start begun bytes opens reads gave.
    let same = sym c.announce.ensures.inner in
    let out = c.send_planned.ensures in
    let sent = out.sends in
    let reply = c.in-Some-Planned.reply in
    let great = rw c.in-Some-Planned.field-0-is at c.in-Some-Planned.ensures.great in
    let receives = rw c.in-Some-Planned.field-0-is at c.in-Some-Planned.ensures.receives in
    let told = rw c.in-Some-Planned.field-0-is at c.in-Some-Planned.ensures.measured in
    let measured : g.H.Storage.IsIntact c.send_planned.new.host → reply.plan.left ≡ length (to_come reply.plan (g.H.Storage.seen c.receive.new.host).now) = λ intact. (let (come, going, did, kept) = receives.came in let whole = out.intact intact in told (whole, (did whole).1)) in
    headed_told g.H.Storage.IsIntact g.H.Storage.IsOpen g.H.Storage.seen g.H.Storage.left g.H.Storage.IsSoundStore (g.H.Storage.seen c.args.host.now).limits _ _ c.args.head.now bytes _ _ c.args.host.now c.receive.new.host c.send_planned.result
    c.send_planned.new.host (record { intact = out.intact; opens = λ intact opened. out.opens intact; survives = out.survives; same = λ intact opened. ((let (come, going, did, kept) = receives.came in (did (out.intact intact)).1), out.same (intact, opened)) })
    (Some reply.stamp) (reply.head.items ++ to_come reply.plan (g.H.Storage.seen c.receive.new.host).now) sent.reply sent.is
    (λ intact _. record { head = reply.head.items; plan = reply.plan; is = sent.is intact; great = subst (λ (n : ℕ). in_one_write < n) (measured intact) great })
    sent.short
    (record {
      limits_are = refl;
      rest = c.requires.rest;
      still = c.receive.ensures.stays.intact;
      opens = subst (λ i. Opens (g.H.Storage.seen c.args.host.now).limits start (g.R.Source.remaining i) bytes c.args.head.now.body_size) same opens;
      reads = reads;
      gave = subst (λ i. Gives begun (g.R.Source.transfers i) bytes false) same gave;
      due = c.announce.ensures.due;
      left_is = refl;
      gave_is = refl;
      failed_is = sym (fault_is _ _);
      receives = receives;
    }) c.requires.in_range out.stamp sent.out sent.took sent.ended

pub returns-in-None-clause-came_to : goal.returns-in-None-clause-came_to
returns-in-None-clause-came_to g c = λ start begun bytes opens reads gave.
    let same = sym c.announce.ensures.inner in
    headed_broken g.H.Storage.IsIntact g.H.Storage.IsOpen g.H.Storage.seen g.H.Storage.left g.H.Storage.IsSoundStore (g.H.Storage.seen c.args.host.now).limits _ _ c.args.head.now bytes _ _ c.args.host.now c.receive.new.host c.broken_off.result
    (record {
      limits_are = refl;
      rest = c.requires.rest;
      still = c.receive.ensures.stays.intact;
      opens = subst (λ i. Opens (g.H.Storage.seen c.args.host.now).limits start (g.R.Source.remaining i) bytes c.args.head.now.body_size) same opens;
      reads = reads;
      gave = subst (λ i. Gives begun (g.R.Source.transfers i) bytes false) same gave;
      due = c.announce.ensures.due;
      left_is = refl;
      gave_is = refl;
      failed_is = sym (fault_is _ _);
      receives = c.in-None.ensures.receives;
    }) c.requires.writes refl refl c.broken_off.ensures.ended c.broken_off.ensures.stamp c.broken_off.ensures.sent
