-- What went out was the front of what waited.
use Rattle.std.proofs.Common.{take, drop, ap, ◌∙◌}
use Rattle.bh_stage.specs.Records.{bytes_of}
use Rattle.bh_stage.specs.Spools.{rest_in}
use Rattle.bh_stage.proofs.OutboxLemmas.{sent_after}
use Rattle.bh_stage.proofs.outbox.Outbox.send_held.Goals as goal

pub invariant_of-self-else-self-len-clause-all : goal.invariant_of-self-else-self-len-clause-all
invariant_of-self-else-self-len-clause-all g c = λ none faithful.
    let out = c.args.self.now in
    let same = c.copy_rest-count.ensures.bytes ∙ ap (λ x. take c.copy_rest-count.result (drop out.sent x)) c.as_slice.ensures.value in
    sent_after (bytes_of out.told.items) (bytes_of out.outlet.taken.items) (bytes_of c.take.new.self.taken.items) out.held.items c.copy_rest-count.new.room (rest_in out.spool) out.sent c.in_ok-went.went c.copy_rest-count.result (out.all none faithful) c.in_ok-went.ensures.taken same c.in_ok-went.ensures.within
