-- The next bytes of the file wait in memory.
use Rattle.std.proofs.Common.{take, arith}
use Rattle.bh_stage.specs.Records.{bytes_of}
use Rattle.bh_stage.specs.Spools.{rest_in}
use Rattle.bh_stage.proofs.OutboxLemmas.{refilled}
use Rattle.bh_stage.proofs.outbox.Outbox.refill.Goals as goal

pub invariant_of-self-2-clause-all : goal.invariant_of-self-2-clause-all
invariant_of-self-2-clause-all g c = λ none faithful.
    let out = c.args.self.now in
    let n = c.in_ok-count.count in
    refilled (bytes_of out.told.items) (bytes_of out.outlet.taken.items) out.held.items c.append.new.held.items (take n c.get.new.room) (rest_in out.spool) (rest_in c.get.new.spool) out.sent (out.all none (c.get.ensures.faithful faithful)) (omega (arith, out.within, out.held.ok.0)) c.in_ok-append.ensures.ok (c.in_ok-count.ensures.rest faithful)
