-- What it took waits in the file, behind what waited before.
use Rattle.std.proofs.Common.{take, drop, ap, ◌∙◌}
use Rattle.bh_stage.specs.Records.{bytes_of}
use Rattle.bh_stage.specs.Spools.{rest_in}
use Rattle.bh_stage.proofs.OutboxLemmas.{told_away}
use Rattle.bh_stage.proofs.RecordLemmas.{bytes_of_append}
use Rattle.bh_stage.proofs.outbox.Outbox.put_away.Goals as goal

pub invariant_of-self-2-clause-all : goal.invariant_of-self-2-clause-all
invariant_of-self-2-clause-all g c = λ none faithful.
    let out = c.args.self.now in
    let told = ap bytes_of c.and-self.ensures ∙ bytes_of_append out.told.items c.args.count c.args.piece.now in
    told_away (bytes_of out.told.items) (bytes_of c.and-self.result.items) (bytes_of out.outlet.taken.items) (drop out.sent out.held.items) (rest_in out.spool) (rest_in c.put.new.spool) (take c.args.count c.args.piece.now) (out.all none (c.put.ensures.faithful faithful)) told c.in-Ok.ensures.ok
