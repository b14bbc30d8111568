-- What it took waits behind what waited before.
use Rattle.std.proofs.Common.{take, ap, ◌∙◌, arith}
use Rattle.bh_stage.specs.Records.{bytes_of}
use Rattle.bh_stage.specs.Spools.{rest_in}
use Rattle.bh_stage.proofs.OutboxLemmas.{told_after}
use Rattle.bh_stage.proofs.RecordLemmas.{bytes_of_append}
use Rattle.bh_stage.proofs.outbox.Outbox.keep.Goals as goal

pub invariant_of-self-2-clause-all : goal.invariant_of-self-2-clause-all
invariant_of-self-2-clause-all g c = λ none faithful.
    let out = c.args.self.now in
    let n = c.copy_front-count.result in
    let piece = c.copy_front-count.new.room in
    let told = ap bytes_of c.and-self.ensures ∙ bytes_of_append out.told.items n piece in
    told_after (bytes_of out.told.items) (bytes_of c.and-self.result.items) (bytes_of out.outlet.taken.items) out.held.items c.append.new.held.items (take n piece) (rest_in out.spool) out.sent (out.all none faithful) (omega (arith, out.within, out.held.ok.0)) told c.in_ok-append.ensures.ok c.requires
