-- What was given from the file is the front of what is left there.
use Rattle.std.proofs.Common.{ap, ◌∙◌, arith}
use Rattle.bh_stage.specs.Records.{bytes_of}
use Rattle.bh_stage.specs.Spools.{rest_in}
use Rattle.bh_stage.proofs.KeptLemmas.{gave_spooled}
use Rattle.bh_stage.proofs.RecordLemmas.{bytes_of_append}
use Rattle.bh_stage.proofs.kept.Kept.next_spooled.Goals as goal

pub invariant_of-self-2-clause-all : goal.invariant_of-self-2-clause-all
invariant_of-self-2-clause-all g c = λ faithful.
    let it = c.args.self.now in
    let n = c.in_ok-count.count in
    let told = ap bytes_of c.and-self.ensures ∙ bytes_of_append it.gave.items n c.get.new.room in
    gave_spooled (bytes_of it.gave.items) (bytes_of c.and-self.result.items) it.bytes.items c.get.new.room (rest_in it.spool) (rest_in c.get.new.spool) (bytes_of it.inlet.given.items) it.at n (it.all (c.get.ensures.faithful faithful)) told (omega (arith, c.requires.none, it.bytes.ok.0)) (c.in_ok-count.ensures.rest faithful)

pub returns-clause-gave : goal.returns-clause-gave
returns-clause-gave g c = ap bytes_of c.and-self.ensures ∙ bytes_of_append c.args.self.now.gave.items c.in_ok-count.count c.get.new.room
