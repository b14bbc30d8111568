-- Where nothing waits, what it took went out.
use Rattle.std.proofs.Common.{take, ap, ◌++◌, ◌∙◌, arith}
use Rattle.bh_stage.specs.Records.{bytes_of}
use Rattle.bh_stage.specs.Spools.{rest_in}
use Rattle.bh_stage.proofs.OutboxLemmas.{passed, front_of}
use Rattle.bh_stage.proofs.RecordLemmas.{bytes_of_append}
use Rattle.bh_stage.proofs.outbox.Outbox.pass.Goals as goal

pub invariant_of-self-2-clause-all : goal.invariant_of-self-2-clause-all
invariant_of-self-2-clause-all g c = λ none faithful.
    let out = c.args.self.now in
    let piece = c.copy_front-count.new.room in
    let told = ap bytes_of c.and-self.ensures ∙ bytes_of_append out.told.items c.in_ok-went.went piece in
    passed (bytes_of out.told.items) (bytes_of out.outlet.taken.items) (bytes_of c.and-self.result.items) (bytes_of c.take.new.self.taken.items) out.held.items (take c.in_ok-went.went piece) (rest_in out.spool) out.sent (out.all none faithful) (omega (arith, c.requires.none, out.held.ok.0)) c.requires.rest c.in_ok-went.ensures.taken told

pub returns-clause-bytes : goal.returns-clause-bytes
returns-clause-bytes g c =
    let out = c.args.self.now in
    let piece = c.copy_front-count.new.room in
    let told = ap bytes_of c.and-self.ensures ∙ bytes_of_append out.told.items c.in_ok-went.went piece in
    let front = front_of piece c.args.bytes.now c.in_ok-went.went c.copy_front-count.result c.copy_front-count.ensures.bytes c.in_ok-went.ensures.within in
    told ∙ ap (λ x. bytes_of out.told.items ++ x) front
