use Rattle.std.proofs.Common.{ap}
use Rattle.std.proofs.lemmas.Bool.{false≢true}
use Rattle.bh_docs.specs.Requests.{or_malformed}
use Rattle.bh_docs.proofs.Bodies.{data_of-read, data_of-refused}
use Rattle.bh_docs.proofs.read.parse_document.Goals as goal

pub returns-in-Ok : goal.returns-in-Ok
returns-in-Ok c = ap or_malformed (data_of-read c.args.body.now _ c.in-Ok.ensures.ok.0 c.in-Ok.ensures.ok.1)

pub returns-else-is_memory : goal.returns-else-is_memory
returns-else-is_memory c =
    ap or_malformed (data_of-refused c.args.body.now (c.in-Err.ensures.err (λ memory. false≢true (c.if-is_memory.ensures.1 memory))))
