use Rattle.std.proofs.Common.{string_bytes}
use Rattle.std.proofs.lemmas.Result.{IfOk-weaker}
use Rattle.std.proofs.lemmas.Str.{IsUtf8-string_bytes}
use Rattle.bh_docs.proofs.Bodies.{data_of-read}
use Rattle.bh_docs.proofs.document.print.Goals as goal

pub returns-clause-reads_back : goal.returns-clause-reads_back
returns-clause-reads_back c =
    IfOk-weaker c.to_string.result _ _
    (λ text h shallow. data_of-read (string_bytes text) _ (IsUtf8-string_bytes text) (h shallow))
    c.to_string.ensures.reads_back
