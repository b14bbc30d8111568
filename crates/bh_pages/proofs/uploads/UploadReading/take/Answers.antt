use Rattle.std.proofs.lemmas.Result.{IfOk-weaker}
use Rattle.bh_pages.proofs.UploadTaking.{took}
use Rattle.bh_pages.proofs.uploads.UploadReading.take.Goals as goal

pub returns-clause-took : goal.returns-clause-took
returns-clause-took c =
    IfOk-weaker c.take_rows.result _ _
    (λ ended taken rows listing are was next. took c.args.asked.now rows listing are c.args.self.now was c.args.lines.now next c.take_rows.new.self ended taken)
    c.take_rows.ensures.took
