use Rattle.bh_model.specs.Operations.{copy_object}
use Rattle.bh_storage.specs.Answers.{copied_answer}
use Rattle.bh_dispatch.proofs.Operating.{carried_plainly}
use Rattle.bh_dispatch.proofs.operations.copy_object.Goals as goal

pub returns : goal.returns
returns g c =
    let it = c.copy_object in
    let object = c.args.object.now in
    let source = c.args.source.now in
    carried_plainly g.S.Store g.P.Shelf c.args.asked.now.tenant.now c.args.connection.now it.new.connection copied_answer (copy_object c.args.asked.now.at object.bucket object.key source.object.bucket source.object.key source.version c.args.date) it.result c.told.result c.told.ensures it.ensures.works.within it.ensures.works.opens it.ensures.works.working it.ensures.carries
