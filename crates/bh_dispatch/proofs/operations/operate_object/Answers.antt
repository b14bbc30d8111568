use Rattle.bh_machine.specs.Machine.{object_operated}
use Rattle.bh_model.specs.Operations.{head_object, delete_object, get_retention}
use Rattle.bh_storage.specs.Answers.{head_answer, removed_answer}
use Rattle.bh_dispatch.proofs.Operating.{carried, carried_plainly}
use Rattle.bh_dispatch.proofs.operations.operate_object.Goals as goal

pub returns-in-CopyObject : goal.returns-in-CopyObject
unfolding object_operated
returns-in-CopyObject g c = rw c.in-CopyObject.is c.copy_object.ensures

pub returns-in-HeadObject : goal.returns-in-HeadObject
unfolding object_operated
returns-in-HeadObject g c =
    let it = c.head_object-head in
    rw c.in-HeadObject.is
    (carried g.S.Store g.P.Shelf c.args.asked.now.tenant.now c.args.connection.now it.new.connection head_answer (head_object c.in-HeadObject.object.bucket c.in-HeadObject.object.key c.in-HeadObject.version) it.result c.told_with_details.result c.told_with_details.ensures it.ensures.works.within it.ensures.works.opens it.ensures.works.working it.ensures.carries)

pub returns-in-DeleteObject : goal.returns-in-DeleteObject
unfolding object_operated
returns-in-DeleteObject g c =
    let it = c.delete_object-removed in
    rw c.in-DeleteObject.is
    (carried_plainly g.S.Store g.P.Shelf c.args.asked.now.tenant.now c.args.connection.now it.new.connection removed_answer (delete_object c.args.asked.now.at c.in-DeleteObject.object.bucket c.in-DeleteObject.object.key c.in-DeleteObject.version) it.result c.told.result c.told.ensures it.ensures.works.within it.ensures.works.opens it.ensures.works.working it.ensures.carries)

pub returns-in-GetRetention : goal.returns-in-GetRetention
unfolding object_operated
returns-in-GetRetention g c =
    let it = c.retention-date in
    rw c.in-GetRetention.is
    (carried g.S.Store g.P.Shelf c.args.asked.now.tenant.now c.args.connection.now it.new.connection _ (get_retention c.in-GetRetention.object.bucket c.in-GetRetention.object.key c.in-GetRetention.version) it.result c.told_with_details-in-GetRetention.result c.told_with_details-in-GetRetention.ensures it.ensures.works.within it.ensures.works.opens it.ensures.works.working it.ensures.carries)
