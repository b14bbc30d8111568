use Rattle.bh_machine.specs.Machine.{upload_operated}
use Rattle.bh_model.specs.Uploads.{create_upload, abort_upload}
use Rattle.bh_storage.specs.Answers.{begun_answer, removed_answer}
use Rattle.bh_dispatch.proofs.Operating.{carried_plainly}
use Rattle.bh_dispatch.proofs.uploads.operate_upload.Goals as goal

pub returns-in-CreateMultipartUpload : goal.returns-in-CreateMultipartUpload
unfolding upload_operated
returns-in-CreateMultipartUpload g c =
    let it = c.begin_upload in
    let object = c.in-CreateMultipartUpload.object in
    rw c.in-CreateMultipartUpload.is
    (carried_plainly g.S.Store g.P.Shelf c.args.asked.now.tenant.now c.args.connection.now it.new.connection begun_answer (create_upload c.args.asked.now.at object.bucket object.key) it.result c.told.result c.told.ensures it.ensures.works.within it.ensures.works.opens it.ensures.works.working it.ensures.carries)

pub returns-in-ListParts : goal.returns-in-ListParts
unfolding upload_operated
returns-in-ListParts g c = rw c.in-ListParts.is c.list_parts.ensures

pub returns-in-AbortMultipartUpload : goal.returns-in-AbortMultipartUpload
unfolding upload_operated
returns-in-AbortMultipartUpload g c =
    let it = c.abort_upload in
    let object = c.in-AbortMultipartUpload.object in
    rw c.in-AbortMultipartUpload.is
    (carried_plainly g.S.Store g.P.Shelf c.args.asked.now.tenant.now c.args.connection.now it.new.connection removed_answer (abort_upload object.bucket object.key c.in-AbortMultipartUpload.upload) it.result c.told-in-AbortMultipartUpload.result c.told-in-AbortMultipartUpload.ensures it.ensures.works.within it.ensures.works.opens it.ensures.works.working it.ensures.carries)
