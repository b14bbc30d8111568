use Rattle.std.proofs.Common.{refl, ap}
use Rattle.std.proofs.lemmas.Result.{err_from_is_err_and}
use Rattle.bh_docs.specs.Requests.{versioning_of, lifecycle_of, retention_of}
use Rattle.bh_machine.specs.Machine.{document_operated, set_versioning, set_lifecycle, set_retention}
use Rattle.bh_model.specs.Operations.{Done, put_versioning, put_lifecycle, put_retention}
use Rattle.bh_types.specs.Rejections.{plainly}
use Rattle.bh_dispatch.proofs.Operating.{by_step, carried, carried_plainly, responding, unread}
use Rattle.bh_dispatch.proofs.Steps.{rules as ruled, dates, states, lifecycle_range}
use Rattle.bh_dispatch.proofs.documents.carry_out_document.Goals as goal

pub returns-in_err-state-in-PutBucketVersioning : goal.returns-in_err-state-in-PutBucketVersioning
unfolding document_operated
returns-in_err-state-in-PutBucketVersioning g c =
    let p = err_from_is_err_and c.from_residual.result c.from_residual.ensures.1 in
    let document = c.args.document.now in
    rw (c.in-PutBucketVersioning.is, p.1, p.2) (unread g.S.Store g.P.Shelf c.args.connection.now c.requires.working c.args.asked.now.tenant.now (λ s. plainly (set_versioning c.in-PutBucketVersioning.bucket document s)) (λ x. x) (versioning_of document) (λ r s e. rw e refl) c.in_err-state-in-PutBucketVersioning.field-0.0 c.in_err-state-in-PutBucketVersioning.ensures)

pub returns-in_ok-state-in-PutBucketVersioning : goal.returns-in_ok-state-in-PutBucketVersioning
unfolding document_operated
returns-in_ok-state-in-PutBucketVersioning g c =
    let it = c.set_versioning in
    let at = c.in_ok-state-in-PutBucketVersioning in
    rw c.in-PutBucketVersioning.is
    (by_step g.S.Store g.P.Shelf c.args.asked.now.tenant.now c.args.connection.now it.new.connection _ _ _ (ap responding (states c.in-PutBucketVersioning.bucket c.args.document.now at.state at.ensures))
    (carried_plainly g.S.Store g.P.Shelf c.args.asked.now.tenant.now c.args.connection.now it.new.connection (λ _. Done) (put_versioning c.in-PutBucketVersioning.bucket at.state) it.result c.told.result c.told.ensures it.ensures.works.within it.ensures.works.opens it.ensures.works.working it.ensures.carries))

pub returns-in_err-days-in-PutLifecycle : goal.returns-in_err-days-in-PutLifecycle
unfolding document_operated
returns-in_err-days-in-PutLifecycle g c =
    let p = err_from_is_err_and c.from_residual-in_err-days-in-PutLifecycle.result c.from_residual-in_err-days-in-PutLifecycle.ensures.1 in
    let document = c.args.document.now in
    rw (c.in-PutLifecycle.is, p.1, p.2) (unread g.S.Store g.P.Shelf c.args.connection.now c.requires.working c.args.asked.now.tenant.now (λ s. plainly (set_lifecycle c.in-PutLifecycle.bucket document s)) (λ x. x) (lifecycle_of document) (λ r s e. rw e refl) c.in_err-days-in-PutLifecycle.field-0.0 c.in_err-days-in-PutLifecycle.ensures)

pub set_lifecycle-requires-clause-least : goal.set_lifecycle-requires-clause-least
set_lifecycle-requires-clause-least g c = (lifecycle_range c.args.document.now c.in_ok-days-in-PutLifecycle.days c.in_ok-days-in-PutLifecycle.ensures).0

pub set_lifecycle-requires-clause-most : goal.set_lifecycle-requires-clause-most
set_lifecycle-requires-clause-most g c = (lifecycle_range c.args.document.now c.in_ok-days-in-PutLifecycle.days c.in_ok-days-in-PutLifecycle.ensures).1

pub returns-in_ok-days-in-PutLifecycle : goal.returns-in_ok-days-in-PutLifecycle
unfolding document_operated
returns-in_ok-days-in-PutLifecycle g c =
    let it = c.set_lifecycle in
    let at = c.in_ok-days-in-PutLifecycle in
    rw c.in-PutLifecycle.is
    (by_step g.S.Store g.P.Shelf c.args.asked.now.tenant.now c.args.connection.now it.new.connection _ _ _ (ap responding (ruled c.in-PutLifecycle.bucket c.args.document.now at.days at.ensures))
    (carried_plainly g.S.Store g.P.Shelf c.args.asked.now.tenant.now c.args.connection.now it.new.connection (λ _. Done) (put_lifecycle c.in-PutLifecycle.bucket at.days) it.result c.told-in-PutLifecycle.result c.told-in-PutLifecycle.ensures it.ensures.works.within it.ensures.works.opens it.ensures.works.working it.ensures.carries))

pub returns-in-CompleteMultipartUpload : goal.returns-in-CompleteMultipartUpload
unfolding document_operated
returns-in-CompleteMultipartUpload g c = rw c.in-CompleteMultipartUpload.is c.complete_upload.ensures

pub returns-in_err-until-in-PutRetention : goal.returns-in_err-until-in-PutRetention
unfolding document_operated
returns-in_err-until-in-PutRetention g c =
    let p = err_from_is_err_and c.from_residual-in_err-until-in-PutRetention.result c.from_residual-in_err-until-in-PutRetention.ensures.1 in
    let document = c.args.document.now in
    rw (c.in-PutRetention.is, p.1, p.2) (unread g.S.Store g.P.Shelf c.args.connection.now c.requires.working c.args.asked.now.tenant.now (set_retention c.args.asked.now.at c.in-PutRetention.object.bucket c.in-PutRetention.object.key c.in-PutRetention.version document) (λ x. x) (retention_of document) (λ r s e. rw e refl) c.in_err-until-in-PutRetention.field-0.0 c.in_err-until-in-PutRetention.ensures)

pub returns-in_ok-until-in-PutRetention : goal.returns-in_ok-until-in-PutRetention
unfolding document_operated
returns-in_ok-until-in-PutRetention g c =
    let it = c.set_retention-set in
    let at = c.in_ok-until-in-PutRetention in
    let object = c.in-PutRetention.object in
    rw c.in-PutRetention.is
    (by_step g.S.Store g.P.Shelf c.args.asked.now.tenant.now c.args.connection.now it.new.connection _ _ _ (ap responding (dates c.args.asked.now.at object.bucket object.key c.in-PutRetention.version c.args.document.now at.until at.ensures))
    (carried g.S.Store g.P.Shelf c.args.asked.now.tenant.now c.args.connection.now it.new.connection (λ _. Done) (put_retention c.args.asked.now.at object.bucket object.key c.in-PutRetention.version at.until) it.result c.told_with_details.result c.told_with_details.ensures it.ensures.works.within it.ensures.works.opens it.ensures.works.working it.ensures.carries))
