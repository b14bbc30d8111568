use Rattle.bh_machine.specs.Machine.{bucket_operated}
use Rattle.bh_model.specs.Operations.{Done, create_bucket, head_bucket, delete_bucket, get_versioning}
use Rattle.bh_storage.specs.Answers.{removed_answer}
use Rattle.bh_dispatch.proofs.Operating.{carried_plainly}
use Rattle.bh_dispatch.proofs.operations.operate_bucket.Goals as goal

pub returns-in-CreateBucket : goal.returns-in-CreateBucket
unfolding bucket_operated
returns-in-CreateBucket g c =
    let it = c.create_bucket-created in
    rw c.in-CreateBucket.is
    (carried_plainly g.S.Store g.P.Shelf c.args.asked.now.tenant.now c.args.connection.now it.new.connection (λ _. Done) (create_bucket c.args.asked.now.at c.in-CreateBucket.bucket c.in-CreateBucket.locked) it.result c.told.result c.told.ensures it.ensures.works.within it.ensures.works.opens it.ensures.works.working it.ensures.carries)

pub returns-in-HeadBucket : goal.returns-in-HeadBucket
unfolding bucket_operated
returns-in-HeadBucket g c =
    let it = c.head_bucket in
    rw c.in-HeadBucket.is
    (carried_plainly g.S.Store g.P.Shelf c.args.asked.now.tenant.now c.args.connection.now it.new.connection (λ _. Done) (head_bucket c.in-HeadBucket.bucket) it.result c.told-in-HeadBucket.result c.told-in-HeadBucket.ensures it.ensures.works.within it.ensures.works.opens it.ensures.works.working it.ensures.carries)

pub returns-in-DeleteBucket : goal.returns-in-DeleteBucket
unfolding bucket_operated
returns-in-DeleteBucket g c =
    let it = c.delete_bucket in
    rw c.in-DeleteBucket.is
    (carried_plainly g.S.Store g.P.Shelf c.args.asked.now.tenant.now c.args.connection.now it.new.connection removed_answer (delete_bucket c.in-DeleteBucket.bucket) it.result c.told-in-DeleteBucket.result c.told-in-DeleteBucket.ensures it.ensures.works.within it.ensures.works.opens it.ensures.works.working it.ensures.carries)

pub returns-in-GetBucketVersioning : goal.returns-in-GetBucketVersioning
unfolding bucket_operated
returns-in-GetBucketVersioning g c =
    let it = c.versioning in
    rw c.in-GetBucketVersioning.is
    (carried_plainly g.S.Store g.P.Shelf c.args.asked.now.tenant.now c.args.connection.now it.new.connection _ (get_versioning c.in-GetBucketVersioning.bucket) it.result c.told-in-GetBucketVersioning.result c.told-in-GetBucketVersioning.ensures it.ensures.works.within it.ensures.works.opens it.ensures.works.working it.ensures.carries)
