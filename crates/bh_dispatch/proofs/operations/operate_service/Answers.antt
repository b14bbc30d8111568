use Rattle.bh_machine.specs.Machine.{service_operated}
use Rattle.bh_model.specs.Operations.{list_buckets, tell_usage}
use Rattle.bh_storage.specs.Answers.{used_answer}
use Rattle.bh_dispatch.proofs.Operating.{carried_plainly}
use Rattle.bh_dispatch.proofs.operations.operate_service.Goals as goal

pub returns-in-ListBuckets : goal.returns-in-ListBuckets
unfolding service_operated
returns-in-ListBuckets g c =
    let it = c.list_buckets in
    rw c.in-ListBuckets.is
    (carried_plainly g.S.Store g.P.Shelf c.args.tenant.now c.args.connection.now it.new.connection _ list_buckets it.result c.told.result c.told.ensures it.ensures.works.within it.ensures.works.opens it.ensures.works.working it.ensures.carries)

pub returns-in-Usage : goal.returns-in-Usage
unfolding service_operated
returns-in-Usage g c =
    let it = c.usage in
    rw c.in-Usage.is
    (carried_plainly g.S.Store g.P.Shelf c.args.tenant.now c.args.connection.now it.new.connection used_answer tell_usage it.result c.told-in-Usage.result c.told-in-Usage.ensures it.ensures.within it.ensures.opens it.ensures.working it.ensures.carries)
