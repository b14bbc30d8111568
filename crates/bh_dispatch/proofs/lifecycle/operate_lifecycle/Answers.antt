use Rattle.bh_machine.specs.Machine.{lifecycle_operated}
use Rattle.bh_model.specs.Operations.{get_lifecycle, delete_lifecycle}
use Rattle.bh_storage.specs.Answers.{removed_answer}
use Rattle.bh_dispatch.proofs.Operating.{carried_plainly}
use Rattle.bh_dispatch.proofs.lifecycle.operate_lifecycle.Goals as goal

pub returns-in-GetLifecycle : goal.returns-in-GetLifecycle
unfolding lifecycle_operated
returns-in-GetLifecycle g c =
    let it = c.lifecycle in
    rw c.in-GetLifecycle.is
    (carried_plainly g.S.Store g.P.Shelf c.args.tenant.now c.args.connection.now it.new.connection _ (get_lifecycle c.in-GetLifecycle.bucket) it.result c.told.result c.told.ensures it.ensures.works.within it.ensures.works.opens it.ensures.works.working it.ensures.carries)

pub returns-in-DeleteLifecycle : goal.returns-in-DeleteLifecycle
unfolding lifecycle_operated
returns-in-DeleteLifecycle g c =
    let it = c.delete_lifecycle in
    rw c.in-DeleteLifecycle.is
    (carried_plainly g.S.Store g.P.Shelf c.args.tenant.now c.args.connection.now it.new.connection removed_answer (delete_lifecycle c.in-DeleteLifecycle.bucket) it.result c.told-in-DeleteLifecycle.result c.told-in-DeleteLifecycle.ensures it.ensures.works.within it.ensures.works.opens it.ensures.works.working it.ensures.carries)
