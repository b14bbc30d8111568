use Rattle.std.proofs.Common.{ap, sym}
use Rattle.std.specs.Prelude.{map}
use Rattle.bh_model.specs.Shown.{naming_of}
use Rattle.bh_model.specs.Uploads.{complete_upload}
use Rattle.bh_storage.specs.Answers.{completed_answer}
use Rattle.bh_dispatch.proofs.Operating.{by_step, carried_plainly, responding}
use Rattle.bh_dispatch.proofs.Steps.{finishes}
use Rattle.bh_dispatch.proofs.uploads.complete_upload.Goals as goal

pub returns : goal.returns
returns g c =
    let it = c.complete_upload-completed in
    let asked = c.args.asked.now in
    let object = c.args.object.now in
    let named = c.in_ok-named.named.items in
    by_step g.S.Store g.P.Shelf c.args.asked.now.tenant.now c.args.connection.now it.new.connection _ _ _ (ap responding (finishes asked.limits asked.at object.bucket object.key c.args.upload c.args.document.now named c.in_ok-named.ensures))
    (carried_plainly g.S.Store g.P.Shelf c.args.asked.now.tenant.now c.args.connection.now it.new.connection completed_answer (complete_upload asked.at asked.limits.min_part object.bucket object.key c.args.upload (map naming_of named)) it.result c.told.result c.told.ensures it.ensures.works.within it.ensures.works.opens it.ensures.works.working
    (rw (sym c.limits.view_is, sym c.deref.ensures.value) it.ensures.carries))
