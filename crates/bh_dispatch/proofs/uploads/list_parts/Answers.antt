use Rattle.bh_model.specs.Listings.{list_parts}
use Rattle.bh_dispatch.proofs.Operating.{carried_plainly}
use Rattle.bh_dispatch.proofs.uploads.list_parts.Goals as goal

pub returns : goal.returns
returns g c =
    let it = c.list_parts in
    let object = c.args.object.now in
    let page = c.args.page in
    carried_plainly g.S.Store g.P.Shelf c.args.tenant.now c.args.connection.now it.new.connection _ (list_parts object.bucket object.key c.args.upload page.size page.after) it.result c.told.result c.told.ensures it.ensures.within it.ensures.opens it.ensures.working it.ensures.carries
