use Rattle.std.proofs.Common.{rules, refl}
use Rattle.bh_removal.specs.Removal.{leaves}
use Rattle.bh_host.specs.Offers.{command_answer_view}
use Rattle.bh_host.specs.declared.offer.CommandAnswer.TheVariants as answer
use Rattle.bh_dispatch.proofs.Operating.{commanded, map_is}
use Rattle.bh_dispatch.proofs.commands.remove_tenant.Goals as goal

pub returns : goal.returns
returns g c =
    let it = c.remove_tenant-removed in
    let read = c.in_ok-tenant.ensures in
    rw (map_is (λ _. answer.Done) _ (λ x a e. search rules) it.result c.map.result c.map.ensures.cases)
    (commanded g.S.Store g.P.Shelf c.args.connection.now it.new.connection c.in-Some.tenant c.args.tenant.now (rw c.in-Some.is at read.value) (read.found.0 (rw c.in-Some.is refl)) command_answer_view (λ _. answer.Done) (leaves c.args.at c.args.with_objects) it.result it.ensures.works.within it.ensures.works.opens it.ensures.works.working it.ensures.carries)
