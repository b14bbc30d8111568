use Rattle.std.proofs.Common.{refl}
use Rattle.bh_model.specs.Operations.{tell_usage}
use Rattle.bh_host.specs.Offers.{command_answer_view}
use Rattle.bh_host.specs.declared.offer.CommandAnswer.TheVariants as answer
use Rattle.bh_dispatch.proofs.Operating.{commanded, map_is}
use Rattle.bh_dispatch.proofs.commands.show_usage.Goals as goal

pub returns-in-Some : goal.returns-in-Some
returns-in-Some g c =
    let it = c.usage in
    let read = c.in_ok-tenant.ensures in
    rw (map_is answer.Used _ (λ x a e. e) it.result c.map.result c.map.ensures.cases)
    (commanded g.S.Store g.P.Shelf c.args.connection.now it.new.connection c.in-Some.tenant c.args.tenant.now (rw c.in-Some.is at read.value) (read.found.0 (rw c.in-Some.is refl)) command_answer_view answer.Used tell_usage it.result it.ensures.within it.ensures.opens it.ensures.working it.ensures.carries)
