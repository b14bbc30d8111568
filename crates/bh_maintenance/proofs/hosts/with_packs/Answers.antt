use Rattle.std.proofs.Common.{subst}
use Rattle.bh_shelf.specs.Listed.{HasListed}
use Rattle.bh_maintenance.proofs.Joining.{joined_in}
use Rattle.bh_maintenance.proofs.hosts.with_packs.Goals as goal

pub returns : goal.returns
returns g c old is =
    let opened = c.in_ok-packs in
    let files = g.K.ClosedPacks.has c.args.closed in
    rw c.of.ensures (joined_in g.S.Store g.K.Open.Shelf files c.args.opened opened.packs
    (λ pure. subst (λ rows. HasListed rows files (g.K.Open.Shelf.kept opened.packs)) c.deref.ensures.value (opened.ensures.kept pure)) opened.ensures.seen old is)
