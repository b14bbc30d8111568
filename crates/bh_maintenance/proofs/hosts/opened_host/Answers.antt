use Rattle.bh_maintenance.proofs.Opened.{when_ok}
use Rattle.bh_maintenance.proofs.hosts.opened_host.Goals as goal

pub returns-in_ok-with_packs-in-Ok : goal.returns-in_ok-with_packs-in-Ok
returns-in_ok-with_packs-in-Ok g c =
    c.in_ok-with_packs-in-Ok.ensures c.args.connection ((when_ok _ _ c.in-Ok.is c.in_ok-opened.ensures).sound (g.K.ClosedPacks.has c.args.closed) c.requires)
