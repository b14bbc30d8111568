use Rattle.std.proofs.Common.{IfOk, sym, subst}
use Rattle.bh_blocks.specs.Digests.{digest_by}
use Rattle.bh_commands.specs.Subcommands.{host_by, IsReady, IsWorkedInTime}
use Rattle.bh_commands.proofs.hosts.work_by_digest.Goals as goal

pub work_by-requires : goal.work_by-requires
work_by-requires g c = subst (λ d. IsReady g.P.Shelf (digest_by d) c.args.opened.latest (host_by d c.args.opened c.args.packs)) c.in-Sha256.is c.requires

pub work_by-requires-in-Fast : goal.work_by-requires-in-Fast
work_by-requires-in-Fast g c = subst (λ d. IsReady g.P.Shelf (digest_by d) c.args.opened.latest (host_by d c.args.opened c.args.packs)) c.in-Fast.is c.requires

pub returns-in-Sha256 : goal.returns-in-Sha256
returns-in-Sha256 g c = subst (λ d. IfOk c.work_by.result (λ done. IsWorkedInTime g.P.Shelf (digest_by d) c.args.clock c.args.asked (host_by d c.args.opened c.args.packs) done.connection done.printed)) (sym c.in-Sha256.is) c.work_by.ensures

pub returns-in-Fast : goal.returns-in-Fast
returns-in-Fast g c = subst (λ d. IfOk c.work_by-in-Fast.result (λ done. IsWorkedInTime g.P.Shelf (digest_by d) c.args.clock c.args.asked (host_by d c.args.opened c.args.packs) done.connection done.printed)) (sym c.in-Fast.is) c.work_by-in-Fast.ensures
