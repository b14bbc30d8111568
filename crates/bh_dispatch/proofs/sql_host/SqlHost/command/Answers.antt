use Rattle.bh_event.specs.Events.{order_of, tenant_of}
use Rattle.bh_machine.specs.Machine.{ordered}
use Rattle.bh_host.specs.Offers.{command_answer_view}
use Rattle.bh_storage.specs.Calls.{Carries}
use Rattle.bh_memo.proofs.Calls.{shown_unless}
use Rattle.bh_schema.specs.Storage as storage
use Rattle.bh_dispatch.proofs.Remembering.{unless, unless_any, none_so, alone_is, host_works}
use Rattle.bh_dispatch.proofs.sql_host.SqlHost.command.Goals as goal

pub command-requires : goal.command-requires
command-requires g c = host_works g.S.Store g.P.Shelf g.D.Digester.digest_of c.args.self.now c.requires

pub returns-clause-goes_on : goal.returns-clause-goes_on
returns-clause-goes_on g c =
    let b = storage.seen g.S.Store g.P.Shelf c.command.new.host in
    unless g.S.Store g.P.Shelf g.D.Digester.digest_of c.args.self.now (record c.args.self.now { host = c.command.new.host; memo = c.clear.new.self }) c.command.result c.command.ensures.goes_on
    (unless_any c.command.result _ (λ clean. none_so c.clear.new.self b.now c.clear.ensures))

pub returns-clause-carries : goal.returns-clause-carries
returns-clause-carries g c =
    let old = c.args.self.now in
    let h = c.command.ensures in
    let w = h.goes_on.within in
    let a = storage.seen g.S.Store g.P.Shelf old.host in
    let b = storage.seen g.S.Store g.P.Shelf c.command.new.host in
    let Clean = storage.IsClean g.S.Store g.P.Shelf c.command.new.host in
    let order = order_of c.args.command.now in
    shown_unless old.memo c.clear.new.self a b Clean (λ (clean : Clean). alone_is g.S.Store g.P.Shelf g.D.Digester.digest_of old c.requires (w.intact clean.0, w.opened clean.0 clean.1))
    (λ r x y. Carries command_answer_view (tenant_of order) (ordered c.args.at order) x y r) (λ trouble x y. tt) c.command.result (unless_any c.command.result _ (λ clean. none_so c.clear.new.self b.now c.clear.ensures)) h.carries
