use Rattle.std.proofs.Common.{Vec, Global}
use Rattle.bh_storage.specs.declared.report.TenantReport.{TenantReport}
use Rattle.bh_storage.specs.Calls.{Lists}
use Rattle.bh_memo.proofs.Calls.{told_ok}
use Rattle.bh_schema.specs.Storage as storage
use Rattle.bh_dispatch.proofs.Remembering.{on_ok, told_so, so, alone_is, host_works}
use Rattle.bh_dispatch.proofs.sql_host.SqlHost.tenants.Goals as goal

pub tenants-requires : goal.tenants-requires
tenants-requires g c = host_works g.S.Store g.P.Shelf g.D.Digester.digest_of c.args.self.now c.requires

pub returns-clause-goes_on : goal.returns-clause-goes_on
returns-clause-goes_on g c =
    let digest = g.D.Digester.digest_of in
    let old = c.args.self.now in
    let h = c.tenants.ensures in
    let w = h.goes_on.within in
    let a = storage.seen g.S.Store g.P.Shelf old.host in
    let b = storage.seen g.S.Store g.P.Shelf c.tenants.new.host in
    let Clean = storage.IsClean g.S.Store g.P.Shelf c.tenants.new.host in
    on_ok g.S.Store g.P.Shelf digest old (record old { host = c.tenants.new.host }) c.tenants.result h.goes_on
    (told_so old.memo (λ (listed : Vec TenantReport Global). Lists listed.items) (λ x y z told. told.same) a.now b.now Clean c.tenants.result (λ (clean : Clean). so g.S.Store g.P.Shelf digest old c.requires (w.intact clean.0, w.opened clean.0 clean.1)) h.lists)

pub returns-clause-lists : goal.returns-clause-lists
returns-clause-lists g c =
    let digest = g.D.Digester.digest_of in
    let old = c.args.self.now in
    let h = c.tenants.ensures in
    let w = h.goes_on.within in
    let a = storage.seen g.S.Store g.P.Shelf old.host in
    let b = storage.seen g.S.Store g.P.Shelf c.tenants.new.host in
    let Clean = storage.IsClean g.S.Store g.P.Shelf c.tenants.new.host in
    let first : Clean → storage.IsClean g.S.Store g.P.Shelf old.host = λ clean. (w.intact clean.0, w.opened clean.0 clean.1) in
    told_ok old.memo old.memo a b Clean (λ clean. alone_is g.S.Store g.P.Shelf digest old c.requires (first clean)) (λ (listed : Vec TenantReport Global). Lists listed.items) c.tenants.result
    (told_so old.memo (λ (listed : Vec TenantReport Global). Lists listed.items) (λ x y z told. told.same) a.now b.now Clean c.tenants.result (λ clean. so g.S.Store g.P.Shelf digest old c.requires (first clean)) h.lists) h.lists
