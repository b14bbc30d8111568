use Rattle.bh_storage.specs.Calls.{Reports}
use Rattle.bh_memo.proofs.Calls.{told_ok}
use Rattle.bh_schema.specs.Storage as storage
use Rattle.bh_dispatch.proofs.Remembering.{on_ok, told_so, so, alone_is, host_works}
use Rattle.bh_dispatch.proofs.sql_host.SqlHost.report.Goals as goal

pub report-requires : goal.report-requires
report-requires g c = host_works g.S.Store g.P.Shelf g.D.Digester.digest_of c.args.self.now c.requires

pub returns-clause-goes_on : goal.returns-clause-goes_on
returns-clause-goes_on g c =
    let digest = g.D.Digester.digest_of in
    let old = c.args.self.now in
    let h = c.report.ensures in
    let w = h.goes_on.within in
    let a = storage.seen g.S.Store g.P.Shelf old.host in
    let b = storage.seen g.S.Store g.P.Shelf c.report.new.host in
    let Clean = storage.IsClean g.S.Store g.P.Shelf c.report.new.host in
    on_ok g.S.Store g.P.Shelf digest old (record old { host = c.report.new.host }) c.report.result h.goes_on
    (told_so old.memo Reports (λ x y z told. told.same) a.now b.now Clean c.report.result (λ (clean : Clean). so g.S.Store g.P.Shelf digest old c.requires (w.intact clean.0, w.opened clean.0 clean.1)) h.reports)

pub returns-clause-reports : goal.returns-clause-reports
returns-clause-reports g c =
    let digest = g.D.Digester.digest_of in
    let old = c.args.self.now in
    let h = c.report.ensures in
    let w = h.goes_on.within in
    let a = storage.seen g.S.Store g.P.Shelf old.host in
    let b = storage.seen g.S.Store g.P.Shelf c.report.new.host in
    let Clean = storage.IsClean g.S.Store g.P.Shelf c.report.new.host in
    let first : Clean → storage.IsClean g.S.Store g.P.Shelf old.host = λ clean. (w.intact clean.0, w.opened clean.0 clean.1) in
    told_ok old.memo old.memo a b Clean (λ clean. alone_is g.S.Store g.P.Shelf digest old c.requires (first clean)) Reports c.report.result
    (told_so old.memo Reports (λ x y z told. told.same) a.now b.now Clean c.report.result (λ clean. so g.S.Store g.P.Shelf digest old c.requires (first clean)) h.reports) h.reports
