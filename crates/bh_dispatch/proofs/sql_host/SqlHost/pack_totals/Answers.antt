use Rattle.std.proofs.Common.{◌≡◌}
use Rattle.bh_tables.specs.Typed.{Tables}
use Rattle.bh_memo.proofs.Calls.{told_ok}
use Rattle.bh_schema.specs.Storage as storage
use Rattle.bh_sweep.specs.declared.packs.PackTotals.{PackTotals}
use Rattle.bh_dispatch.proofs.Remembering.{on_ok, told_so, so, alone_is, host_works}
use Rattle.bh_dispatch.proofs.sql_host.SqlHost.pack_totals.Goals as goal

pub pack_totals-requires : goal.pack_totals-requires
pack_totals-requires g c = host_works g.S.Store g.P.Shelf g.D.Digester.digest_of c.args.self.now c.requires

-- the tables stay
abbrev Same : PackTotals → Tables → Tables → Type 0
Same totals old new = new ≡ old

pub returns-clause-goes_on : goal.returns-clause-goes_on
returns-clause-goes_on g c =
    let digest = g.D.Digester.digest_of in
    let old = c.args.self.now in
    let h = c.pack_totals.ensures in
    let w = h.goes_on.within in
    let a = storage.seen g.S.Store g.P.Shelf old.host in
    let b = storage.seen g.S.Store g.P.Shelf c.pack_totals.new.host in
    let Clean = storage.IsClean g.S.Store g.P.Shelf c.pack_totals.new.host in
    on_ok g.S.Store g.P.Shelf digest old (record old { host = c.pack_totals.new.host }) c.pack_totals.result h.goes_on
    (told_so old.memo Same (λ x y z same. same) a.now b.now Clean c.pack_totals.result (λ (clean : Clean). so g.S.Store g.P.Shelf digest old c.requires (w.intact clean.0, w.opened clean.0 clean.1)) h.same)

pub returns-clause-same : goal.returns-clause-same
returns-clause-same g c =
    let digest = g.D.Digester.digest_of in
    let old = c.args.self.now in
    let h = c.pack_totals.ensures in
    let w = h.goes_on.within in
    let a = storage.seen g.S.Store g.P.Shelf old.host in
    let b = storage.seen g.S.Store g.P.Shelf c.pack_totals.new.host in
    let Clean = storage.IsClean g.S.Store g.P.Shelf c.pack_totals.new.host in
    let first : Clean → storage.IsClean g.S.Store g.P.Shelf old.host = λ clean. (w.intact clean.0, w.opened clean.0 clean.1) in
    told_ok old.memo old.memo a b Clean (λ clean. alone_is g.S.Store g.P.Shelf digest old c.requires (first clean)) Same c.pack_totals.result
    (told_so old.memo Same (λ x y z same. same) a.now b.now Clean c.pack_totals.result (λ clean. so g.S.Store g.P.Shelf digest old c.requires (first clean)) h.same) h.same
