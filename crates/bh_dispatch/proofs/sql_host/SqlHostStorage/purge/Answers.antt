use Rattle.std.proofs.Common.{Ok}
use Rattle.std.proofs.lemmas.Result.{err_from_is_err_and}
use Rattle.bh_storage.specs.Calls.{Purges}
use Rattle.bh_storage.specs.declared.error.Trouble.{Trouble}
use Rattle.bh_memo.proofs.Calls.{purges_none, shown}
use Rattle.bh_schema.specs.Storage as storage
use Rattle.bh_dispatch.proofs.Remembering.{within, on_ok, at_rest, host_works, was, ruled_so, quiet_so}
use Rattle.bh_dispatch.proofs.sql_host.SqlHostStorage.purge.Goals as goal

pub returns-then-is_quiet-clause-goes_on : goal.returns-then-is_quiet-clause-goes_on
returns-then-is_quiet-clause-goes_on g c = at_rest g.S.Store g.P.Shelf g.D.Digester.digest_of _ (λ A a. a) c.args.self.now c.requires

pub returns-then-is_quiet-clause-purges : goal.returns-then-is_quiet-clause-purges
returns-then-is_quiet-clause-purges g c clean =
    purges_none c.args.self.now.memo (storage.seen g.S.Store g.P.Shelf c.args.self.now.host) c.args.tenant.now c.args.at (c.requires clean) (c.is_quiet.ensures c.if-is_quiet.true)

pub purge_telling-requires : goal.purge_telling-requires
purge_telling-requires g c = host_works g.S.Store g.P.Shelf g.D.Digester.digest_of c.args.self.now c.requires

pub returns-in_err-ruled-clause-goes_on : goal.returns-in_err-ruled-clause-goes_on
returns-in_err-ruled-clause-goes_on g c =
    let p = err_from_is_err_and c.from_residual.result c.from_residual.ensures.1 in
    rw (p.1, p.2) (record { within = within g.S.Store g.P.Shelf c.args.self.now (record c.args.self.now { host = c.purge_telling.new.host }) c.in_err-ruled.ensures.goes_on.within; opens = tt; working = tt })

pub returns-in_err-ruled-clause-purges : goal.returns-in_err-ruled-clause-purges
returns-in_err-ruled-clause-purges g c = let p = err_from_is_err_and c.from_residual.result c.from_residual.ensures.1 in rw p.1 tt

pub returns-then-ruled-clause-goes_on : goal.returns-then-ruled-clause-goes_on
returns-then-ruled-clause-goes_on g c =
    let old = c.args.self.now in
    let h = c.in_ok-ruled.ensures in
    let s = h.goes_on in
    on_ok g.S.Store g.P.Shelf g.D.Digester.digest_of old (record old { host = c.purge_telling.new.host }) {X = Unit {0}} {E = Trouble} (Ok tt) (record { within = s.within; opens = s.opens; working = s.working })
    (ruled_so g.S.Store g.P.Shelf g.D.Digester.digest_of old c.requires old.memo c.purge_telling.new.host s.within c.args.tenant.now c.args.at h.purges)

pub returns-then-ruled-clause-purges : goal.returns-then-ruled-clause-purges
returns-then-ruled-clause-purges g c clean =
    let old = c.args.self.now in
    let h = c.in_ok-ruled.ensures in
    let w = h.goes_on.within in
    shown old.memo old.memo (storage.seen g.S.Store g.P.Shelf old.host) (storage.seen g.S.Store g.P.Shelf c.purge_telling.new.host) (storage.IsClean g.S.Store g.P.Shelf c.purge_telling.new.host)
    (was g.S.Store g.P.Shelf g.D.Digester.digest_of old c.requires old.memo c.purge_telling.new.host w) (Purges c.args.tenant.now c.args.at) clean
    (ruled_so g.S.Store g.P.Shelf g.D.Digester.digest_of old c.requires old.memo c.purge_telling.new.host w c.args.tenant.now c.args.at h.purges clean) (h.purges clean)

pub returns-clause-goes_on : goal.returns-clause-goes_on
returns-clause-goes_on g c =
    let old = c.args.self.now in
    let h = c.in_ok-ruled.ensures in
    let s = h.goes_on in
    on_ok g.S.Store g.P.Shelf g.D.Digester.digest_of old (record old { host = c.purge_telling.new.host; memo = c.remember_quiet.new.self }) {X = Unit {0}} {E = Trouble} (Ok tt) (record { within = s.within; opens = s.opens; working = s.working })
    (quiet_so g.S.Store g.P.Shelf g.D.Digester.digest_of old c.requires c.remember_quiet.new.self c.purge_telling.new.host s.within c.args.tenant.now c.args.at h.purges (record { latest = c.remember_quiet.ensures.latest; quiet = c.remember_quiet.ensures.quiet; buckets = c.remember_quiet.ensures.buckets; secrets = c.remember_quiet.ensures.secrets }) (λ clean. h.ruled clean c.if-ruled.false))

pub returns-clause-purges : goal.returns-clause-purges
returns-clause-purges g c clean =
    let old = c.args.self.now in
    let h = c.in_ok-ruled.ensures in
    let w = h.goes_on.within in
    shown old.memo c.remember_quiet.new.self (storage.seen g.S.Store g.P.Shelf old.host) (storage.seen g.S.Store g.P.Shelf c.purge_telling.new.host) (storage.IsClean g.S.Store g.P.Shelf c.purge_telling.new.host)
    (was g.S.Store g.P.Shelf g.D.Digester.digest_of old c.requires c.remember_quiet.new.self c.purge_telling.new.host w) (Purges c.args.tenant.now c.args.at) clean
    (quiet_so g.S.Store g.P.Shelf g.D.Digester.digest_of old c.requires c.remember_quiet.new.self c.purge_telling.new.host w c.args.tenant.now c.args.at h.purges (record { latest = c.remember_quiet.ensures.latest; quiet = c.remember_quiet.ensures.quiet; buckets = c.remember_quiet.ensures.buckets; secrets = c.remember_quiet.ensures.secrets }) (λ clean. h.ruled clean c.if-ruled.false) clean) (h.purges clean)
