use Rattle.std.proofs.Common.{◌≡◌, Ok, Err, refl}
use Rattle.std.proofs.lemmas.Result.{err_from_is_err_and}
use Rattle.bh_types.specs.declared.bucket_state.BucketState.{BucketState}
use Rattle.bh_types.specs.declared.refusal.Refusal.{Refusal}
use Rattle.bh_view.specs.View.{view}
use Rattle.bh_storage.specs.Calls.{Decides}
use Rattle.bh_memo.proofs.Calls.{mode_known, shown, shown_unless}
use Rattle.bh_memo.proofs.Holding.{mode_of_bucket}
use Rattle.bh_schema.specs.Storage as storage
use Rattle.bh_dispatch.proofs.Remembering.{unless, at_rest, decided_same, still_so, so, host_works, first, was, bucket_so}
use Rattle.bh_dispatch.proofs.sql_host.SqlHost.bucket_state.Goals as goal

pub returns-in-Some-clause-goes_on : goal.returns-in-Some-clause-goes_on
returns-in-Some-clause-goes_on g c = at_rest g.S.Store g.P.Shelf g.D.Digester.digest_of _ (λ A a. a) c.args.self.now c.requires

pub returns-in-Some-clause-decides : goal.returns-in-Some-clause-decides
returns-in-Some-clause-decides g c clean =
    (mode_known c.args.self.now.memo (storage.seen g.S.Store g.P.Shelf c.args.self.now.host) c.args.tenant.now c.args.bucket.now c.in-Some.state (c.requires clean) c.in-Some.ensures, refl)

pub bucket_state-requires : goal.bucket_state-requires
bucket_state-requires g c = host_works g.S.Store g.P.Shelf g.D.Digester.digest_of c.args.self.now c.requires

pub returns-in_err-state-clause-goes_on : goal.returns-in_err-state-clause-goes_on
returns-in_err-state-clause-goes_on g c =
    let digest = g.D.Digester.digest_of in
    let p = err_from_is_err_and c.from_residual.result c.from_residual.ensures.1 in
    let old = c.args.self.now in
    let h = c.in_err-state.ensures in
    let w = h.goes_on.within in
    let a = storage.seen g.S.Store g.P.Shelf old.host in
    let b = storage.seen g.S.Store g.P.Shelf c.bucket_state.new.host in
    let Clean = storage.IsClean g.S.Store g.P.Shelf c.bucket_state.new.host in
    let shows = λ (x : BucketState). x in
    rw (p.1, p.2) (unless g.S.Store g.P.Shelf digest old (record old { host = c.bucket_state.new.host }) {X = BucketState} (Err c.in_err-state.field-0.0) h.goes_on
    (still_so {X = BucketState} old.memo a.now b.now Clean (Err c.in_err-state.field-0.0) (λ (clean : Clean). so g.S.Store g.P.Shelf digest old c.requires (first g.S.Store g.P.Shelf digest old c.requires old.memo c.bucket_state.new.host w clean))
    (decided_same shows (mode_of_bucket c.args.bucket.now (view a.now c.args.tenant.now)) a.now b.now Clean (Err c.in_err-state.field-0.0) h.decides)))

pub returns-in_err-state-clause-decides : goal.returns-in_err-state-clause-decides
returns-in_err-state-clause-decides g c =
    let digest = g.D.Digester.digest_of in
    let p = err_from_is_err_and c.from_residual.result c.from_residual.ensures.1 in
    let old = c.args.self.now in
    let h = c.in_err-state.ensures in
    let w = h.goes_on.within in
    let a = storage.seen g.S.Store g.P.Shelf old.host in
    let b = storage.seen g.S.Store g.P.Shelf c.bucket_state.new.host in
    let Clean = storage.IsClean g.S.Store g.P.Shelf c.bucket_state.new.host in
    let shows = λ (x : BucketState). x in
    rw (p.1, p.2) (shown_unless old.memo old.memo a b Clean (was g.S.Store g.P.Shelf digest old c.requires old.memo c.bucket_state.new.host w) {X = BucketState} {E = Refusal}
    (λ r x y. Decides shows (mode_of_bucket c.args.bucket.now (view x c.args.tenant.now)) x y r) (λ trouble x y. tt) (Err c.in_err-state.field-0.0)
    (still_so {X = BucketState} old.memo a.now b.now Clean (Err c.in_err-state.field-0.0) (λ (clean : Clean). so g.S.Store g.P.Shelf digest old c.requires (first g.S.Store g.P.Shelf digest old c.requires old.memo c.bucket_state.new.host w clean))
    (decided_same shows (mode_of_bucket c.args.bucket.now (view a.now c.args.tenant.now)) a.now b.now Clean (Err c.in_err-state.field-0.0) h.decides))
    h.decides)

pub returns-clause-goes_on : goal.returns-clause-goes_on
returns-clause-goes_on g c =
    let old = c.args.self.now in
    let h = c.in_ok-state.ensures in
    unless g.S.Store g.P.Shelf g.D.Digester.digest_of old (record old { host = c.bucket_state.new.host; memo = c.remember_state.new.self }) {E = Refusal} (Ok c.in_ok-state.state) h.goes_on
    (bucket_so g.S.Store g.P.Shelf g.D.Digester.digest_of old c.requires c.remember_state.new.self c.bucket_state.new.host h.goes_on.within c.args.tenant.now c.args.bucket.now c.in_ok-state.state
    (record { latest = c.remember_state.ensures.latest; quiet = c.remember_state.ensures.quiet; buckets = c.remember_state.ensures.buckets; secrets = c.remember_state.ensures.secrets }) h.decides)

pub returns-clause-decides : goal.returns-clause-decides
returns-clause-decides g c clean =
    let old = c.args.self.now in
    let h = c.in_ok-state.ensures in
    let w = h.goes_on.within in
    shown old.memo c.remember_state.new.self (storage.seen g.S.Store g.P.Shelf old.host) (storage.seen g.S.Store g.P.Shelf c.bucket_state.new.host) (storage.IsClean g.S.Store g.P.Shelf c.bucket_state.new.host)
    (was g.S.Store g.P.Shelf g.D.Digester.digest_of old c.requires c.remember_state.new.self c.bucket_state.new.host w)
    (λ x y. (mode_of_bucket c.args.bucket.now (view x c.args.tenant.now) ≡ Ok c.in_ok-state.state) × (y ≡ x)) clean
    (bucket_so g.S.Store g.P.Shelf g.D.Digester.digest_of old c.requires c.remember_state.new.self c.bucket_state.new.host w c.args.tenant.now c.args.bucket.now c.in_ok-state.state
    (record { latest = c.remember_state.ensures.latest; quiet = c.remember_state.ensures.quiet; buckets = c.remember_state.ensures.buckets; secrets = c.remember_state.ensures.secrets }) h.decides clean) (h.decides clean)
