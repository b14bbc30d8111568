use Rattle.std.proofs.Common.{rules, ◌≡◌, true, false, bytes_eq, Ok, Err, refl}
use Rattle.std.proofs.lemmas.Result.{err_from_is_err_and}
use Rattle.bh_model.specs.Credentials.{authenticate}
use Rattle.bh_types.specs.declared.refusal.Refusal.{Refusal}
use Rattle.bh_view.specs.View.{view}
use Rattle.bh_storage.specs.Calls.{Decides}
use Rattle.bh_memo.proofs.Calls.{known_accepted, other_denied, shown, shown_unless}
use Rattle.bh_schema.specs.Storage as storage
use Rattle.bh_dispatch.proofs.Remembering.{unless, at_rest, decided_same, still_so, so, host_works, first, was, secret_so}
use Rattle.bh_dispatch.proofs.sql_host.SqlHostStorage.authenticate.Goals as goal

pub authenticate-requires : goal.authenticate-requires
authenticate-requires g c = host_works g.S.Store g.P.Shelf g.D.Digester.digest_of c.args.self.now c.requires

pub returns-then-eq-clause-goes_on : goal.returns-then-eq-clause-goes_on
returns-then-eq-clause-goes_on g c = at_rest g.S.Store g.P.Shelf g.D.Digester.digest_of _ (λ A a. a) c.args.self.now c.requires

pub returns-then-eq-clause-decides : goal.returns-then-eq-clause-decides
returns-then-eq-clause-decides g c clean =
    let same : bytes_eq c.args.secret.now c.in-Some.known.now ≡ true = search rules in
    (known_accepted c.args.self.now.memo (storage.seen g.S.Store g.P.Shelf c.args.self.now.host) c.args.key.now c.in-Some.known.now c.args.secret.now (c.requires clean) c.in-Some.ensures same, refl)

pub returns-in-Some-clause-goes_on : goal.returns-in-Some-clause-goes_on
returns-in-Some-clause-goes_on g c = at_rest g.S.Store g.P.Shelf g.D.Digester.digest_of _ (λ A a. a) c.args.self.now c.requires

pub returns-in-Some-clause-decides : goal.returns-in-Some-clause-decides
returns-in-Some-clause-decides g c clean =
    let other : bytes_eq c.args.secret.now c.in-Some.known.now ≡ false = search rules in
    (other_denied c.args.self.now.memo (storage.seen g.S.Store g.P.Shelf c.args.self.now.host) c.args.key.now c.in-Some.known.now c.args.secret.now (c.requires clean) c.in-Some.ensures other, refl)

pub returns-in_err-authenticate-clause-goes_on : goal.returns-in_err-authenticate-clause-goes_on
returns-in_err-authenticate-clause-goes_on g c =
    let digest = g.D.Digester.digest_of in
    let p = err_from_is_err_and c.from_residual.result c.from_residual.ensures.1 in
    let old = c.args.self.now in
    let h = c.in_err-authenticate.ensures in
    let w = h.within in
    let a = storage.seen g.S.Store g.P.Shelf old.host in
    let b = storage.seen g.S.Store g.P.Shelf c.authenticate.new.self in
    let Clean = storage.IsClean g.S.Store g.P.Shelf c.authenticate.new.self in
    rw (p.1, p.2) (unless g.S.Store g.P.Shelf digest old (record old { host = c.authenticate.new.self }) {X = Unit {0}} (Err c.in_err-authenticate.field-0.0) (record { within = h.within; opens = h.opens; working = h.working })
    (still_so {X = Unit {0}} old.memo a.now b.now Clean (Err c.in_err-authenticate.field-0.0) (λ (clean : Clean). so g.S.Store g.P.Shelf digest old c.requires (first g.S.Store g.P.Shelf digest old c.requires old.memo c.authenticate.new.self w clean))
    (decided_same {X = Unit {0}} (λ _. tt) (authenticate c.args.key.now c.args.secret.now (view a.now c.args.key.now.tenant)) a.now b.now Clean (Err c.in_err-authenticate.field-0.0) h.decides)))

pub returns-in_err-authenticate-clause-decides : goal.returns-in_err-authenticate-clause-decides
returns-in_err-authenticate-clause-decides g c =
    let digest = g.D.Digester.digest_of in
    let p = err_from_is_err_and c.from_residual.result c.from_residual.ensures.1 in
    let old = c.args.self.now in
    let h = c.in_err-authenticate.ensures in
    let w = h.within in
    let a = storage.seen g.S.Store g.P.Shelf old.host in
    let b = storage.seen g.S.Store g.P.Shelf c.authenticate.new.self in
    let Clean = storage.IsClean g.S.Store g.P.Shelf c.authenticate.new.self in
    rw (p.1, p.2) (shown_unless old.memo old.memo a b Clean (was g.S.Store g.P.Shelf digest old c.requires old.memo c.authenticate.new.self w) {X = Unit {0}} {E = Refusal}
    (λ r x y. Decides (λ _. tt) (authenticate c.args.key.now c.args.secret.now (view x c.args.key.now.tenant)) x y r) (λ trouble x y. tt) (Err c.in_err-authenticate.field-0.0)
    (still_so {X = Unit {0}} old.memo a.now b.now Clean (Err c.in_err-authenticate.field-0.0) (λ (clean : Clean). so g.S.Store g.P.Shelf digest old c.requires (first g.S.Store g.P.Shelf digest old c.requires old.memo c.authenticate.new.self w clean))
    (decided_same {X = Unit {0}} (λ _. tt) (authenticate c.args.key.now c.args.secret.now (view a.now c.args.key.now.tenant)) a.now b.now Clean (Err c.in_err-authenticate.field-0.0) h.decides))
    h.decides)

pub returns-clause-goes_on : goal.returns-clause-goes_on
returns-clause-goes_on g c =
    let old = c.args.self.now in
    let h = c.in_ok-authenticate.ensures in
    let added = c.remember_secret.ensures in
    unless g.S.Store g.P.Shelf g.D.Digester.digest_of old (record old { host = c.authenticate.new.self; memo = c.remember_secret.new.self }) {X = Unit {0}} {E = Refusal} (Ok tt) (record { within = h.within; opens = h.opens; working = h.working })
    (secret_so g.S.Store g.P.Shelf g.D.Digester.digest_of old c.requires c.remember_secret.new.self c.authenticate.new.self h.within c.args.key.now c.args.secret.now
    (record { latest = added.latest; quiet = added.quiet; buckets = added.buckets; secrets = added.secrets }) h.decides)

pub returns-clause-decides : goal.returns-clause-decides
returns-clause-decides g c clean =
    let old = c.args.self.now in
    let h = c.in_ok-authenticate.ensures in
    let w = h.within in
    let added = c.remember_secret.ensures in
    shown old.memo c.remember_secret.new.self (storage.seen g.S.Store g.P.Shelf old.host) (storage.seen g.S.Store g.P.Shelf c.authenticate.new.self) (storage.IsClean g.S.Store g.P.Shelf c.authenticate.new.self)
    (was g.S.Store g.P.Shelf g.D.Digester.digest_of old c.requires c.remember_secret.new.self c.authenticate.new.self w)
    (λ x y. (authenticate c.args.key.now c.args.secret.now (view x c.args.key.now.tenant) ≡ Ok tt) × (y ≡ x)) clean
    (secret_so g.S.Store g.P.Shelf g.D.Digester.digest_of old c.requires c.remember_secret.new.self c.authenticate.new.self w c.args.key.now c.args.secret.now
    (record { latest = added.latest; quiet = added.quiet; buckets = added.buckets; secrets = added.secrets }) h.decides clean) (h.decides clean)
