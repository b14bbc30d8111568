use Rattle.std.proofs.Common.{sym, ap, ◌∙◌, subst}
use Rattle.std.specs.Option.{option_copied}
use Rattle.std.proofs.lemmas.Result.{err_from_is_err_and}
use Rattle.bh_model.specs.Operations.{get_object}
use Rattle.bh_tables.specs.Typed.{Tables}
use Rattle.bh_view.specs.View.{view}
use Rattle.bh_storage.specs.Answers.{found_answer}
use Rattle.bh_storage.specs.Calls.{Seen, Carries}
use Rattle.bh_memo.proofs.Calls.{shown_unless}
use Rattle.bh_memo.proofs.Holding.{mode_of_bucket}
use Rattle.bh_schema.specs.Storage as storage
use Rattle.bh_dispatch.specs.Seeing.{seen}
use Rattle.bh_dispatch.proofs.Remembering.{unless, then, unless_map, still_so, measured_still, rejected_unless, no_bucket, so, alone_is, host_works, first, was}
use Rattle.bh_dispatch.proofs.sql_host.SqlHost.find_object.Goals as goal

pub bucket_state-requires : goal.bucket_state-requires
bucket_state-requires g c = c.requires

pub returns-in_err-state-clause-goes_on : goal.returns-in_err-state-clause-goes_on
returns-in_err-state-clause-goes_on g c =
    let p = err_from_is_err_and c.from_residual.result c.from_residual.ensures.1 in
    let s = c.in_err-state.ensures.goes_on in
    rw (p.1, p.2) (record { within = s.within; opens = rejected_unless c.in_err-state.field-0.0 _ s.opens; working = rejected_unless c.in_err-state.field-0.0 _ s.working })

pub returns-in_err-state-clause-carries : goal.returns-in_err-state-clause-carries
returns-in_err-state-clause-carries g c clean =
    let p = err_from_is_err_and c.from_residual.result c.from_residual.ensures.1 in
    let old = (seen g.S.Store g.P.Shelf c.args.self.now).now in
    let new = (seen g.S.Store g.P.Shelf c.bucket_state.new.self).now in
    rw (p.1, p.2) (no_bucket (found_answer new) c.args.tenant.now c.args.object.now.bucket c.args.object.now.key c.args.version (option_copied c.args.range) old new c.in_err-state.field-0.0 (c.in_err-state.ensures.decides clean))

pub returns-in_err-state-clause-measured : goal.returns-in_err-state-clause-measured
returns-in_err-state-clause-measured g c = let p = err_from_is_err_and c.from_residual.result c.from_residual.ensures.1 in rw p.1 tt

pub find_object-requires-clause-working : goal.find_object-requires-clause-working
find_object-requires-clause-working g c = host_works g.S.Store g.P.Shelf g.D.Digester.digest_of c.bucket_state.new.self c.in_ok-state.ensures.goes_on.working

pub find_object-requires-clause-state : goal.find_object-requires-clause-state
find_object-requires-clause-state g c clean =
    let h = c.in_ok-state.ensures in
    let it = h.decides clean in
    ap (λ (x : Tables). mode_of_bucket c.args.object.now.bucket (view x c.args.tenant.now)) (ap (λ (x : Seen). x.now) (sym (alone_is g.S.Store g.P.Shelf g.D.Digester.digest_of c.bucket_state.new.self h.goes_on.working clean)) ∙ it.1) ∙ it.0

pub returns-clause-goes_on : goal.returns-clause-goes_on
returns-clause-goes_on g c =
    let digest = g.D.Digester.digest_of in
    let old = c.args.self.now in
    let middle = c.bucket_state.new.self in
    let new = record middle { host = c.find_object.new.host } in
    let one = c.in_ok-state.ensures.goes_on in
    let h = c.find_object.ensures in
    let w = h.goes_on.within in
    let Clean = storage.IsClean g.S.Store g.P.Shelf c.find_object.new.host in
    let two = unless g.S.Store g.P.Shelf digest middle new c.find_object.result h.goes_on
    (still_so middle.memo (storage.seen g.S.Store g.P.Shelf middle.host).now (storage.seen g.S.Store g.P.Shelf c.find_object.new.host).now Clean c.find_object.result
    (λ (clean : Clean). so g.S.Store g.P.Shelf digest middle one.working (first g.S.Store g.P.Shelf digest middle one.working middle.memo c.find_object.new.host w clean)) h.same) in
    record {
      within = then g.S.Store g.P.Shelf old middle new one.opens one.within two.within;
      opens = unless_map c.find_object.result _ _ (λ (opens : storage.IsOpen g.S.Store g.P.Shelf middle.host → storage.IsIntact g.S.Store g.P.Shelf c.find_object.new.host → storage.IsOpen g.S.Store g.P.Shelf c.find_object.new.host) up intact. opens (one.opens up (w.intact intact)) intact) h.goes_on.opens;
      working = two.working;
    }

pub returns-clause-carries : goal.returns-clause-carries
returns-clause-carries g c clean =
    let digest = g.D.Digester.digest_of in
    let middle = c.bucket_state.new.self in
    let one = c.in_ok-state.ensures.goes_on in
    let h = c.find_object.ensures in
    let w = h.goes_on.within in
    let a = storage.seen g.S.Store g.P.Shelf middle.host in
    let b = storage.seen g.S.Store g.P.Shelf c.find_object.new.host in
    let Clean = storage.IsClean g.S.Store g.P.Shelf c.find_object.new.host in
    let step = get_object c.args.object.now.bucket c.args.object.now.key c.args.version (option_copied c.args.range) in
    let new = seen g.S.Store g.P.Shelf (record middle { host = c.find_object.new.host }) in
    subst (λ (x : Tables). Carries (found_answer new.now) c.args.tenant.now step x new.now c.find_object.result)
    (c.in_ok-state.ensures.decides (first g.S.Store g.P.Shelf digest middle one.working middle.memo c.find_object.new.host w clean)).1
    (shown_unless middle.memo middle.memo a b Clean (was g.S.Store g.P.Shelf digest middle one.working middle.memo c.find_object.new.host w)
    (λ r x y. Carries (found_answer y) c.args.tenant.now step x y r) (λ trouble x y. tt) c.find_object.result
    (still_so middle.memo a.now b.now Clean c.find_object.result (λ (clean : Clean). so g.S.Store g.P.Shelf digest middle one.working (first g.S.Store g.P.Shelf digest middle one.working middle.memo c.find_object.new.host w clean)) h.same)
    h.carries clean)

pub returns-clause-measured : goal.returns-clause-measured
returns-clause-measured g c =
    let digest = g.D.Digester.digest_of in
    let middle = c.bucket_state.new.self in
    let one = c.in_ok-state.ensures.goes_on in
    let h = c.find_object.ensures in
    let w = h.goes_on.within in
    let a = storage.seen g.S.Store g.P.Shelf middle.host in
    let b = storage.seen g.S.Store g.P.Shelf c.find_object.new.host in
    let Clean = storage.IsClean g.S.Store g.P.Shelf c.find_object.new.host in
    measured_still middle.memo b Clean c.find_object.result
    (still_so middle.memo a.now b.now Clean c.find_object.result (λ (clean : Clean). so g.S.Store g.P.Shelf digest middle one.working (first g.S.Store g.P.Shelf digest middle one.working middle.memo c.find_object.new.host w clean)) h.same)
    h.measured
