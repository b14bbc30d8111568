use Rattle.std.proofs.Common.{Ok, Err, Some, refl, Global}
use Rattle.std.specs.Prelude.{String}
use Rattle.std.proofs.lemmas.Result.{err_from_is_err_and}
use Rattle.bh_types.specs.declared.refusal.Refusal.{Refusal}
use Rattle.bh_event.specs.Events.{message_of}
use Rattle.bh_view.specs.Bodies.{IsSoundHost}
use Rattle.bh_storage.specs.Calls.{Unless}
use Rattle.bh_storage.specs.declared.error.StepError.{StepError}
use Rattle.bh_storage.specs.declared.error.StepError.TheVariants.{Refused, Failed}
use Rattle.bh_host.specs.Orders.{Does}
use Rattle.bh_dispatch.specs.declared.sql_host.Carried.{Carried}
use Rattle.bh_kept.proofs.Keeping.{at_work_kept, says_kept}
use Rattle.bh_kept.proofs.storage.KeptHostStorage.order.Goals as goal

-- an error says the same, whatever a success would have been
err_as : (X Y : Type 0) {E : Type 0} (error : StepError E) (P : Type 0) → Unless {X = X} {E = E} (Err error) P → Unless {X = Y} {E = E} (Err error) P
err_as X Y (Refused r) P h = h
err_as X Y (Failed trouble) P h = tt

pub returns-in_err-carried-in-Some-clause-goes_on : goal.returns-in_err-carried-in-Some-clause-goes_on
returns-in_err-carried-in-Some-clause-goes_on g c =
    let p = err_from_is_err_and c.from_residual.result c.from_residual.ensures.1 in
    let e = c.in_err-carried-in-Some.field-0.0 in
    let s = c.in_err-carried-in-Some.ensures.goes_on in
    rw (p.1, p.2) (at_work_kept c.args.self.now _ c.in-Some.storage c.carry_out.new.self c.in-Some.is refl (IsSoundHost g.G.Digester.digest_of) (Unless {X = String Global} {E = Refusal} (Err e)) (record {
      within = s.within;
      opens = err_as Carried (String Global) e _ s.opens;
      working = err_as Carried (String Global) e _ s.working;
    }))

pub returns-in_err-carried-in-Some-clause-does : goal.returns-in_err-carried-in-Some-clause-does
returns-in_err-carried-in-Some-clause-does g c =
    let p = err_from_is_err_and c.from_residual.result c.from_residual.ensures.1 in
    rw (p.1, p.2) (says_kept c.args.self.now (record c.args.self.now { storage = Some c.carry_out.new.self }) c.in-Some.storage c.carry_out.new.self c.in-Some.is refl
    (λ x y. Does c.args.at (message_of c.args.order.now) x y (Err c.in_err-carried-in-Some.field-0.0)) c.in_err-carried-in-Some.ensures.does)

pub returns-in_ok-carried-in-Some-clause-goes_on : goal.returns-in_ok-carried-in-Some-clause-goes_on
returns-in_ok-carried-in-Some-clause-goes_on g c =
    let s = c.in_ok-carried-in-Some.ensures.goes_on in
    at_work_kept c.args.self.now _ c.in-Some.storage c.carry_out.new.self c.in-Some.is refl (IsSoundHost g.G.Digester.digest_of) (Unless {E = Refusal} (Ok c.told.result)) (record {
      within = s.within;
      opens = s.opens;
      working = s.working;
    })

pub returns-in_ok-carried-in-Some-clause-does : goal.returns-in_ok-carried-in-Some-clause-does
returns-in_ok-carried-in-Some-clause-does g c =
    rw c.told.ensures (says_kept c.args.self.now (record c.args.self.now { storage = Some c.carry_out.new.self }) c.in-Some.storage c.carry_out.new.self c.in-Some.is refl
    (λ x y. Does c.args.at (message_of c.args.order.now) x y (Ok c.in_ok-carried-in-Some.carried.line)) c.in_ok-carried-in-Some.ensures.does)
