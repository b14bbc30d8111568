use Rattle.std.proofs.Common.{◌∙◌, Result, Err}
use Rattle.std.proofs.lemmas.Result.{err_from_is_err_and}
use Rattle.bh_base.specs.Connections.{state}
use Rattle.bh_types.specs.declared.rejection.Rejection.{Rejection}
use Rattle.bh_machine.specs.Machine.{document_operated}
use Rattle.bh_http.specs.Answers.{response_view}
use Rattle.bh_http.specs.declared.response.Response.{Response}
use Rattle.bh_host.specs.Offers.{responded}
use Rattle.bh_storage.specs.Calls.{UnlessSpoilt}
use Rattle.bh_storage.specs.Errors.{step_rejected}
use Rattle.bh_storage.specs.declared.error.Outcome.{Outcome}
use Rattle.bh_storage.specs.declared.error.StepError.{StepError}
use Rattle.bh_schema.specs.Working.{tables_at}
use Rattle.bh_dispatch.proofs.Documented.{undocumented}
use Rattle.bh_dispatch.proofs.Operating.{still, works_err}
use Rattle.bh_dispatch.proofs.Receiving.{operates_err, spoilt_any}
use Rattle.bh_dispatch.proofs.documents.operate_document.Goals as goal

pub returns-in_err-document : goal.returns-in_err-document
returns-in_err-document g c =
    let p = err_from_is_err_and c.from_residual.result c.from_residual.ensures.1 in
    let (given, gives, taken) = c.in_err-document.ensures.takes in
    let asked = c.args.asked.now in
    let result : Result (Outcome Response Rejection) (StepError Rejection) = Err (step_rejected c.in_err-document.field-0.0) in
    rw (p.1, p.2) (record {
      works = still g.S.Store g.P.Shelf c.args.connection.now c.requires.working (UnlessSpoilt result) (spoilt_any result);
      operates = undocumented asked.limits asked.at asked.tenant.now c.args.operation.now _ _ _ (tables_at (state g.S.Store g.P.Shelf c.args.connection.now)) given gives c.in_err-document.field-0.0 taken;
    })

pub returns-in_err-response : goal.returns-in_err-response
returns-in_err-response g c =
    let p = err_from_is_err_and c.from_residual-in_err-response.result c.from_residual-in_err-response.ensures.1 in
    let (given, gives, taken) = c.in_ok-document.ensures.takes in
    let old = c.args.connection.now in
    let new = c.carry_out_document.new.connection in
    rw (p.1, p.2) (record {
      works = works_err g.S.Store g.P.Shelf old new Response Response c.in_err-response.field-0.0 c.in_err-response.ensures.works;
      operates = operates_err response_view c.args.asked.now.tenant.now (λ document s. responded (document_operated c.args.asked.now.limits c.args.asked.now.at document c.args.operation.now s)) _ _ _ (tables_at (state g.S.Store g.P.Shelf old)) (tables_at (state g.S.Store g.P.Shelf new))
          given gives taken.1 c.deref.result.now (c.deref.ensures.value ∙ taken.0) c.in_err-response.field-0.0 c.in_err-response.ensures.carries;
    })

pub returns : goal.returns
returns g c =
    let (given, gives, taken) = c.in_ok-document.ensures.takes in
    let h = c.in_ok-response.ensures in
    record {
      works = record { within = h.works.within; opens = h.works.opens; working = h.works.working };
      operates = record { given = given; gives = gives; decided = taken.1; carries = rw (c.deref.ensures.value ∙ taken.0) at h.carries };
    }
