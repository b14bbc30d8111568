-- The result of a step, as a response.
use Rattle.std.specs.Prelude.{◌≡◌, Result, Ok, Err}
use Rattle.bh_http.specs.Answers.{response_view}
use Rattle.bh_http.specs.declared.response.Response.{Response}
use Rattle.bh_model.specs.Operations.{Answer}
use Rattle.bh_types.specs.Rejections.{plain}
use Rattle.bh_types.specs.declared.refusal.Refusal.{Refusal}
use Rattle.bh_types.specs.declared.rejection.Rejection.{Rejection}
use Rattle.bh_storage.specs.Errors.{step_rejected}
use Rattle.bh_storage.specs.declared.error.Outcome.{Outcome}
use Rattle.bh_storage.specs.declared.error.Outcome.TheVariants.{Done, Spoilt}
use Rattle.bh_storage.specs.declared.error.StepError.{StepError}
use Rattle.bh_storage.specs.declared.error.StepError.TheVariants.{Failed}
use Rattle.bh_storage.specs.declared.error.Trouble.TheVariants.{Memory}
use Rattle.bh_host.specs.Replies.{response_to}
use Rattle.bh_host.specs.declared.offer.Offer.{Offer}
use Rattle.bh_host.specs.declared.offer.Offer.TheVariants.{Whole}

-- the response to the answer, unless memory runs out; an error is converted so
abbrev pub Responds : {X E : Type 0} → (X → Answer) → (StepError E → StepError Rejection) → Result X (StepError E)
    → Result Response (StepError Rejection) → Type 0
Responds answer rejected (Ok x) (Ok response) = response_view response ≡ response_to (answer x)
Responds answer rejected (Ok x) (Err error) = error ≡ Failed Memory
Responds answer rejected (Err error) result = result ≡ Err (rejected error)

-- the same of a step that receives a body
abbrev pub RespondsToBody : {X : Type 0} → (X → Answer) → Result (Outcome X Refusal) (StepError Refusal)
    → Result (Outcome Response Rejection) (StepError Rejection) → Type 0
RespondsToBody answer (Ok (Done x)) (Ok (Done response)) = response_view response ≡ response_to (answer x)
RespondsToBody answer (Ok (Done x)) (Ok (Spoilt r)) = ⊥
RespondsToBody answer (Ok (Done x)) (Err error) = error ≡ Failed Memory
RespondsToBody answer (Ok (Spoilt r)) result = result ≡ Ok (Spoilt (plain r))
RespondsToBody answer (Err error) result = result ≡ Err (step_rejected error)

-- a response that is complete
abbrev pub offer_as : Outcome Response Rejection → Outcome Offer Rejection
offer_as (Done response) = Done (Whole response)
offer_as (Spoilt r) = Spoilt r
