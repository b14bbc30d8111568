-- Conversions of errors.
use Rattle.bh_types.specs.Rejections.{plain}
use Rattle.bh_types.specs.declared.error.RequestError.{RequestError}
use Rattle.bh_types.specs.declared.error.RequestError.TheVariants as request
use Rattle.bh_types.specs.declared.refusal.Refusal.{Refusal}
use Rattle.bh_types.specs.declared.rejection.Rejection.{Rejection}
use Rattle.bh_http.specs.declared.body.CollectError.{CollectError}
use Rattle.bh_http.specs.declared.body.CollectError.TheVariants as collect
use Rattle.bh_storage.specs.declared.error.Trouble.{Trouble}
use Rattle.bh_storage.specs.declared.error.Trouble.TheVariants.{Memory, Body}
use Rattle.bh_storage.specs.declared.error.StepError.{StepError}
use Rattle.bh_storage.specs.declared.error.StepError.TheVariants.{Refused, Failed}

abbrev pub request_rejected : RequestError → StepError Rejection
request_rejected (request.Refused refusal) = Refused (plain refusal)
request_rejected request.OutOfMemory = Failed Memory

-- the failure for a body that was not read whole
abbrev pub uncollected : CollectError → Trouble
uncollected (collect.Broken cause) = Body
uncollected collect.OutOfMemory = Memory

abbrev pub step_rejected : StepError Refusal → StepError Rejection
step_rejected (Refused refusal) = Refused (plain refusal)
step_rejected (Failed trouble) = Failed trouble
