-- Answers from the rows that were found.
use Rattle.std.specs.Prelude.{ℕ, zero, suc, Bool, true, false, Option, Some, None, Result, Ok, Err}
use Rattle.bh_types.specs.Rejections.{plain, date_refused}
use Rattle.bh_types.specs.declared.bucket_state.BucketState.{BucketState}
use Rattle.bh_types.specs.declared.wanted.Wanted.{Wanted}
use Rattle.bh_types.specs.declared.wanted.Wanted.TheVariants.{Current, Named, Unknown}
use Rattle.bh_types.specs.declared.refusal.Refusal.TheVariants.{NoSuchKey, NoSuchVersion, MethodNotAllowed}
use Rattle.bh_types.specs.declared.rejection.Detail.TheVariants.{CurrentMarker, NamedMarker}
use Rattle.bh_types.specs.declared.rejection.Rejection.{Rejection}
use Rattle.bh_model.specs.Operations.{Answer, Head, id_told}
use Rattle.bh_view.specs.View.{id_of}
use Rattle.bh_schema.specs.Rows.{SeenHead}
use Rattle.bh_storage.specs.declared.error.StepError.{StepError}
use Rattle.bh_storage.specs.declared.error.StepError.TheVariants.{Refused, Failed}

-- there is no entry
abbrev pub missing : Wanted → Rejection
missing Current = plain NoSuchKey
missing (Named id) = plain NoSuchVersion
missing Unknown = plain NoSuchVersion

-- a delete marker is not an object, and the refusal carries its details
abbrev pub marker_refused : Wanted → Rejection
marker_refused Current = record { refusal = NoSuchKey; detail = CurrentMarker }
marker_refused (Named id) = record { refusal = MethodNotAllowed; detail = NamedMarker }
marker_refused Unknown = plain NoSuchVersion

abbrev pub head_opened : Wanted → ℕ → SeenHead → Result SeenHead Rejection
head_opened wanted zero head = Ok head
head_opened wanted (suc n) head = Err (marker_refused wanted)

-- the version, of the row that was found
abbrev pub head_looked : Wanted → Option SeenHead → Result SeenHead Rejection
head_looked wanted None = Err (missing wanted)
head_looked wanted (Some head) = head_opened wanted head.marker head

-- the error of an operation on a date, if that of an operation on objects is this one
abbrev pub date_step_refused : StepError Rejection → StepError Rejection
date_step_refused (Refused rejection) = Refused (date_refused rejection)
date_step_refused (Failed trouble) = Failed trouble

abbrev pub head_told : BucketState → SeenHead → Answer
head_told mode head = Head (id_told mode (id_of head.id)) head.size head.checksum

-- the column `marker`
abbrev pub is_marked : ℕ → Bool
is_marked zero = false
is_marked (suc n) = true
