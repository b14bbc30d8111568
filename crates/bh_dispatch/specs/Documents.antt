-- Reading a request's body as a document.
use Rattle.std.specs.Prelude.{◌≡◌, ◌<◌, length, Result, Ok, Err}
use Rattle.bh_docs.specs.Requests.{document_end}
use Rattle.bh_http.specs.Bodies.{Coming, IsWhole, MayBreak}
use Rattle.bh_model.specs.State.{Octets}
use Rattle.bh_storage.specs.declared.error.StepError.{StepError}
use Rattle.bh_storage.specs.declared.error.StepError.TheVariants.{Refused, Failed}
use Rattle.bh_types.specs.declared.refusal.Refusal.{Refusal}
use Rattle.bh_types.specs.declared.refusal.Refusal.TheVariants.{MalformedJson}

-- all received bytes; or they are too many for a document, and all were received; or memory ran
-- out, or the body broke off
abbrev pub TakenAs : Octets → Coming → Result Octets (StepError Refusal) → Type 0
TakenAs given after (Ok document) = (document ≡ given) × IsWhole after
TakenAs given after (Err (Refused refusal)) = (refusal ≡ MalformedJson) × (document_end < length given) × IsWhole after
TakenAs given after (Err (Failed trouble)) = MayBreak after
