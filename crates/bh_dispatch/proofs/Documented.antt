-- What an operation makes of a document that is too long for one.
use Rattle.std.proofs.Common.{◌≡◌, ℕ, ◌<◌, true, false, length, nat_le, Option, Err, refl, ap, arith}
use Rattle.std.proofs.lemmas.Bool.{leb-true}
use Rattle.bh_types.specs.Limits.{HostLimits}
use Rattle.bh_types.specs.Rejections.{plain}
use Rattle.bh_types.specs.declared.refusal.Refusal.{Refusal}
use Rattle.bh_types.specs.declared.refusal.Refusal.TheVariants.{MalformedJson}
use Rattle.bh_docs.specs.Requests.{document_end}
use Rattle.bh_http.specs.Answers.{response_view}
use Rattle.bh_http.specs.Bodies.{Coming, Gives}
use Rattle.bh_machine.specs.Machine.{document_operated}
use Rattle.bh_model.specs.State.{Octets, State as Machine}
use Rattle.bh_operation.specs.declared.operation.DocumentOperation.{DocumentOperation}
use Rattle.bh_operation.specs.declared.operation.DocumentOperation.TheVariants.{PutBucketVersioning, PutLifecycle, CompleteMultipartUpload, PutRetention}
use Rattle.bh_host.specs.Offers.{responded}
use Rattle.bh_storage.specs.Calls.{Operates}
use Rattle.bh_storage.specs.Errors.{step_rejected}
use Rattle.bh_storage.specs.declared.error.StepError.{StepError}
use Rattle.bh_storage.specs.declared.error.StepError.TheVariants.{Refused, Failed}
use Rattle.bh_tables.specs.Typed.{Tables}
use Rattle.bh_view.specs.View.{view}
use Rattle.bh_dispatch.specs.Documents.{TakenAs}

long : (n : ℕ) → document_end < n → nat_le n document_end ≡ false
long n over = elim (nat_le n document_end) as (λ b. nat_le n document_end ≡ b → b ≡ false) [
  | true ↦ λ e. (let low = leb-true n document_end e in absurd (omega (arith, low, over)))
  | false ↦ λ _. refl
] refl

module _ (limits : HostLimits) (at : ℕ) (body : Octets) (s : Option Machine) where
  -- it is refused as one of another shape, whatever stands
  pub too_long : (operation : DocumentOperation) → document_end < length body → document_operated limits at body operation s ≡ Err (plain MalformedJson)
  unfolding document_operated
  too_long (PutBucketVersioning bucket) over = rw (long (length body) over) refl
  too_long (PutLifecycle bucket) over = rw (long (length body) over) refl
  too_long (CompleteMultipartUpload object upload) over = rw (long (length body) over) refl
  too_long (PutRetention object version) over = rw (long (length body) over) refl

-- what is no document is refused, once all of it came
pub undocumented : (limits : HostLimits) (at : ℕ) (t : Octets) (operation : DocumentOperation) (clean : Type 0) (before after : Coming) (tables : Tables) (given : Octets) → Gives before after given
    → (error : StepError Refusal) → TakenAs given after (Err error) → Operates response_view t (λ document s. responded (document_operated limits at document operation s)) clean before after tables tables (Err (step_rejected error))
undocumented limits at t operation clean before after tables given gives (Refused refusal) taken = record {
  given = given;
  gives = gives;
  decided = taken.2;
  carries = λ _. (rw taken.0 (ap responded (too_long limits at given (view tables t) operation taken.1)), refl);
}
undocumented limits at t operation clean before after tables given gives (Failed trouble) taken = record { given = given; gives = gives; decided = taken; carries = λ _. tt }
