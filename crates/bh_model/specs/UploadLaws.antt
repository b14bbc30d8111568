-- Evidence that the definitions of multipart uploads are the intended ones.
use Rattle.std.specs.Prelude.{◌≡◌, ℕ, List, [], ◌∷◌, length, Option, Some, None, Result, Ok, Err, IfOk}
use Rattle.std.specs.Result.{IfErr}
use Rattle.sha2.specs.Sha256.{sha256}
use Rattle.bh_types.specs.Checksums.{joined_text}
use Rattle.bh_types.specs.declared.id.VersionId.{VersionId}
use Rattle.bh_types.specs.declared.id.UploadId.{UploadId}
use Rattle.bh_types.specs.declared.refusal.Refusal.{Refusal}
use Rattle.bh_types.specs.declared.refusal.Refusal.TheVariants.{NoSuchUpload, CounterExhausted}
use Rattle.bh_types.specs.declared.range.RangePlan.TheVariants.{Whole}
use Rattle.bh_types.specs.declared.wanted.Wanted.TheVariants.{Current}
use Rattle.bh_model.specs.State.{Octets, State}
use Rattle.bh_model.specs.Parts.{Naming}
use Rattle.bh_model.specs.Operations.{Answer.Object, Answer.Begun, Answer.Completed, get_object}
use Rattle.bh_model.specs.Uploads.{FoundUpload, find_upload, new_upload, create_upload, upload_part, complete_upload, abort_upload}

-- it is done, or a counter is exhausted
abbrev pub UnlessExhausted : {X : Type 0} → Result X Refusal → (X → Type 0) → Type 0
UnlessExhausted r P = IfOk r P × IfErr r (λ e. e ≡ CounterExhausted)

-- an upload that was begun is found by the returned id, and has no part yet
abbrev pub BegunIsFound : Type 0
BegunIsFound = (moment : ℕ) (name key : Octets) (s : Option State)
    → IfOk (create_upload moment name key s) (λ begun.
    (id : UploadId) × (abort : Option ℕ) × (f : FoundUpload) × (begun.0 ≡ Begun name key id abort)
    × (find_upload name key (Some id) begun.1 ≡ Ok f) × (f.upload ≡ new_upload key moment))

-- an object of one part is what a get without id reads, under the id that the completion returned
abbrev pub PartIsRead : Type 0
PartIsRead = (moment later least number : ℕ) (name key bytes : Octets) (upload : Option UploadId) (given : Option Octets) (s : Option State)
    → IfOk (upload_part moment name key upload number bytes given s) (λ put.
    UnlessExhausted (complete_upload later least name key upload (record { number = number; checksum = None } ∷ []) put.1) (λ done.
    (id : Option VersionId) × (done.0 ≡ Completed name key id (joined_text (sha256 bytes ∷ [])))
    × (get_object name key Current None done.1 ≡ Ok (Object id (length bytes) Whole bytes (joined_text (sha256 bytes ∷ [])), done.1))))

-- to an upload that is gone no part can be put, and it can be neither completed nor aborted
pub record IsGone (name key : Octets) (upload : Option UploadId) (s : Option State) : Type 0 where
  pub not_found : find_upload name key upload s ≡ Err NoSuchUpload
  pub no_part : (moment number : ℕ) (bytes : Octets) (given : Option Octets) → upload_part moment name key upload number bytes given s
      ≡ Err NoSuchUpload
  pub no_completion : (moment least : ℕ) (names : List Naming) → complete_upload moment least name key upload names s ≡ Err NoSuchUpload
  pub no_abort : abort_upload name key upload s ≡ Err NoSuchUpload

abbrev pub AbortedIsGone : Type 0
AbortedIsGone = (name key : Octets) (upload : Option UploadId) (s : Option State)
    → IfOk (abort_upload name key upload s) (λ gone. IsGone name key upload gone.1)

abbrev pub CompletedIsGone : Type 0
CompletedIsGone = (moment least : ℕ) (name key : Octets) (upload : Option UploadId) (names : List Naming) (s : Option State)
    → IfOk (complete_upload moment least name key upload names s) (λ done. IsGone name key upload done.1)
