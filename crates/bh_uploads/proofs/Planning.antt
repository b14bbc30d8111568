-- What an upload is completed with, as its rows were read, is the machine's.
use Rattle.std.proofs.Common.{◌≡◌, ℕ, length, List, map, Option, Ok, Err, Result, ap, ◌∙◌}
use Rattle.bh_types.specs.Outcomes.{◌>>=◌}
use Rattle.bh_types.specs.declared.bucket_state.BucketState.{BucketState}
use Rattle.bh_types.specs.declared.id.UploadId.{UploadId}
use Rattle.bh_types.specs.declared.refusal.Refusal.{Refusal}
use Rattle.bh_core.specs.declared.parts.PartRow as core
use Rattle.bh_core.specs.Completions.{complete_plan, joined_at}
use Rattle.bh_core.proofs.Completing.{complete_is_joined}
use Rattle.bh_model.specs.Parts.{Naming, completed}
use Rattle.bh_model.specs.State.{Octets, Content}
use Rattle.bh_model.specs.Uploads.{FoundUpload}
use Rattle.bh_tables.specs.Typed.{PartRow, Tables}
use Rattle.bh_view.specs.View.{rows_of, of_upload, parts_of, view}
use Rattle.bh_storage.specs.Calls.{Decides}
use Rattle.bh_storage.specs.declared.error.StepError.{StepError}
use Rattle.bh_storage.specs.declared.error.StepError.TheVariants.{Refused, Failed}
use Rattle.bh_objects.proofs.Written.{IsHostOf}
use Rattle.bh_uploads.specs.declared.joining.Joined.{Joined}
use Rattle.bh_uploads.specs.Found.{upload_in, completion_in, joined_bytes, joined_content}
use Rattle.bh_uploads.specs.Joining.{Joins}
use Rattle.bh_uploads.specs.Rows.{seen_row, row_seen, listed_parts}
use Rattle.bh_uploads.proofs.Chosen.{tells_parts, content_is, size_is}
use Rattle.bh_uploads.proofs.Uploads.{has_upload, upload_parts}

module _ (old : Tables) (host : IsHostOf old) (t name key : Octets) (id : Option UploadId) (mode : BucketState) (n : ℕ) (found : upload_in name key id (view old t) ≡ Ok (mode, n)) (least : ℕ) (names : List Naming)
    (rows : List core.PartRow) (read : map row_seen rows ≡ map seen_row (listed_parts t n old)) (bodies : List ℕ) (are : bodies ≡ map (λ (p : PartRow). p.body) (listed_parts t n old)) where
  abbrev Three : Type 0
  Three = BucketState × ℕ × Content

  abbrev after_plan : BucketState → Result (List ℕ) Refusal → Result Three Refusal
  after_plan m r = ◌>>=◌ {B = Three} (r >>= (λ places. Ok (joined_at rows (parts_of (of_upload n (rows_of t old).parts)) places))) (λ content. Ok (m, n, content))

  -- the machine's case, by the plan
  planned : completion_in least name key id names (view old t) ≡ after_plan mode (complete_plan least rows names)
  planned =
      let h = has_upload name key mode n id (view old t) found in
      let parts = upload_parts old t h.state host.sound h.added name h.bucket h.there n h.upload h.begun in
      ap (λ (r : Result FoundUpload Refusal). ◌>>=◌ {B = Three} r (λ f. ◌>>=◌ {B = Three} (completed least f.upload.parts names) (λ content. Ok (f.bucket.mode, f.number, content)))) h.found
      ∙ ap (λ m. ◌>>=◌ {B = Three} (completed least m names) (λ content. Ok (h.bucket.mode, n, content))) parts
      ∙ ap (λ r. ◌>>=◌ {B = Three} r (λ content. Ok (h.bucket.mode, n, content))) (complete_is_joined least rows (parts_of (of_upload n (rows_of t old).parts)) names (tells_parts old t n host.sound rows read host.resolved))
      ∙ ap (λ m. after_plan m (complete_plan least rows names)) h.its

  module _ (j : Joined) (it : Joins rows bodies (complete_plan least rows names) (Ok j)) where
    pub completion_is : completion_in least name key id names (view old t) ≡ Ok (mode, n, joined_content t old j)
    completion_is = planned ∙ ap (after_plan mode) it.1 ∙ ap (λ c. Ok (mode, n, c)) (content_is old t n host.sound rows read host.resolved bodies are it.0 j it.2)

    pub completion_sized : j.size ≡ length (joined_bytes t old j.bodies.items)
    completion_sized = size_is old t n host.sound rows read host.resolved bodies are it.0 j it.2

  pub completion_refused : (new : Tables) → new ≡ old → (error : StepError Refusal) {X : Type 0} (shows : X → Three) → Joins rows bodies (complete_plan least rows names) (Err error) → Decides shows (completion_in least name key id names (view old t)) old new (Err error)
  completion_refused new same (Refused x) shows e = (planned ∙ ap (after_plan mode) e, same)
  completion_refused new same (Failed trouble) shows e = tt
