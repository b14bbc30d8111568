-- Where a bucket or an upload isn't there, a listing is refused as its first question was.
use Rattle.std.proofs.Common.{◌≡◌, ℕ, is_ok, true≢false, Option, Result, Ok, Err, refl, ap}
use Rattle.std.specs.Result.{result_map_both}
use Rattle.bh_types.specs.declared.bucket_state.BucketState.{BucketState}
use Rattle.bh_types.specs.declared.id.UploadId.{UploadId}
use Rattle.bh_types.specs.declared.refusal.Refusal.{Refusal}
use Rattle.bh_model.specs.State.{Octets, State, Bucket}
use Rattle.bh_model.specs.Pages.{PageAsked, UploadPlace}
use Rattle.bh_model.specs.Listings.{list_uploads, list_parts}
use Rattle.bh_model.specs.Operations.{Answer, tenant_bucket}
use Rattle.bh_model.specs.Uploads as model
use Rattle.bh_tables.specs.Typed.{Tables}
use Rattle.bh_view.specs.View.{view}
use Rattle.bh_storage.specs.Calls.{Carries, Decides}
use Rattle.bh_storage.specs.declared.error.StepError.{StepError}
use Rattle.bh_storage.specs.declared.error.StepError.TheVariants.{Refused, Failed}
use Rattle.bh_objects.specs.Found.{mode_in}
use Rattle.bh_uploads.specs.Found.{upload_in}
use Rattle.bh_uploads.specs.declared.reads.FoundUpload.{FoundUpload}

abbrev refusal_or : {X : Type 0} → Result X Refusal → Refusal → Refusal
refusal_or (Ok y) other = other
refusal_or (Err y) other = y

-- what is shown of a refused value is the refusal
refused_by : {X Y : Type 0} (f : X → Y) (r : Result X Refusal) (x : Refusal) → result_map_both f (λ (refusal : Refusal). refusal) r ≡ Err x → r ≡ Err x
refused_by f (Ok y) x e = absurd (true≢false (ap is_ok e))
refused_by f (Err y) x e = ap (λ r. Err (refusal_or r x)) e

no_uploads : (b : Octets) (asked : PageAsked) (marker : Option UploadPlace) (v : Option State) (x : Refusal) → tenant_bucket b v ≡ Err x → list_uploads b asked marker v ≡ Err x
no_uploads b asked marker v x away = rw away refl

no_parts : (b key : Octets) (upload : Option UploadId) (max marker : ℕ) (v : Option State) (x : Refusal) → model.find_upload b key upload v ≡ Err x → list_parts b key upload max marker v ≡ Err x
no_parts b key upload max marker v x away = rw away refl

module _ {X : Type 0} (told : X → Answer) (t b : Octets) (old new : Tables) where
  pub uploads_failed : (asked : PageAsked) (marker : Option UploadPlace) (error : StepError Refusal)
      → Decides {X = BucketState} (λ mode. mode) (mode_in b (view old t)) old new (Err error) → Carries told t (list_uploads b asked marker) old new (Err error)
  uploads_failed asked marker (Refused x) d = (no_uploads b asked marker (view old t) x (refused_by (λ (f : State × Bucket). f.1.mode) (tenant_bucket b (view old t)) x d.0), d.1)
  uploads_failed asked marker (Failed trouble) d = tt

  pub parts_failed : (key : Octets) (upload : Option UploadId) (max marker : ℕ) (error : StepError Refusal)
      → Decides (λ (found : FoundUpload). (found.mode, found.number)) (upload_in b key upload (view old t)) old new (Err error) → Carries told t (list_parts b key upload max marker) old new (Err error)
  parts_failed key upload max marker (Refused x) d =
      (no_parts b key upload max marker (view old t) x (refused_by (λ (f : model.FoundUpload). (f.bucket.mode, f.number)) (model.find_upload b key upload (view old t)) x d.0), d.1)
  parts_failed key upload max marker (Failed trouble) d = tt
