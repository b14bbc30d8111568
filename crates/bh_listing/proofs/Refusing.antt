-- Where a bucket isn't there, nothing of it is listed.
use Rattle.std.proofs.Common.{◌≡◌, is_ok, true≢false, Option, Result, Ok, Err, ap}
use Rattle.std.specs.Result.{result_map_both}
use Rattle.bh_types.specs.declared.bucket_state.BucketState.{BucketState}
use Rattle.bh_types.specs.declared.refusal.Refusal.{Refusal}
use Rattle.bh_model.specs.State.{Octets, State, Bucket}
use Rattle.bh_model.specs.Operations.{Answer, Outcome, tenant_bucket}
use Rattle.bh_tables.specs.Typed.{Tables}
use Rattle.bh_view.specs.View.{view}
use Rattle.bh_storage.specs.Calls.{Carries, Decides}
use Rattle.bh_storage.specs.declared.error.StepError.{StepError}
use Rattle.bh_storage.specs.declared.error.StepError.TheVariants.{Refused, Failed}
use Rattle.bh_objects.specs.Found.{mode_in}

no_bucket : (b : Octets) (v : Option State) (x : Refusal) → mode_in b v ≡ Err x → tenant_bucket b v ≡ Err x
no_bucket b v x e = go (tenant_bucket b v) e
  where
    fault : Result BucketState Refusal → Refusal
    fault (Ok mode) = x
    fault (Err y) = y

    go : (r : Result (State × Bucket) Refusal) → result_map_both (λ (f : State × Bucket). f.1.mode) (λ refusal. refusal) r ≡ Err x → r ≡ Err x
    go (Ok f) e = absurd (true≢false (ap is_ok e))
    go (Err y) e = ap (λ r. Err (fault r)) e

-- a step that needs the bucket
pub bucket_failed : {Y : Type 0} (told : Y → Answer) (t b : Octets) (step : Option State → Result Outcome Refusal) → ((v : Option State) (x : Refusal) → tenant_bucket b v ≡ Err x → step v ≡ Err x) → (old new : Tables) (error : StepError Refusal)
    → Decides {X = BucketState} (λ mode. mode) (mode_in b (view old t)) old new (Err error) → Carries told t step old new (Err error)
bucket_failed told t b step fails old new (Refused x) d = (fails (view old t) x (no_bucket b (view old t) x d.0), d.1)
bucket_failed told t b step fails old new (Failed trouble) d = tt
