-- An operation on an upload that isn't there, or on counters without a next number, is refused as its question was.
use Rattle.std.proofs.Common.{◌≡◌, ℕ, false, true≢false, is_ok, List, Option, Some, None, Result, Ok, Err, sym, ap, ◌∙◌}
use Rattle.bh_types.specs.Counts.{Counts}
use Rattle.bh_types.specs.Outcomes.{◌>>=◌}
use Rattle.bh_types.specs.declared.bucket_state.BucketState.{BucketState}
use Rattle.bh_types.specs.declared.bucket_state.BucketState.TheVariants.{Unversioned}
use Rattle.bh_types.specs.declared.id.UploadId.{UploadId}
use Rattle.bh_types.specs.declared.refusal.Refusal.{Refusal}
use Rattle.bh_model.specs.Counting.{counts, with_counts, after_entry}
use Rattle.bh_model.specs.Operations.{Answer, Outcome, Removed, with_bucket}
use Rattle.bh_model.specs.Parts.{Naming, completed}
use Rattle.bh_model.specs.State.{Octets, Content, State}
use Rattle.bh_model.specs.Uploads.{FoundUpload, find_upload, without_upload, completion, with_completed, complete_upload, abort_upload}
use Rattle.bh_tables.specs.Typed.{Tables}
use Rattle.bh_view.specs.View.{view}
use Rattle.bh_storage.specs.Calls.{Carries, Decides}
use Rattle.bh_storage.specs.declared.error.StepError.{StepError}
use Rattle.bh_storage.specs.declared.error.StepError.TheVariants.{Refused, Failed}
use Rattle.bh_objects.specs.Found.{account_in, numbers_in}
use Rattle.bh_uploads.specs.Found.{upload_in, completion_in, part_entry_in}
use Rattle.bh_uploads.proofs.Completing.{completion_found, completion_made}
use Rattle.bh_uploads.proofs.Uploads.{has_upload, no_upload}

abbrev refusal_or : {X : Type 0} → Result X Refusal → Refusal → Refusal
refusal_or (Ok x) other = other
refusal_or (Err y) other = y

abbrev Three : Type 0
Three = BucketState × ℕ × Content

-- ---- an upload that isn't there

abbrev aborted_from : Octets → Result FoundUpload Refusal → Result Outcome Refusal
aborted_from name r = ◌>>=◌ {B = Outcome} r (λ (f : FoundUpload). Ok (Removed None false, Some (with_bucket name (without_upload f.number f.bucket) f.tenant)))

abbrev planned_of : FoundUpload → Result Content Refusal → Result Three Refusal
planned_of f r = ◌>>=◌ {B = Three} r (λ (content : Content). Ok (f.bucket.mode, f.number, content))

abbrev planned_from : ℕ → List Naming → Result FoundUpload Refusal → Result Three Refusal
planned_from least names r = ◌>>=◌ {B = Three} r (λ (f : FoundUpload). planned_of f (completed least f.upload.parts names))

module _ (name key : Octets) (id : Option UploadId) (v : Option State) (x : Refusal) (away : upload_in name key id v ≡ Err x) where
  not_found : find_upload name key id v ≡ Err x
  not_found = no_upload name key Unversioned 0 id v x away

  none_aborted : abort_upload name key id v ≡ Err x
  none_aborted = ap (aborted_from name) not_found

  none_planned : (least : ℕ) (names : List Naming) → completion_in least name key id names v ≡ Err x
  none_planned least names = ap (planned_from least names) not_found

module _ {X Y : Type 0} (shows : X → BucketState × ℕ) (t name key : Octets) (id : Option UploadId) (old new : Tables) where
  pub abort_unfound : (tells : Y → Answer) (error : StepError Refusal) → Decides shows (upload_in name key id (view old t)) old new (Err error) → Carries tells t (abort_upload name key id) old new (Err error)
  abort_unfound tells (Refused x) d = (none_aborted name key id (view old t) x d.0, d.1)
  abort_unfound tells (Failed trouble) d = tt

  pub plan_unfound : (tells : Y → Three) (least : ℕ) (names : List Naming) (error : StepError Refusal) → Decides shows (upload_in name key id (view old t)) old new (Err error)
      → Decides tells (completion_in least name key id names (view old t)) old new (Err error)
  plan_unfound tells least names (Refused x) d = (none_planned name key id (view old t) x d.0 least names, d.1)
  plan_unfound tells least names (Failed trouble) d = tt

-- ---- a tenant that isn't there

no_account : (v : Option State) (x : Refusal) (replaced added : ℕ) → account_in v ≡ Err x → part_entry_in replaced added v ≡ Err x
no_account None x replaced added e = ap (λ (r : Result (ℕ × Counts) Refusal). Err (refusal_or r x)) e
no_account (Some s) x replaced added e = absurd (true≢false (ap is_ok e))

pub account_unfound : {X Y : Type 0} (shows : X → ℕ × Counts) (tells : Y → ℕ) (t : Octets) (replaced added : ℕ) (old middle new : Tables) → middle ≡ old → (error : StepError Refusal) → Decides shows (account_in (view middle t)) middle new (Err error)
    → Decides tells (part_entry_in replaced added (view old t)) old new (Err error)
account_unfound shows tells t replaced added old middle new same (Refused x) d = (no_account (view old t) x replaced added (ap (λ (y : Tables). account_in (view y t)) (sym same) ∙ d.0), d.1 ∙ same)
account_unfound shows tells t replaced added old middle new same (Failed trouble) d = tt

-- ---- a completion

none_left : (v : Option State) (s : State) (mode : BucketState) (x : Refusal) → v ≡ Some s → numbers_in mode v ≡ Err x → after_entry mode (counts s) ≡ Err x
none_left v s mode x is e = go (after_entry mode (counts s)) (ap (numbers_in mode) (sym is) ∙ e)
  where
    go : (r : Result Counts Refusal) → ◌>>=◌ {B = Counts × Counts} r (λ a. Ok (counts s, a)) ≡ Err x → r ≡ Err x
    go (Ok a) e = absurd (true≢false (ap is_ok e))
    go (Err y) e = ap (λ (r : Result (Counts × Counts) Refusal). Err (refusal_or r x)) e

module _ (at least : ℕ) (name key : Octets) (id : Option UploadId) (names : List Naming) where
  abbrev numbered : FoundUpload → Content → Result Counts Refusal → Result Outcome Refusal
  numbered f content r = ◌>>=◌ {B = Outcome} r (λ (c : Counts). Ok (completion name key f content, Some (with_bucket name (with_completed at key f content) (with_counts c f.tenant))))

  abbrev made_of : FoundUpload → Result Content Refusal → Result Outcome Refusal
  made_of f r = ◌>>=◌ {B = Outcome} r (λ (content : Content). numbered f content (after_entry f.bucket.mode (counts f.tenant)))

  abbrev made_from : Result FoundUpload Refusal → Result Outcome Refusal
  made_from r = ◌>>=◌ {B = Outcome} r (λ (f : FoundUpload). made_of f (completed least f.upload.parts names))

  -- the upload isn't there, or its parts make no object
  none_completed : (v : Option State) (x : Refusal) → completion_in least name key id names v ≡ Err x → complete_upload at least name key id names v ≡ Err x
  none_completed v x e = go (find_upload name key id v) e
    where
      go : (r : Result FoundUpload Refusal) → planned_from least names r ≡ Err x → made_from r ≡ Err x
      go (Err y) e = ap (λ (r : Result Three Refusal). Err (refusal_or r x)) e
      go (Ok f) e = joined (completed least f.upload.parts names) e
        where
          joined : (r : Result Content Refusal) → planned_of f r ≡ Err x → made_of f r ≡ Err x
          joined (Err y) e = ap (λ (r : Result Three Refusal). Err (refusal_or r x)) e
          joined (Ok content) e = absurd (true≢false (ap is_ok e))

  -- no numbers are left
  none_numbered : (v : Option State) (mode : BucketState) (n : ℕ) (content : Content) → completion_in least name key id names v ≡ Ok (mode, n, content) → (x : Refusal) → numbers_in mode v ≡ Err x → complete_upload at least name key id names v ≡ Err x
  none_numbered v mode n content found x e =
      let h = has_upload name key mode n id v (completion_found least name key id names mode n content v found) in
      let f : FoundUpload = record { tenant = h.state; bucket = h.bucket; number = n; upload = h.upload } in
      ap made_from h.found ∙ ap (made_of f) (completion_made least name key id names mode n content v h found) ∙ ap (numbered f content) (ap (λ m. after_entry m (counts h.state)) h.its ∙ none_left v h.state mode x h.added e)

  pub complete_unfound : {X Y : Type 0} (shows : X → Three) (tells : Y → Answer) (t : Octets) (old new : Tables) (error : StepError Refusal) → Decides shows (completion_in least name key id names (view old t)) old new (Err error)
      → Carries tells t (complete_upload at least name key id names) old new (Err error)
  complete_unfound shows tells t old new (Refused x) d = (none_completed (view old t) x d.0, d.1)
  complete_unfound shows tells t old new (Failed trouble) d = tt

  pub numbers_failed : {X Y : Type 0} (shows : X → Counts × Counts) (tells : Y → Answer) (t : Octets) (old middle new : Tables) → middle ≡ old → (mode : BucketState) (n : ℕ) (content : Content) → completion_in least name key id names (view old t) ≡ Ok (mode, n, content)
      → (error : StepError Refusal) → Decides shows (numbers_in mode (view middle t)) middle new (Err error) → Carries tells t (complete_upload at least name key id names) old new (Err error)
  numbers_failed shows tells t old middle new same mode n content found (Refused x) d = (none_numbered (view old t) mode n content found x (ap (λ (y : Tables). numbers_in mode (view y t)) (sym same) ∙ d.0), d.1 ∙ same)
  numbers_failed shows tells t old middle new same mode n content found (Failed trouble) d = tt
