-- What holds of every change of a tenant's state, and the parts that each of them goes through.
use Rattle.std.proofs.Common.{◌≡◌, ℕ, Bool, true, false, cond, List, Option, Some, None, option_map, option_and_then, ok_or, Result, Ok, Err, refl, bytes_eq}
use Rattle.std.specs.Result.{IfOk}
use Rattle.std.specs.FinMap.{get}
use Rattle.bh_types.specs.Outcomes.{◌>>=◌}
use Rattle.bh_types.specs.Rejections.{plainly}
use Rattle.bh_types.specs.declared.bucket_state.BucketState.{BucketState}
use Rattle.bh_types.specs.declared.id.UploadId.{UploadId}
use Rattle.bh_types.specs.declared.refusal.Refusal.{Refusal}
use Rattle.bh_types.specs.declared.refusal.Refusal.TheVariants.{NoSuchBucket, NoSuchUpload}
use Rattle.bh_types.specs.declared.rejection.Rejection.{Rejection}
use Rattle.bh_types.specs.declared.wanted.Wanted.{Wanted}
use Rattle.bh_model.specs.State.{Octets, Upload, Bucket, State}
use Rattle.bh_model.specs.Parts.{Naming}
use Rattle.bh_model.specs.Operations.{Outcome, tenant_bucket, add_tenant, set_quota, add_key, remove_key, remove_tenant, create_bucket, delete_bucket, put_versioning, put_lifecycle, delete_lifecycle, put_object, copy_object, delete_object, put_retention}
use Rattle.bh_model.specs.Uploads.{FoundUpload, of_key, found_upload, find_upload, create_upload, upload_part, complete_upload, abort_upload}

-- an upload that a change names
abbrev pub found : State → Bucket → ℕ → Upload → FoundUpload
found t b number u = record { tenant = t; bucket = b; number = number; upload = u }

module _ (R : Option State → Option State → Type 0) where
  -- a change leaves a state that stands so to the one before, or is refused
  abbrev pub Always : {X E : Type 0} → (Option State → Result (X × Option State) E) → Type 0
  Always change = (s : Option State) → IfOk (change s) (λ o. R s o.1)

  -- so each that sets no quota does at this moment; what only tells leaves the state as it is
  pub record Changes (moment : ℕ) : Type 0 where
    pub stays : (s : Option State) → R s s
    pub key_added : (tenant name secret : Octets) → Always (add_key tenant name secret)
    pub key_removed : (tenant name : Octets) → Always (remove_key tenant name)
    pub bucket_created : (name : Octets) (locked : Bool) → Always (create_bucket moment name locked)
    pub bucket_deleted : (name : Octets) → Always (delete_bucket name)
    pub versioning_put : (name : Octets) (mode : BucketState) → Always (put_versioning name mode)
    pub lifecycle_put : (name : Octets) (days : ℕ) → Always (put_lifecycle name days)
    pub lifecycle_deleted : (name : Octets) → Always (delete_lifecycle name)
    pub object_put : (name key bytes : Octets) (given : Option Octets) (date : Option (Option ℕ)) → Always (put_object moment name key bytes given date)
    pub object_copied : (name key source_name source_key : Octets) (wanted : Wanted) (date : Option (Option ℕ)) → Always (copy_object moment name key source_name source_key wanted date)
    pub object_deleted : (name key : Octets) (wanted : Wanted) → Always (delete_object moment name key wanted)
    pub retention_put : (name key : Octets) (wanted : Wanted) (date : ℕ) → Always (put_retention moment name key wanted date)
    pub upload_created : (name key : Octets) → Always (create_upload moment name key)
    pub part_uploaded : (number : ℕ) (name key bytes : Octets) (upload : Option UploadId) (given : Option Octets) → Always (upload_part moment name key upload number bytes given)
    pub upload_completed : (least : ℕ) (name key : Octets) (upload : Option UploadId) (names : List Naming) → Always (complete_upload moment least name key upload names)
    pub upload_aborted : (name key : Octets) (upload : Option UploadId) → Always (abort_upload name key upload)

  -- and each that sets one
  pub record Settings : Type 0 where
    pub tenant_added : (name : Octets) (quota : ℕ) → Always (add_tenant name quota)
    pub quota_set : (name : Octets) (quota : ℕ) → Always (set_quota name quota)

  -- and the one that takes a tenant away
  pub record Removal (moment : ℕ) : Type 0 where
    pub tenant_removed : (name : Octets) (with_objects : Bool) → Always (remove_tenant moment name with_objects)

  -- ---- what is left of the tenant, the bucket and the upload that a change names

  abbrev Left : Option State → Outcome → Type 0
  Left s o = R s o.1

  pub of_bucket : (name : Octets) (s : Option State) (F : State × Bucket → Result Outcome Refusal)
      → ((t : State) (b : Bucket) → get t.buckets name ≡ Some b → IfOk (F (t, b)) (Left (Some t))) → IfOk (tenant_bucket name s >>= F) (Left s)
  of_bucket name None F h = tt
  of_bucket name (Some t) F h = go (get t.buckets name) refl
    where
      go : (o : Option Bucket) → get t.buckets name ≡ o → IfOk (ok_or (option_map (λ b. (t, b)) o) NoSuchBucket >>= F) (Left (Some t))
      go None e = tt
      go (Some b) e = h t b e

  -- and where the change's refusals tell more
  pub of_plain_bucket : (name : Octets) (s : Option State) (F : State × Bucket → Result Outcome Rejection)
      → ((t : State) (b : Bucket) → get t.buckets name ≡ Some b → IfOk (F (t, b)) (Left (Some t))) → IfOk (plainly (tenant_bucket name s) >>= F) (Left s)
  of_plain_bucket name None F h = tt
  of_plain_bucket name (Some t) F h = go (get t.buckets name) refl
    where
      go : (o : Option Bucket) → get t.buckets name ≡ o → IfOk (plainly (ok_or (option_map (λ b. (t, b)) o) NoSuchBucket) >>= F) (Left (Some t))
      go None e = tt
      go (Some b) e = h t b e

  two_steps : {X Y Z E : Type 0} (r : Result X E) (F : X → Result Y E) (G : Y → Result Z E) (P : Z → Type 0) → IfOk (r >>= (λ x. F x >>= G)) P → IfOk ((r >>= F) >>= G) P
  two_steps (Ok x) F G P h = h
  two_steps (Err e) F G P h = tt

  module _ (name key : Octets) (F : FoundUpload → Result Outcome Refusal)
      (h : (t : State) (b : Bucket) (number : ℕ) (u : Upload) → get t.buckets name ≡ Some b → get b.uploads number ≡ Some u → IfOk (F (found t b number u)) (Left (Some t))) where
    module _ (t : State) (b : Bucket) (there : get t.buckets name ≡ Some b) (number : ℕ) where
      abbrev go_on : Option Upload → Result Outcome Refusal
      go_on o = ok_or (option_map (λ u. found t b number u) o) NoSuchUpload >>= F

      this_key : (u : Upload) (same : Bool) → get b.uploads number ≡ Some u → IfOk (go_on (cond same (Some u) None)) (Left (Some t))
      this_key u true e = h t b number u there e
      this_key u false e = tt

      this_id : (o : Option Upload) → get b.uploads number ≡ o → IfOk (go_on (option_and_then (of_key key) o)) (Left (Some t))
      this_id None e = tt
      this_id (Some u) e = this_key u (bytes_eq u.key key) e

    in_bucket : (upload : Option UploadId) (t : State) (b : Bucket) → get t.buckets name ≡ Some b → IfOk (ok_or (found_upload key upload t b) NoSuchUpload >>= F) (Left (Some t))
    in_bucket None t b there = tt
    in_bucket (Some id) t b there = this_id t b there id.number (get b.uploads id.number) refl

    of_found : (upload : Option UploadId) (s : Option State) → IfOk (find_upload name key upload s >>= F) (Left s)
    of_found upload s =
        two_steps (tenant_bucket name s) (λ f. ok_or (found_upload key upload f.0 f.1) NoSuchUpload) F (Left s)
        (of_bucket name s (λ f. ok_or (found_upload key upload f.0 f.1) NoSuchUpload >>= F) (λ t b there. in_bucket upload t b there))

  pub of_upload : (name key : Octets) (upload : Option UploadId) (s : Option State) (F : FoundUpload → Result Outcome Refusal)
      → ((t : State) (b : Bucket) (number : ℕ) (u : Upload) → get t.buckets name ≡ Some b → get b.uploads number ≡ Some u → IfOk (F (found t b number u)) (Left (Some t)))
      → IfOk (find_upload name key upload s >>= F) (Left s)
  of_upload name key upload s F h = of_found name key F h upload s
