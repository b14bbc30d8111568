-- What holds of each change of a tenant's state holds of each operation, of each act, and so of each step.
use Rattle.std.proofs.Common.{ℕ, length, map, Option, option_map, Result, Ok, Err}
use Rattle.std.specs.Prelude.{ok_or}
use Rattle.std.specs.Result.{IfOk}
use Rattle.bh_types.specs.Limits.{HostLimits}
use Rattle.bh_types.specs.Names.{is_tenant_name}
use Rattle.bh_types.specs.Outcomes.{◌>>=◌, require}
use Rattle.bh_types.specs.Rejections.{plain, plainly, for_date}
use Rattle.bh_types.specs.declared.id.UploadId.{UploadId}
use Rattle.bh_types.specs.declared.refusal.Refusal.{Refusal}
use Rattle.bh_types.specs.declared.refusal.Refusal.TheVariants.{InvalidAccessKeyId, InvalidName, NoSuchLifecycleConfiguration}
use Rattle.bh_types.specs.declared.wanted.Wanted.{Wanted}
use Rattle.bh_docs.specs.Requests.{versioning_of, lifecycle_of, retention_of, complete_of}
use Rattle.bh_event.specs.Events.{Order, AddTenant, SetQuota, RemoveTenant, AddKey, RemoveKey, ShowUsage, ShowKeys}
use Rattle.bh_http.specs.Credentials.{key_given, secret_given}
use Rattle.bh_http.specs.Views.{Taken}
use Rattle.bh_model.specs.Credentials.{authenticate}
use Rattle.bh_model.specs.Listings.{objects_listed, versions_listed, uploads_listed, parts_listed, list_objects, list_versions, list_uploads, list_parts}
use Rattle.bh_model.specs.Operations.{Outcome, added_tenant, tenant_bucket, tell_usage, tell_keys, wanted_version, planned, create_bucket, head_bucket, delete_bucket, get_versioning, get_lifecycle, delete_lifecycle, put_object, copy_object, get_object, head_object, delete_object, get_retention}
use Rattle.bh_model.specs.Uploads.{create_upload, upload_part, abort_upload}
use Rattle.bh_model.specs.Runs.{purged_tenant, settled}
use Rattle.bh_model.specs.State.{Octets, State}
use Rattle.bh_operation.specs.Operations.{operation}
use Rattle.bh_operation.specs.declared.operation.Operation.{Operation}
use Rattle.bh_operation.specs.declared.operation.Operation.TheVariants as op
use Rattle.bh_operation.specs.declared.operation.BareOperation.{BareOperation}
use Rattle.bh_operation.specs.declared.operation.BareOperation.TheVariants as bare
use Rattle.bh_operation.specs.declared.operation.ServiceOperation.{ServiceOperation}
use Rattle.bh_operation.specs.declared.operation.ServiceOperation.TheVariants.{ListBuckets, Usage}
use Rattle.bh_operation.specs.declared.operation.BucketOperation.{BucketOperation}
use Rattle.bh_operation.specs.declared.operation.BucketOperation.TheVariants.{CreateBucket, HeadBucket, DeleteBucket, GetBucketVersioning}
use Rattle.bh_operation.specs.declared.operation.ListingOperation.{ListingOperation}
use Rattle.bh_operation.specs.declared.operation.ListingOperation.TheVariants.{ListObjectsV2, ListObjectVersions, ListMultipartUploads}
use Rattle.bh_operation.specs.declared.operation.LifecycleOperation.{LifecycleOperation}
use Rattle.bh_operation.specs.declared.operation.LifecycleOperation.TheVariants.{GetLifecycle, DeleteLifecycle}
use Rattle.bh_operation.specs.declared.operation.UploadOperation.{UploadOperation}
use Rattle.bh_operation.specs.declared.operation.UploadOperation.TheVariants.{CreateMultipartUpload, ListParts, AbortMultipartUpload}
use Rattle.bh_operation.specs.declared.operation.ObjectOperation.{ObjectOperation}
use Rattle.bh_operation.specs.declared.operation.ObjectOperation.TheVariants.{CopyObject, HeadObject, DeleteObject, GetRetention}
use Rattle.bh_operation.specs.declared.operation.DocumentOperation.{DocumentOperation}
use Rattle.bh_operation.specs.declared.operation.DocumentOperation.TheVariants.{PutBucketVersioning, PutLifecycle, CompleteMultipartUpload, PutRetention}
use Rattle.bh_operation.specs.declared.operation.StoreOperation.{StoreOperation}
use Rattle.bh_operation.specs.declared.operation.StoreOperation.TheVariants.{PutObject, UploadPart}
use Rattle.bh_model.proofs.Changes.{Changes, Settings, Removal}
use Rattle.bh_machine.specs.Machine.{Act, Act.RequestRead, Act.Commanded, page_asked, place_asked, upload_asked, naming, service_operated, bucket_operated, listing_operated, lifecycle_operated, upload_operated, object_operated, bare_operated, document_operated, store_operated, operated, requested, asked, ordered, change, step, set_versioning, set_lifecycle, set_retention, finish_upload}

module _ (R : Option State → Option State → Type 0) (now : ℕ) (all : Changes R now) (s : Option State) where
  abbrev Holds : {E : Type 0} → Result Outcome E → Type 0
  Holds r = IfOk r (λ o. R s o.1)

  pub plainly_holds : (r : Result Outcome Refusal) → Holds r → Holds (plainly r)
  plainly_holds (Ok o) h = h
  plainly_holds (Err e) h = tt

  then_holds : {X E : Type 0} (r : Result X E) (F : X → Result Outcome E) → ((x : X) → Holds (F x)) → Holds (r >>= F)
  then_holds (Ok x) F h = h x
  then_holds (Err e) F h = tt

  -- what only tells leaves the state as it is
  same : R s s
  same = all.stays s

  tells_usage : Holds (tell_usage s)
  tells_usage = then_holds (added_tenant s) _ (λ t. same)

  tells_keys : Holds (tell_keys s)
  tells_keys = then_holds (added_tenant s) _ (λ t. same)

  sets_versioning : (bucket body : Octets) → Holds (set_versioning bucket body s)
  sets_versioning bucket body = then_holds (versioning_of body) _ (λ mode. all.versioning_put bucket mode s)

  sets_lifecycle : (bucket body : Octets) → Holds (set_lifecycle bucket body s)
  sets_lifecycle bucket body = then_holds (lifecycle_of body) _ (λ days. all.lifecycle_put bucket days s)

  sets_retention : (bucket key : Octets) (wanted : Wanted) (body : Octets) → Holds (set_retention now bucket key wanted body s)
  sets_retention bucket key wanted body = then_holds (plainly (retention_of body)) _ (λ date. all.retention_put bucket key wanted date s)

  retention_read : (bucket key : Octets) (wanted : Wanted) → Holds (get_retention bucket key wanted s)
  retention_read bucket key wanted = then_holds (for_date (wanted_version bucket key wanted s)) _ (λ f. same)

  finishes : (limits : HostLimits) (bucket key : Octets) (upload : Option UploadId) (body : Octets) → Holds (finish_upload limits now bucket key upload body s)
  finishes limits bucket key upload body =
      then_holds (complete_of body) _ (λ parts. all.upload_completed limits.min_part bucket key upload (map naming parts) s)

  got : (bucket key : Octets) (wanted : Wanted) (range : Option Octets) → Holds (get_object bucket key wanted range s)
  got bucket key wanted range = then_holds (wanted_version bucket key wanted s) _ (λ f. then_holds (planned range (length f.1.bytes)) _ (λ plan. same))

  headed : (bucket key : Octets) (wanted : Wanted) → Holds (head_object bucket key wanted s)
  headed bucket key wanted = then_holds (wanted_version bucket key wanted s) _ (λ f. same)

  rule_read : (bucket : Octets) → Holds (get_lifecycle bucket s)
  rule_read bucket = then_holds (tenant_bucket bucket s) _ (λ f. then_holds (ok_or f.1.days NoSuchLifecycleConfiguration) _ (λ days. same))

  service_as : (operation : ServiceOperation) → Holds (service_operated operation s)
  unfolding service_operated
  service_as ListBuckets = same
  service_as Usage = plainly_holds (tell_usage s) tells_usage

  bucket_as : (operation : BucketOperation) → Holds (bucket_operated now operation s)
  unfolding bucket_operated
  bucket_as (CreateBucket bucket locked) = plainly_holds (create_bucket now bucket locked s) (all.bucket_created bucket locked s)
  bucket_as (HeadBucket bucket) = plainly_holds (head_bucket bucket s) (then_holds (tenant_bucket bucket s) _ (λ f. same))
  bucket_as (DeleteBucket bucket) = plainly_holds (delete_bucket bucket s) (all.bucket_deleted bucket s)
  bucket_as (GetBucketVersioning bucket) = plainly_holds (get_versioning bucket s) (then_holds (tenant_bucket bucket s) _ (λ f. same))

  listing_as : (operation : ListingOperation) → Holds (listing_operated operation s)
  unfolding listing_operated
  listing_as (ListObjectsV2 bucket page token) =
      plainly_holds (list_objects bucket (page_asked page) token s) (then_holds (objects_listed bucket (page_asked page) token s) _ (λ told. same))
  listing_as (ListObjectVersions bucket page after) =
      plainly_holds (list_versions bucket (page_asked page) (option_map place_asked after) s) (then_holds (versions_listed bucket (page_asked page) (option_map place_asked after) s) _ (λ told. same))
  listing_as (ListMultipartUploads bucket page after) =
      plainly_holds (list_uploads bucket (page_asked page) (option_map upload_asked after) s) (then_holds (uploads_listed bucket (page_asked page) (option_map upload_asked after) s) _ (λ told. same))

  lifecycle_as : (operation : LifecycleOperation) → Holds (lifecycle_operated operation s)
  unfolding lifecycle_operated
  lifecycle_as (GetLifecycle bucket) = plainly_holds (get_lifecycle bucket s) (rule_read bucket)
  lifecycle_as (DeleteLifecycle bucket) = plainly_holds (delete_lifecycle bucket s) (all.lifecycle_deleted bucket s)

  upload_as : (operation : UploadOperation) → Holds (upload_operated now operation s)
  unfolding upload_operated
  upload_as (CreateMultipartUpload object) =
      plainly_holds (create_upload now object.bucket object.key s) (all.upload_created object.bucket object.key s)
  upload_as (ListParts object upload page) =
      plainly_holds (list_parts object.bucket object.key upload page.size page.after s) (then_holds (parts_listed object.bucket object.key upload page.size page.after s) _ (λ told. same))
  upload_as (AbortMultipartUpload object upload) =
      plainly_holds (abort_upload object.bucket object.key upload s) (all.upload_aborted object.bucket object.key upload s)

  object_as : (operation : ObjectOperation) → Holds (object_operated now operation s)
  unfolding object_operated
  object_as (CopyObject object source date) =
      plainly_holds (copy_object now object.bucket object.key source.object.bucket source.object.key source.version date s)
      (all.object_copied object.bucket object.key source.object.bucket source.object.key source.version date s)
  object_as (HeadObject object version) = headed object.bucket object.key version
  object_as (DeleteObject object version) =
      plainly_holds (delete_object now object.bucket object.key version s) (all.object_deleted object.bucket object.key version s)
  object_as (GetRetention object version) = retention_read object.bucket object.key version

  document_as : (limits : HostLimits) (body : Octets) (operation : DocumentOperation) → Holds (document_operated limits now body operation s)
  unfolding document_operated
  document_as limits body (PutBucketVersioning bucket) = plainly_holds (set_versioning bucket body s) (sets_versioning bucket body)
  document_as limits body (PutLifecycle bucket) = plainly_holds (set_lifecycle bucket body s) (sets_lifecycle bucket body)
  document_as limits body (CompleteMultipartUpload object upload) =
      plainly_holds (finish_upload limits now object.bucket object.key upload body s) (finishes limits object.bucket object.key upload body)
  document_as limits body (PutRetention object version) = sets_retention object.bucket object.key version body

  store_as : (body : Octets) (operation : StoreOperation) → Holds (store_operated now body operation s)
  unfolding store_operated
  store_as body (PutObject object checksum date) =
      plainly_holds (put_object now object.bucket object.key body checksum date s) (all.object_put object.bucket object.key body checksum date s)
  store_as body (UploadPart object upload number checksum) =
      plainly_holds (upload_part now object.bucket object.key upload number body checksum s)
      (all.part_uploaded number object.bucket object.key body upload checksum s)

  bare_as : (operation : BareOperation) → Holds (bare_operated now operation s)
  unfolding bare_operated
  bare_as (bare.Service operation) = service_as operation
  bare_as (bare.Bucket operation) = bucket_as operation
  bare_as (bare.Listing operation) = listing_as operation
  bare_as (bare.Lifecycle operation) = lifecycle_as operation
  bare_as (bare.Upload operation) = upload_as operation
  bare_as (bare.Object operation) = object_as operation

  pub operated_as : (limits : HostLimits) (body : Octets) (operation : Operation) → Holds (operated limits now body operation s)
  unfolding operated
  operated_as limits body (op.Bare operation) = bare_as operation
  operated_as limits body (op.ByDocument operation) = document_as limits body operation
  operated_as limits body (op.Store operation) = store_as body operation
  operated_as limits body (op.GetObject object version range) = got object.bucket object.key version range

  requested_as : (limits : HostLimits) (request : Taken) → Holds (requested limits now request s)
  requested_as limits request =
      then_holds (plainly (secret_given request)) _ (λ secret.
      then_holds (ok_or (key_given request) (plain InvalidAccessKeyId)) _ (λ key.
      then_holds (plainly (authenticate key secret s)) _ (λ _.
      then_holds (plainly (operation key.tenant request)) _ (λ asked_for. operated_as limits request.body asked_for))))

  pub asked_as : (limits : HostLimits) (answer : Result Taken Refusal) → Holds (asked limits now answer s)
  asked_as limits (Ok request) = requested_as limits request
  asked_as limits (Err refusal) = tt

  pub key_added_as : (tenant name secret : Octets) → Holds (ordered now (AddKey tenant name secret) s)
  key_added_as tenant name secret = all.key_added tenant name secret s

  pub key_removed_as : (tenant name : Octets) → Holds (ordered now (RemoveKey tenant name) s)
  key_removed_as tenant name = all.key_removed tenant name s

  pub usage_shown_as : (tenant : Octets) → Holds (ordered now (ShowUsage tenant) s)
  usage_shown_as tenant = then_holds (require (is_tenant_name tenant) InvalidName) _ (λ _. tells_usage)

  pub keys_shown_as : (tenant : Octets) → Holds (ordered now (ShowKeys tenant) s)
  keys_shown_as tenant = then_holds (require (is_tenant_name tenant) InvalidName) _ (λ _. tells_keys)

  module _ (settings : Settings R) (removal : Removal R now) where
    pub ordered_as : (order : Order) → Holds (ordered now order s)
    ordered_as (AddTenant tenant quota) = settings.tenant_added tenant quota s
    ordered_as (SetQuota tenant quota) = settings.quota_set tenant quota s
    ordered_as (RemoveTenant tenant with_objects) = removal.tenant_removed tenant with_objects s
    ordered_as (AddKey tenant name secret) = key_added_as tenant name secret
    ordered_as (RemoveKey tenant name) = key_removed_as tenant name
    ordered_as (ShowUsage tenant) = usage_shown_as tenant
    ordered_as (ShowKeys tenant) = keys_shown_as tenant

    change_as : (limits : HostLimits) (act : Act) → Holds (change limits now act s)
    change_as limits (RequestRead answer) = asked_as limits answer
    change_as limits (Commanded order) = plainly_holds (ordered now order s) (ordered_as order)

  -- where it is refused, the state stays
  pub settled_as : {X E : Type 0} (r : Result (X × Option State) E) → IfOk r (λ o. R s o.1) → R s (settled s r).1
  settled_as (Ok o) h = h
  settled_as (Err e) h = same

-- a step makes its change of the purged state
pub step_as : (R : Option State → Option State → Type 0) (now : ℕ) → Changes R now → Settings R → Removal R now → (limits : HostLimits) (act : Act) (s : Option State) → R (purged_tenant s now) (step limits now act s).1
step_as R now all settings removal limits act s =
    let p = purged_tenant s now in
    settled_as R now all p (change limits now act p) (change_as R now all p settings removal limits act)
