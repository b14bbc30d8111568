-- An operation that changes no bucket itself leaves what is remembered of its tenant as it is.
use Rattle.std.proofs.Common.{◌≡◌, ℕ, false, true≢false, length, map, List, Option, Some, option_map, Result, Ok, Err, refl, subst, IfOk}
use Rattle.std.specs.Prelude.{ok_or}
use Rattle.bh_types.specs.Limits.{HostLimits}
use Rattle.bh_types.specs.Outcomes.{◌>>=◌, require}
use Rattle.bh_types.specs.Rejections.{plainly, for_date}
use Rattle.bh_types.specs.declared.id.UploadId.{UploadId}
use Rattle.bh_types.specs.declared.refusal.Refusal.{Refusal}
use Rattle.bh_types.specs.declared.refusal.Refusal.TheVariants.{AccessDenied, BadDigest, NoSuchLifecycleConfiguration}
use Rattle.bh_types.specs.declared.wanted.Wanted.{Wanted}
use Rattle.bh_docs.specs.Requests.{retention_of, complete_of}
use Rattle.bh_machine.specs.Machine.{operated, bare_operated, service_operated, bucket_operated, listing_operated, lifecycle_operated, upload_operated, object_operated, document_operated, store_operated, page_asked, place_asked, upload_asked, naming, finish_upload}
use Rattle.bh_model.specs.Counting.{counts, after_entry, after_delete}
use Rattle.bh_model.specs.Listings.{objects_listed, versions_listed, uploads_listed, parts_listed, list_objects, list_versions, list_uploads, list_parts}
use Rattle.bh_model.specs.Operations.{Outcome, added_tenant, tenant_bucket, tell_usage, wanted_version, planned, head_bucket, get_versioning, get_lifecycle, put_object, copy_object, delete_object, put_retention, require_quota, with_object, with_copy, with_new_date, with_deleted, source_version, found_version}
use Rattle.bh_model.specs.Parts.{Naming, is_checksum, completed}
use Rattle.bh_model.specs.Retention.{first_date, may_go, named_date, may_retain, can_retain, date_of, with_date}
use Rattle.bh_model.specs.State.{Octets, Part, State}
use Rattle.bh_model.specs.Uploads.{create_upload, upload_part, complete_upload, abort_upload, with_upload, without_upload, new_upload, with_stored, with_completed, after_begin, after_part}
use Rattle.bh_model.proofs.Changes.{found, of_bucket, of_plain_bucket, of_upload}
use Rattle.bh_memo.proofs.Keeping.{Keeps, keeps_same, bucket_put}
use Rattle.bh_operation.specs.declared.operation.Operation.{Operation}
use Rattle.bh_operation.specs.declared.operation.Operation.TheVariants.{Bare, ByDocument, Store, GetObject}
use Rattle.bh_operation.specs.declared.operation.BareOperation.{BareOperation}
use Rattle.bh_operation.specs.declared.operation.BareOperation.TheVariants.{Service, Bucket as OfBucket, Listing, Lifecycle, Upload as OfUpload, Object}
use Rattle.bh_operation.specs.declared.operation.ServiceOperation.{ServiceOperation}
use Rattle.bh_operation.specs.declared.operation.ServiceOperation.TheVariants.{ListBuckets, Usage}
use Rattle.bh_operation.specs.declared.operation.BucketOperation.TheVariants.{CreateBucket, HeadBucket, DeleteBucket, GetBucketVersioning}
use Rattle.bh_operation.specs.declared.operation.ListingOperation.{ListingOperation}
use Rattle.bh_operation.specs.declared.operation.ListingOperation.TheVariants.{ListObjectsV2, ListObjectVersions, ListMultipartUploads}
use Rattle.bh_operation.specs.declared.operation.LifecycleOperation.TheVariants.{GetLifecycle, DeleteLifecycle}
use Rattle.bh_operation.specs.declared.operation.UploadOperation.{UploadOperation}
use Rattle.bh_operation.specs.declared.operation.UploadOperation.TheVariants.{CreateMultipartUpload, ListParts, AbortMultipartUpload}
use Rattle.bh_operation.specs.declared.operation.ObjectOperation.{ObjectOperation}
use Rattle.bh_operation.specs.declared.operation.ObjectOperation.TheVariants.{CopyObject, HeadObject, DeleteObject, GetRetention}
use Rattle.bh_operation.specs.declared.operation.DocumentOperation.{DocumentOperation}
use Rattle.bh_operation.specs.declared.operation.DocumentOperation.TheVariants.{PutBucketVersioning, PutLifecycle, CompleteMultipartUpload, PutRetention}
use Rattle.bh_operation.specs.declared.operation.StoreOperation.{StoreOperation}
use Rattle.bh_operation.specs.declared.operation.StoreOperation.TheVariants.{PutObject, UploadPart}
use Rattle.bh_dispatch.specs.Changing.{changes_buckets}

module _ (s : Option State) where
  abbrev pub Leaves : {E : Type 0} → Result Outcome E → Type 0
  Leaves r = IfOk r (λ o. Keeps s o.1)

  plainly_leaves : (r : Result Outcome Refusal) → Leaves r → Leaves (plainly r)
  plainly_leaves (Ok o) h = h
  plainly_leaves (Err e) h = tt

  then_leaves : {X E : Type 0} (r : Result X E) (F : X → Result Outcome E) → ((x : X) → Leaves (F x)) → Leaves (r >>= F)
  then_leaves (Ok x) F h = h x
  then_leaves (Err e) F h = tt

  same : Keeps s s
  same = keeps_same s

-- ---- the operations that change a tenant's state

object_put : (moment : ℕ) (name key bytes : Octets) (given : Option Octets) (date : Option (Option ℕ)) (s : Option State) → Leaves s (put_object moment name key bytes given date s)
object_put moment name key bytes given date s = of_bucket Keeps name s _ (λ t b there.
    then_leaves (Some t) (require (is_checksum given bytes) BadDigest) _ (λ _.
    then_leaves (Some t) (first_date b.locked date moment) _ (λ until.
    then_leaves (Some t) (require_quota name (with_object moment key t.next_version bytes b) t) _ (λ _.
    then_leaves (Some t) (after_entry b.mode (counts t)) _ (λ c.
    bucket_put t _ name b (with_new_date key t.next_version until (with_object moment key t.next_version bytes b)) there refl refl refl refl)))))

object_copied : (moment : ℕ) (name key source_name source_key : Octets) (wanted : Wanted) (date : Option (Option ℕ)) (s : Option State)
    → Leaves s (copy_object moment name key source_name source_key wanted date s)
object_copied moment name key source_name source_key wanted date s = of_bucket Keeps name s _ (λ t b there.
    then_leaves (Some t) (source_version source_name source_key wanted s) _ (λ v.
    then_leaves (Some t) (first_date b.locked date moment) _ (λ until.
    then_leaves (Some t) (require_quota name (with_copy moment key t.next_version v b) t) _ (λ _.
    then_leaves (Some t) (after_entry b.mode (counts t)) _ (λ c.
    bucket_put t _ name b (with_new_date key t.next_version until (with_copy moment key t.next_version v b)) there refl refl refl refl)))))

object_deleted : (moment : ℕ) (name key : Octets) (wanted : Wanted) (s : Option State) → Leaves s (delete_object moment name key wanted s)
object_deleted moment name key wanted s = of_bucket Keeps name s _ (λ t b there.
    then_leaves (Some t) (require (may_go (named_date key wanted b) moment) AccessDenied) _ (λ _.
    then_leaves (Some t) (after_delete b.mode wanted (counts t)) _ (λ c.
    bucket_put t _ name b (with_deleted moment key wanted t.next_version b) there refl refl refl refl)))

retention_put : (moment : ℕ) (name key : Octets) (wanted : Wanted) (date : ℕ) (s : Option State) → Leaves s (put_retention moment name key wanted date s)
retention_put moment name key wanted date s = of_plain_bucket Keeps name s _ (λ t b there.
    then_leaves (Some t) (for_date (found_version key wanted b)) _ (λ v.
    then_leaves (Some t) (plainly (may_retain (can_retain b.locked v.id) (date_of key v.id b) (Some date) moment)) _ (λ _.
    bucket_put t _ name b (with_date key v.id (Some date) b) there refl refl refl refl)))

upload_created : (moment : ℕ) (name key : Octets) (s : Option State) → Leaves s (create_upload moment name key s)
upload_created moment name key s = of_bucket Keeps name s _ (λ t b there.
    then_leaves (Some t) (after_begin (counts t)) _ (λ c.
    bucket_put t _ name b (with_upload t.next_upload (new_upload key moment) b) there refl refl refl refl))

part_uploaded : (moment : ℕ) (name key : Octets) (upload : Option UploadId) (number : ℕ) (bytes : Octets) (given : Option Octets) (s : Option State)
    → Leaves s (upload_part moment name key upload number bytes given s)
part_uploaded moment name key upload number bytes given s =
    let p : Part = record { bytes = bytes; moment = moment } in
    of_upload Keeps name key upload s _ (λ t b place u there here.
    then_leaves (Some t) (require (is_checksum given bytes) BadDigest) _ (λ _.
    then_leaves (Some t) (require_quota name (with_stored (found t b place u) number p) t) _ (λ _.
    then_leaves (Some t) (after_part (counts t)) _ (λ c.
    bucket_put t _ name b (with_stored (found t b place u) number p) there refl refl refl refl))))

upload_completed : (moment least : ℕ) (name key : Octets) (upload : Option UploadId) (names : List Naming) (s : Option State)
    → Leaves s (complete_upload moment least name key upload names s)
upload_completed moment least name key upload names s = of_upload Keeps name key upload s _ (λ t b number u there here.
    then_leaves (Some t) (completed least u.parts names) _ (λ content.
    then_leaves (Some t) (after_entry b.mode (counts t)) _ (λ c.
    bucket_put t _ name b (with_completed moment key (found t b number u) content) there refl refl refl refl)))

upload_aborted : (name key : Octets) (upload : Option UploadId) (s : Option State) → Leaves s (abort_upload name key upload s)
upload_aborted name key upload s = of_upload Keeps name key upload s _ (λ t b number u there here.
    bucket_put t _ name b (without_upload number b) there refl refl refl refl)

-- ---- each operation

module _ (s : Option State) (moment : ℕ) where
  service_leaves : (operation : ServiceOperation) → Leaves s (service_operated operation s)
  unfolding service_operated
  service_leaves ListBuckets = same s
  service_leaves Usage = plainly_leaves s (tell_usage s) (then_leaves s (added_tenant s) _ (λ t. same s))

  listing_leaves : (operation : ListingOperation) → Leaves s (listing_operated operation s)
  unfolding listing_operated
  listing_leaves (ListObjectsV2 bucket page token) =
      plainly_leaves s (list_objects bucket (page_asked page) token s) (then_leaves s (objects_listed bucket (page_asked page) token s) _ (λ told. same s))
  listing_leaves (ListObjectVersions bucket page after) =
      plainly_leaves s (list_versions bucket (page_asked page) (option_map place_asked after) s)
      (then_leaves s (versions_listed bucket (page_asked page) (option_map place_asked after) s) _ (λ told. same s))
  listing_leaves (ListMultipartUploads bucket page after) =
      plainly_leaves s (list_uploads bucket (page_asked page) (option_map upload_asked after) s)
      (then_leaves s (uploads_listed bucket (page_asked page) (option_map upload_asked after) s) _ (λ told. same s))

  upload_leaves : (operation : UploadOperation) → Leaves s (upload_operated moment operation s)
  unfolding upload_operated
  upload_leaves (CreateMultipartUpload object) = plainly_leaves s (create_upload moment object.bucket object.key s) (upload_created moment object.bucket object.key s)
  upload_leaves (ListParts object upload page) =
      plainly_leaves s (list_parts object.bucket object.key upload page.size page.after s)
      (then_leaves s (parts_listed object.bucket object.key upload page.size page.after s) _ (λ told. same s))
  upload_leaves (AbortMultipartUpload object upload) =
      plainly_leaves s (abort_upload object.bucket object.key upload s) (upload_aborted object.bucket object.key upload s)

  object_leaves : (operation : ObjectOperation) → Leaves s (object_operated moment operation s)
  unfolding object_operated
  object_leaves (CopyObject object source date) =
      plainly_leaves s (copy_object moment object.bucket object.key source.object.bucket source.object.key source.version date s)
      (object_copied moment object.bucket object.key source.object.bucket source.object.key source.version date s)
  object_leaves (HeadObject object version) = then_leaves s (wanted_version object.bucket object.key version s) _ (λ f. same s)
  object_leaves (DeleteObject object version) =
      plainly_leaves s (delete_object moment object.bucket object.key version s) (object_deleted moment object.bucket object.key version s)
  object_leaves (GetRetention object version) = then_leaves s (for_date (wanted_version object.bucket object.key version s)) _ (λ f. same s)

  bare_leaves : (operation : BareOperation) → changes_buckets (Bare operation) ≡ false → Leaves s (bare_operated moment operation s)
  unfolding bare_operated bucket_operated lifecycle_operated
  bare_leaves (Service operation) leaves = service_leaves operation
  bare_leaves (OfBucket (HeadBucket bucket)) leaves = plainly_leaves s (head_bucket bucket s) (then_leaves s (tenant_bucket bucket s) _ (λ f. same s))
  bare_leaves (OfBucket (GetBucketVersioning bucket)) leaves = plainly_leaves s (get_versioning bucket s) (then_leaves s (tenant_bucket bucket s) _ (λ f. same s))
  bare_leaves (OfBucket (CreateBucket bucket locked)) leaves = absurd (true≢false leaves)
  bare_leaves (OfBucket (DeleteBucket bucket)) leaves = absurd (true≢false leaves)
  bare_leaves (Listing operation) leaves = listing_leaves operation
  bare_leaves (Lifecycle (GetLifecycle bucket)) leaves =
      plainly_leaves s (get_lifecycle bucket s)
      (then_leaves s (tenant_bucket bucket s) _ (λ f. then_leaves s (ok_or f.1.days NoSuchLifecycleConfiguration) _ (λ days. same s)))
  bare_leaves (Lifecycle (DeleteLifecycle bucket)) leaves = absurd (true≢false leaves)
  bare_leaves (OfUpload operation) leaves = upload_leaves operation
  bare_leaves (Object operation) leaves = object_leaves operation

  document_leaves : (limits : HostLimits) (body : Octets) (operation : DocumentOperation) → changes_buckets (ByDocument operation) ≡ false
      → Leaves s (document_operated limits moment body operation s)
  unfolding document_operated
  document_leaves limits body (PutBucketVersioning bucket) leaves = absurd (true≢false leaves)
  document_leaves limits body (PutLifecycle bucket) leaves = absurd (true≢false leaves)
  document_leaves limits body (CompleteMultipartUpload object upload) leaves =
      plainly_leaves s (finish_upload limits moment object.bucket object.key upload body s)
      (then_leaves s (complete_of body) _ (λ parts. upload_completed moment limits.min_part object.bucket object.key upload (map naming parts) s))
  document_leaves limits body (PutRetention object version) leaves =
      then_leaves s (plainly (retention_of body)) _ (λ date. retention_put moment object.bucket object.key version date s)

  store_leaves : (body : Octets) (operation : StoreOperation) → Leaves s (store_operated moment body operation s)
  unfolding store_operated
  store_leaves body (PutObject object checksum date) =
      plainly_leaves s (put_object moment object.bucket object.key body checksum date s) (object_put moment object.bucket object.key body checksum date s)
  store_leaves body (UploadPart object upload number checksum) =
      plainly_leaves s (upload_part moment object.bucket object.key upload number body checksum s)
      (part_uploaded moment object.bucket object.key upload number body checksum s)

  pub leaves : (limits : HostLimits) (body : Octets) (operation : Operation) → changes_buckets operation ≡ false → Leaves s (operated limits moment body operation s)
  unfolding operated
  leaves limits body (Bare operation) none = bare_leaves operation none
  leaves limits body (ByDocument operation) none = document_leaves limits body operation none
  leaves limits body (Store operation) none = store_leaves body operation
  leaves limits body (GetObject object version range) none =
      then_leaves s (wanted_version object.bucket object.key version s) _ (λ f. then_leaves s (planned range (length f.1.bytes)) _ (λ plan. same s))

-- so does a step that is done
pub done_leaves : {X E : Type 0} (s after : Option State) (r : Result (X × Option State) E) (x : X) → IfOk r (λ o. Keeps s o.1) → r ≡ Ok (x, after) → Keeps s after
done_leaves s after r x h e = subst (λ (r : Result _ _). IfOk r (λ o. Keeps s o.1)) e h
