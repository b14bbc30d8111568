-- The private machine of a host: how an event is understood, who owns it, and its effect on its
-- owner's state.
use Rattle.std.specs.Prelude.{◌≡◌, ℕ, Option, None, option_map, ok_or, Result, Ok, Err, map}
use Rattle.bh_types.specs.AccessKeys.{tenant_named}
use Rattle.bh_types.specs.Limits.{HostLimits}
use Rattle.bh_types.specs.Outcomes.{◌>>=◌}
use Rattle.bh_types.specs.Rejections.{plain, plainly}
use Rattle.bh_types.specs.declared.id.UploadId.{UploadId}
use Rattle.bh_types.specs.declared.refusal.Refusal.{Refusal}
use Rattle.bh_types.specs.declared.refusal.Refusal.TheVariants.{InvalidAccessKeyId}
use Rattle.bh_types.specs.declared.rejection.Rejection.{Rejection}
use Rattle.bh_types.specs.declared.wanted.Wanted.{Wanted}
use Rattle.bh_docs.specs.Requests.{versioning_of, lifecycle_of, retention_of, complete_of}
use Rattle.bh_event.specs.Events.{Order, AddTenant, SetQuota, RemoveTenant, AddKey, RemoveKey, ShowUsage, ShowKeys, tenant_of, Message}
use Rattle.bh_event.specs.Events.{Requested, Ordered, SweepOrdered, ReportOrdered, TenantsOrdered}
use Rattle.bh_http.specs.Credentials.{owner, key_given, secret_given}
use Rattle.bh_http.specs.Reading.{Reads}
use Rattle.bh_http.specs.Views.{Taken}
use Rattle.bh_model.specs.Credentials.{authenticate}
use Rattle.bh_model.specs.Listings.{list_objects, list_versions, list_uploads, list_parts}
use Rattle.bh_model.specs.Pages as pages
use Rattle.bh_model.specs.Operations.{Answer, Outcome, add_tenant, set_quota, remove_tenant, add_key, remove_key}
use Rattle.bh_model.specs.Operations.{tell_usage, show_usage, show_keys}
use Rattle.bh_model.specs.Operations.{create_bucket, head_bucket, delete_bucket, list_buckets, get_versioning, put_versioning}
use Rattle.bh_model.specs.Operations.{get_lifecycle, put_lifecycle, delete_lifecycle, put_object, copy_object, get_object, head_object}
use Rattle.bh_model.specs.Operations.{delete_object, get_retention, put_retention}
use Rattle.bh_model.specs.Parts.{Naming}
use Rattle.bh_model.specs.Runs as runs
use Rattle.bh_model.specs.State.{Octets, State}
use Rattle.bh_model.specs.Uploads.{create_upload, upload_part, complete_upload, abort_upload}
use Rattle.bh_operation.specs.Operations.{operation}
use Rattle.bh_operation.specs.declared.page.Page.{Page}
use Rattle.bh_operation.specs.declared.page.UploadMarker.{UploadMarker}
use Rattle.bh_operation.specs.declared.page.VersionMarker.{VersionMarker}
use Rattle.bh_operation.specs.declared.operation.Operation.{Operation}
use Rattle.bh_operation.specs.declared.operation.Operation.TheVariants.{Bare, ByDocument, Store, GetObject}
use Rattle.bh_operation.specs.declared.operation.BareOperation.{BareOperation}
use Rattle.bh_operation.specs.declared.operation.BareOperation.TheVariants.{Service, Bucket, Listing, Lifecycle, Upload, Object}
use Rattle.bh_operation.specs.declared.operation.ServiceOperation.{ServiceOperation}
use Rattle.bh_operation.specs.declared.operation.ServiceOperation.TheVariants.{ListBuckets, Usage}
use Rattle.bh_operation.specs.declared.operation.BucketOperation.{BucketOperation}
use Rattle.bh_operation.specs.declared.operation.BucketOperation.TheVariants.{CreateBucket, HeadBucket, DeleteBucket, GetBucketVersioning}
use Rattle.bh_operation.specs.declared.operation.ListingOperation.{ListingOperation}
use Rattle.bh_operation.specs.declared.operation.ListingOperation.TheVariants.{ListObjectsV2, ListObjectVersions, ListMultipartUploads}
use Rattle.bh_operation.specs.declared.operation.LifecycleOperation.{LifecycleOperation}
use Rattle.bh_operation.specs.declared.operation.LifecycleOperation.TheVariants.{GetLifecycle, DeleteLifecycle}
use Rattle.bh_operation.specs.declared.operation.UploadOperation.{UploadOperation}
use Rattle.bh_operation.specs.declared.operation.UploadOperation.TheVariants.{CreateMultipartUpload, ListParts, AbortMultipartUpload}
use Rattle.bh_operation.specs.declared.operation.ObjectOperation.{ObjectOperation}
use Rattle.bh_operation.specs.declared.operation.ObjectOperation.TheVariants.{CopyObject, HeadObject, DeleteObject, GetRetention}
use Rattle.bh_operation.specs.declared.operation.DocumentOperation.{DocumentOperation}
use Rattle.bh_operation.specs.declared.operation.DocumentOperation.TheVariants.{PutBucketVersioning, PutLifecycle, CompleteMultipartUpload}
use Rattle.bh_operation.specs.declared.operation.DocumentOperation.TheVariants.{PutRetention}
use Rattle.bh_operation.specs.declared.operation.StoreOperation.{StoreOperation}
use Rattle.bh_operation.specs.declared.operation.StoreOperation.TheVariants.{PutObject, UploadPart}

-- ---- acts

-- how an event is understood: as a request, or its first refusal, as its bytes are parsed; or as an
-- operator's order
pub data Act : Type 0 where
  RequestRead : (answer : Result Taken Refusal) → Act
  Commanded : (order : Order) → Act

-- the act in an event's message; sweeps, reports and lists of tenants are not acts of a tenant, nor
-- of anybody who asks for one
abbrev pub Acted : HostLimits → Message → Act → Type 0
Acted limits (Requested bytes) act = (answer : Result Taken Refusal) × Reads limits bytes answer × (act ≡ RequestRead answer)
Acted limits (Ordered order) act = act ≡ Commanded order
Acted limits (SweepOrdered limit) act = ⊥
Acted limits ReportOrdered act = ⊥
Acted limits TenantsOrdered act = ⊥

abbrev pub asker : Result Taken Refusal → Option Octets
asker (Ok request) = owner request
asker (Err refusal) = None

-- the owner of an act, if it has one
abbrev pub owner_of : Act → Option Octets
owner_of (RequestRead answer) = asker answer
owner_of (Commanded order) = tenant_named (tenant_of order)

-- ---- operations

-- the document has the bucket's new versioning
abbrev pub set_versioning : Octets → Octets → Option State → Result Outcome Refusal
set_versioning bucket body s = do
  mode ← versioning_of body
  put_versioning bucket mode s

-- the document has the number of days after which the bucket's uploads are removed
abbrev pub set_lifecycle : Octets → Octets → Option State → Result Outcome Refusal
set_lifecycle bucket body s = do
  days ← lifecycle_of body
  put_lifecycle bucket days s

-- the document has the date until which the version is retained
abbrev pub set_retention : ℕ → Octets → Octets → Wanted → Octets → Option State → Result Outcome Rejection
set_retention now bucket key wanted body s = do
  date ← plainly (retention_of body)
  put_retention now bucket key wanted date s

-- the page in a request
abbrev pub page_asked : Page → pages.PageAsked
page_asked page = record { prefix = page.prefix; delimiter = page.delimiter; max = page.size }

-- the entry after which it begins
abbrev pub place_asked : VersionMarker → pages.VersionPlace
place_asked marker = record { key = marker.key; version = marker.version }

abbrev pub upload_asked : UploadMarker → pages.UploadPlace
upload_asked marker = record { key = marker.key; upload = marker.upload }

-- a part as a document names it
abbrev pub naming : ℕ × Option Octets → Naming
naming part = record { number = part.0; checksum = part.1 }

-- the document names the parts that make the object
abbrev pub finish_upload : HostLimits → ℕ → Octets → Octets → Option UploadId → Octets → Option State → Result Outcome Refusal
finish_upload limits now bucket key upload body s = do
  parts ← complete_of body
  complete_upload now limits.min_part bucket key upload (map naming parts) s

-- an operation on all buckets of a tenant
unfoldable pub service_operated : ServiceOperation → Option State → Result Outcome Rejection
service_operated ListBuckets s = plainly (list_buckets s)
service_operated Usage s = plainly (tell_usage s)

-- on a bucket itself, at a moment
unfoldable pub bucket_operated : ℕ → BucketOperation → Option State → Result Outcome Rejection
bucket_operated now (CreateBucket bucket locked) s = plainly (create_bucket now bucket locked s)
bucket_operated now (HeadBucket bucket) s = plainly (head_bucket bucket s)
bucket_operated now (DeleteBucket bucket) s = plainly (delete_bucket bucket s)
bucket_operated now (GetBucketVersioning bucket) s = plainly (get_versioning bucket s)

-- a page of a bucket's contents
unfoldable pub listing_operated : ListingOperation → Option State → Result Outcome Rejection
listing_operated (ListObjectsV2 bucket page token) s = plainly (list_objects bucket (page_asked page) token s)
listing_operated (ListObjectVersions bucket page after) s =
    plainly (list_versions bucket (page_asked page) (option_map place_asked after) s)
listing_operated (ListMultipartUploads bucket page after) s =
    plainly (list_uploads bucket (page_asked page) (option_map upload_asked after) s)

-- on a bucket's rule
unfoldable pub lifecycle_operated : LifecycleOperation → Option State → Result Outcome Rejection
lifecycle_operated (GetLifecycle bucket) s = plainly (get_lifecycle bucket s)
lifecycle_operated (DeleteLifecycle bucket) s = plainly (delete_lifecycle bucket s)

-- on an upload
unfoldable pub upload_operated : ℕ → UploadOperation → Option State → Result Outcome Rejection
upload_operated now (CreateMultipartUpload object) s = plainly (create_upload now object.bucket object.key s)
upload_operated now (ListParts object upload page) s = plainly (list_parts object.bucket object.key upload page.size page.after s)
upload_operated now (AbortMultipartUpload object upload) s = plainly (abort_upload object.bucket object.key upload s)

-- on an object
unfoldable pub object_operated : ℕ → ObjectOperation → Option State → Result Outcome Rejection
object_operated now (CopyObject object source date) s =
    plainly (copy_object now object.bucket object.key source.object.bucket source.object.key source.version date s)
object_operated now (HeadObject object version) s = head_object object.bucket object.key version s
object_operated now (DeleteObject object version) s = plainly (delete_object now object.bucket object.key version s)
object_operated now (GetRetention object version) s = get_retention object.bucket object.key version s

-- an operation that doesn't need its request's body
unfoldable pub bare_operated : ℕ → BareOperation → Option State → Result Outcome Rejection
bare_operated now (Service operation) s = service_operated operation s
bare_operated now (Bucket operation) s = bucket_operated now operation s
bare_operated now (Listing operation) s = listing_operated operation s
bare_operated now (Lifecycle operation) s = lifecycle_operated operation s
bare_operated now (Upload operation) s = upload_operated now operation s
bare_operated now (Object operation) s = object_operated now operation s

-- by its document, which is parsed before anything is looked up, on a host with these limits
unfoldable pub document_operated : HostLimits → ℕ → Octets → DocumentOperation → Option State → Result Outcome Rejection
document_operated limits now document (PutBucketVersioning bucket) s = plainly (set_versioning bucket document s)
document_operated limits now document (PutLifecycle bucket) s = plainly (set_lifecycle bucket document s)
document_operated limits now document (CompleteMultipartUpload object upload) s =
    plainly (finish_upload limits now object.bucket object.key upload document s)
document_operated limits now document (PutRetention object version) s = set_retention now object.bucket object.key version document s

-- with the bytes that it stores
unfoldable pub store_operated : ℕ → Octets → StoreOperation → Option State → Result Outcome Rejection
store_operated now bytes (PutObject object checksum date) s = plainly (put_object now object.bucket object.key bytes checksum date s)
store_operated now bytes (UploadPart object upload number checksum) s =
    plainly (upload_part now object.bucket object.key upload number bytes checksum s)

-- an operation at a moment, by its request's body, on a host with these limits
unfoldable pub operated : HostLimits → ℕ → Octets → Operation → Option State → Result Outcome Rejection
operated limits now body (Bare operation) s = bare_operated now operation s
operated limits now body (ByDocument operation) s = document_operated limits now body operation s
operated limits now body (Store operation) s = store_operated now body operation s
operated limits now body (GetObject object version range) s = get_object object.bucket object.key version range s

-- ---- requests and orders

-- a request: its credentials, its operation by its target and names, and then that operation's
-- effect
abbrev pub requested : HostLimits → ℕ → Taken → Option State → Result Outcome Rejection
requested limits now request s = do
  secret ← plainly (secret_given request)
  key ← ok_or (key_given request) (plain InvalidAccessKeyId)
  _ ← plainly (authenticate key secret s)
  asked_for ← plainly (operation key.tenant request)
  operated limits now request.body asked_for s

abbrev pub asked : HostLimits → ℕ → Result Taken Refusal → Option State → Result Outcome Rejection
asked limits now (Ok request) s = requested limits now request s
asked limits now (Err refusal) s = Err (plain refusal)

-- an operator's command at a moment
abbrev pub ordered : ℕ → Order → Option State → Result Outcome Refusal
ordered now (AddTenant tenant quota) s = add_tenant tenant quota s
ordered now (SetQuota tenant quota) s = set_quota tenant quota s
ordered now (RemoveTenant tenant with_objects) s = remove_tenant now tenant with_objects s
ordered now (AddKey tenant name secret) s = add_key tenant name secret s
ordered now (RemoveKey tenant name) s = remove_key tenant name s
ordered now (ShowUsage tenant) s = show_usage tenant s
ordered now (ShowKeys tenant) s = show_keys tenant s

-- an act's effect on its owner's state once that is purged
abbrev pub change : HostLimits → ℕ → Act → Option State → Result Outcome Rejection
change limits now (RequestRead answer) s = asked limits now answer s
change limits now (Commanded order) s = plainly (ordered now order s)

-- an act at a moment: the owner's stale uploads are removed, and then comes the change, or a
-- refusal that changes nothing more
abbrev pub step : HostLimits → ℕ → Act → Option State → Result Answer Rejection × Option State
step limits = runs.step (change limits)
