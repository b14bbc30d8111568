-- The effect of each operation and each operator's command on a tenant's state, and its answer.
-- Refusals are checked in order. An absent state is that of a tenant that was not added.
use Rattle.std.specs.Prelude.{ℕ, ◌^◌, Bool, true, false, not, ◌&&◌, ◌||◌, nat_le, Option, Some, None, option_and_then, option_map, is_none}
use Rattle.std.specs.Prelude.{is_some, unwrap_or, List, [], length, map, ok_or, Result, Ok, if◌then◌else◌}
use Rattle.std.specs.List.{find}
use Rattle.std.specs.Option.{option_map_or}
use Rattle.std.specs.Result.{result_map_both}
use Rattle.std.specs.FinMap.{entries, get, insert, remove}
use Rattle.bh_types.specs.Names.{is_tenant_name, is_key_name, is_secret}
use Rattle.bh_types.specs.declared.id.UploadId.{UploadId}
use Rattle.bh_types.specs.declared.id.VersionId.{VersionId}
use Rattle.bh_types.specs.declared.bucket_state.BucketState.{BucketState}
use Rattle.bh_types.specs.declared.bucket_state.BucketState.TheVariants.{Unversioned, Enabled, Suspended}
use Rattle.bh_types.specs.declared.range.RangePlan.{RangePlan}
use Rattle.bh_types.specs.declared.refusal.Refusal.{Refusal}
use Rattle.bh_types.specs.declared.refusal.Refusal.TheVariants.{AccessDenied, NoSuchBucket, MethodNotAllowed, BucketAlreadyOwnedByYou}
use Rattle.bh_types.specs.declared.refusal.Refusal.TheVariants.{BucketNotEmpty, InvalidBucketState, BadDigest, QuotaExceeded}
use Rattle.bh_types.specs.declared.refusal.Refusal.TheVariants.{NoSuchLifecycleConfiguration, InvalidRequest, TenantExists, NoSuchTenant}
use Rattle.bh_types.specs.declared.refusal.Refusal.TheVariants.{KeyExists, NoSuchKeyName, InvalidName, InvalidQuota}
use Rattle.bh_types.specs.declared.refusal.Refusal.TheVariants.{TenantNotEmpty, TenantRetained}
use Rattle.bh_types.specs.declared.rejection.Detail.{Detail}
use Rattle.bh_types.specs.declared.rejection.Detail.TheVariants.{Nothing, CurrentMarker, NamedMarker, ObjectSize}
use Rattle.bh_types.specs.declared.rejection.Rejection.{Rejection}
use Rattle.bh_types.specs.declared.wanted.Wanted.{Wanted}
use Rattle.bh_types.specs.declared.wanted.Wanted.TheVariants.{Current, Named, Unknown}
use Rattle.bh_model.specs.FinMaps.{is_empty, set_at, non_empty}
use Rattle.bh_model.specs.State.{Octets, Content, Content.Body, Entry, Bucket, State, absent, new_tenant, new_bucket}
use Rattle.bh_types.specs.Checksums.{checksum_text}
use Rattle.bh_types.specs.Outcomes.{◌>>=◌, require}
use Rattle.bh_types.specs.Ranges.{range_of, cut}
use Rattle.bh_types.specs.Rejections.{plainly, for_date}
use Rattle.bh_model.specs.Counting.{counts, with_counts, after_entry, after_delete}
use Rattle.bh_model.specs.Entries.{Version, LookupFault, has_id, is_version, added, deleted, new_id, lookup}
use Rattle.bh_model.specs.Pages.{ObjectsListed, VersionsListed, UploadsListed, PartsListed}
use Rattle.bh_model.specs.Parts.{is_checksum}
use Rattle.bh_model.specs.Quotas.{keeps_quota}
use Rattle.bh_model.specs.Retention.{keeps_versions, can_retain, date_of, named_date, may_go, with_date, without_date, may_retain}
use Rattle.bh_model.specs.Retention.{first_date, retains}
use Rattle.bh_model.specs.Usage.{Usage, usage_of}

-- the answer to what is not refused. It has an id if the bucket is or was versioned. `Removed` has
-- whether a marker was made or deleted. `Head` and `Object` have the whole object's size, `Object`
-- also the bytes of its plan. `Copied` has the moment of the copy. `Buckets` has the buckets with
-- their moments, ordered by name. `Objects`, `Versions` and `Uploads` have a page of a bucket's
-- objects, versions and uploads; `Parts` has a page of an upload's parts. `Lifecycle` has a
-- bucket's rule, `Retention` a version's date, `Used` what a tenant uses. `Keys` has the names of
-- its access keys, for operators alone. `Begun` and `Completed` name the object of an upload;
-- `Begun` has the moment at which the upload becomes stale, if its bucket has a rule
pub data Answer : Type 0 where
  Done : Answer
  Removed : (id : Option VersionId) (marker : Bool) → Answer
  Stored : (id : Option VersionId) (checksum : Octets) → Answer
  Copied : (id : Option VersionId) (moment : ℕ) (checksum : Octets) → Answer
  Head : (id : Option VersionId) (size : ℕ) (checksum : Octets) → Answer
  Object : (id : Option VersionId) (size : ℕ) (plan : RangePlan) (bytes checksum : Octets) → Answer
  Buckets : (buckets : List (Octets × ℕ)) → Answer
  Versioning : (mode : BucketState) → Answer
  Objects : (page : ObjectsListed) → Answer
  Versions : (page : VersionsListed) → Answer
  Uploads : (page : UploadsListed) → Answer
  Parts : (page : PartsListed) → Answer
  Lifecycle : (days : ℕ) → Answer
  Retention : (date : Option ℕ) → Answer
  Begun : (bucket key : Octets) (upload : UploadId) (abort : Option ℕ) → Answer
  PartStored : (checksum : Octets) → Answer
  Completed : (bucket key : Octets) (id : Option VersionId) (checksum : Octets) → Answer
  Used : (usage : Usage) → Answer
  Keys : (names : List Octets) → Answer

-- an answer, and the state afterwards
abbrev pub Outcome : Type 0
Outcome = Answer × Option State

-- Amazon S3 API Reference, PutObject: x-amz-version-id
abbrev pub id_told : BucketState → VersionId → Option VersionId
id_told Unversioned id = None
id_told Enabled id = Some id
id_told Suspended id = Some id

abbrev pub added_tenant : Option State → Result State Refusal
added_tenant s = ok_or s NoSuchTenant

abbrev pub bucket_of : Octets → State → Option (State × Bucket)
bucket_of name t = option_map (λ b. (t, b)) (get t.buckets name)

-- a tenant with its bucket of a name; a tenant that was not added has no bucket
abbrev pub tenant_bucket : Octets → Option State → Result (State × Bucket) Refusal
tenant_bucket name s = ok_or (option_and_then (bucket_of name) s) NoSuchBucket

abbrev pub with_bucket : Octets → Bucket → State → State
with_bucket name b t = record t { buckets = insert t.buckets name b }

-- a key's entries, and the bucket with these in their place
abbrev pub listed : Octets → Bucket → List Entry
listed key b = unwrap_or (get b.objects key) []

abbrev pub with_entries : Octets → List Entry → Bucket → Bucket
with_entries key entries b = record b { objects = set_at b.objects key (non_empty entries) }

-- the greatest quota is 2^60 bytes
abbrev pub add_tenant : Octets → ℕ → Option State → Result Outcome Refusal
add_tenant name quota s = do
  _ ← require (is_tenant_name name) InvalidName
  _ ← require (nat_le quota (2 ^ 60)) InvalidQuota
  _ ← require (is_none s) TenantExists
  Ok (Done, Some (new_tenant quota))

abbrev pub set_quota : Octets → ℕ → Option State → Result Outcome Refusal
set_quota name quota s = do
  _ ← require (is_tenant_name name) InvalidName
  _ ← require (nat_le quota (2 ^ 60)) InvalidQuota
  t ← added_tenant s
  Ok (Done, Some (record t { quota = quota }))

abbrev pub add_key : Octets → Octets → Octets → Option State → Result Outcome Refusal
add_key tenant name secret s = do
  _ ← require (is_tenant_name tenant && is_key_name name && is_secret secret) InvalidName
  t ← added_tenant s
  _ ← require (is_none (get t.keys name)) KeyExists
  Ok (Done, Some (record t { keys = insert t.keys name secret }))

abbrev pub remove_key : Octets → Octets → Option State → Result Outcome Refusal
remove_key tenant name s = do
  _ ← require (is_tenant_name tenant && is_key_name name) InvalidName
  t ← added_tenant s
  _ ← require (is_some (get t.keys name)) NoSuchKeyName
  Ok (Done, Some (record t { keys = remove t.keys name }))

-- all of the tenant goes: its buckets only if the command says so, and nothing while a version has
-- a date that isn't over. A tenant that is added by that name later is a new one
abbrev pub remove_tenant : ℕ → Octets → Bool → Option State → Result Outcome Refusal
remove_tenant moment name with_objects s = do
  _ ← require (is_tenant_name name) InvalidName
  t ← added_tenant s
  _ ← require (with_objects || is_empty t.buckets) TenantNotEmpty
  _ ← require (not (retains moment t)) TenantRetained
  Ok (Done, absent)

-- Amazon S3 API Reference, CreateBucket: x-amz-bucket-object-lock-enabled
abbrev pub create_bucket : ℕ → Octets → Bool → Option State → Result Outcome Refusal
create_bucket moment name locked s = do
  t ← added_tenant s
  _ ← require (is_none (get t.buckets name)) BucketAlreadyOwnedByYou
  Ok (Done, Some (with_bucket name (new_bucket moment locked) t))

-- Amazon S3 API Reference, HeadBucket
abbrev pub head_bucket : Octets → Option State → Result Outcome Refusal
head_bucket name s = do
  _ ← tenant_bucket name s
  Ok (Done, s)

-- Amazon S3 API Reference, DeleteBucket; a bucket with uploads isn't empty either
abbrev pub delete_bucket : Octets → Option State → Result Outcome Refusal
delete_bucket name s = do
  (t, b) ← tenant_bucket name s
  _ ← require (is_empty b.objects && is_empty b.uploads) BucketNotEmpty
  Ok (Removed None false, Some (record t { buckets = remove t.buckets name }))

-- a tenant's usage, for itself or for the operator
abbrev pub tell_usage : Option State → Result Outcome Refusal
tell_usage s = do
  t ← added_tenant s
  Ok (Used (usage_of t), s)

-- the operator's command names the tenant
abbrev pub show_usage : Octets → Option State → Result Outcome Refusal
show_usage name s = do
  _ ← require (is_tenant_name name) InvalidName
  tell_usage s

-- the names of a tenant's access keys, in byte order, without their secrets
abbrev pub key_names : State → List Octets
key_names t = map (λ e. e.0) (entries t.keys)

abbrev pub tell_keys : Option State → Result Outcome Refusal
tell_keys s = do
  t ← added_tenant s
  Ok (Keys (key_names t), s)

-- the operator's command names the tenant
abbrev pub show_keys : Octets → Option State → Result Outcome Refusal
show_keys name s = do
  _ ← require (is_tenant_name name) InvalidName
  tell_keys s

abbrev pub bucket_list : State → List (Octets × ℕ)
bucket_list t = map (λ e. (e.0, e.1.created)) (entries t.buckets)

-- Amazon S3 API Reference, ListBuckets
abbrev pub list_buckets : Option State → Result Outcome Refusal
list_buckets s = Ok (Buckets (option_map_or bucket_list s []), s)

-- Amazon S3 API Reference, GetBucketVersioning
abbrev pub get_versioning : Octets → Option State → Result Outcome Refusal
get_versioning name s = do
  (_, b) ← tenant_bucket name s
  Ok (Versioning b.mode, s)

-- Amazon S3 API Reference, PutBucketVersioning
abbrev pub put_versioning : Octets → BucketState → Option State → Result Outcome Refusal
put_versioning name mode s = do
  (t, b) ← tenant_bucket name s
  _ ← require (keeps_versions b.locked mode) InvalidBucketState
  Ok (Done, Some (with_bucket name (record b { mode = mode }) t))

-- Amazon S3 API Reference, GetBucketLifecycleConfiguration
abbrev pub get_lifecycle : Octets → Option State → Result Outcome Refusal
get_lifecycle name s = do
  (_, b) ← tenant_bucket name s
  days ← ok_or b.days NoSuchLifecycleConfiguration
  Ok (Lifecycle days, s)

-- the rule also applies to earlier uploads
-- Amazon S3 API Reference, PutBucketLifecycleConfiguration
abbrev pub put_lifecycle : Octets → ℕ → Option State → Result Outcome Refusal
put_lifecycle name days s = do
  (t, b) ← tenant_bucket name s
  Ok (Done, Some (with_bucket name (record b { days = Some days }) t))

-- a bucket without a rule doesn't change
-- Amazon S3 API Reference, DeleteBucketLifecycle
abbrev pub delete_lifecycle : Octets → Option State → Result Outcome Refusal
delete_lifecycle name s = do
  (t, b) ← tenant_bucket name s
  Ok (Removed None false, Some (with_bucket name (record b { days = None }) t))

-- the bucket with a new entry in front of its key's, whose id depends on the next version number
abbrev pub with_content : ℕ → Octets → ℕ → Content → Bucket → Bucket
with_content moment key next content b = with_entries key (added b.mode next moment content (listed key b)) b

-- the bucket with a new object
abbrev pub with_object : ℕ → Octets → ℕ → Octets → Bucket → Bucket
with_object moment key next bytes b = with_content moment key next (Body bytes (checksum_text bytes)) b

abbrev pub stored : Octets → ℕ → Bucket → Answer
stored bytes next b = Stored (id_told b.mode (new_id b.mode next)) (checksum_text bytes)

-- a change of a bucket is refused if it takes its tenant above the quota
abbrev pub require_quota : Octets → Bucket → State → Result (Unit {0}) Refusal
require_quota name b t = require (keeps_quota t (with_bucket name b t)) QuotaExceeded

-- the bucket with a date for its newest version, which got the next version number
abbrev pub with_new_date : Octets → ℕ → Option ℕ → Bucket → Bucket
with_new_date key next date b = with_date key (new_id b.mode next) date b

-- `given` is the checksum in the request, and `date` the date until which the version is retained,
-- if the request has them
-- Amazon S3 API Reference, PutObject
abbrev pub put_object : ℕ → Octets → Octets → Octets → Option Octets → Option (Option ℕ) → Option State → Result Outcome Refusal
put_object moment name key bytes given date s = do
  (t, b) ← tenant_bucket name s
  _ ← require (is_checksum given bytes) BadDigest
  until ← first_date b.locked date moment
  _ ← require_quota name (with_object moment key t.next_version bytes b) t
  c ← after_entry b.mode (counts t)
  Ok (
    stored bytes t.next_version b,
    Some (with_bucket name (with_new_date key t.next_version until
        (with_object moment key t.next_version bytes b)) (with_counts c t)),
  )

-- which delete marker was found, by how the request names its version
abbrev pub marker_met : Refusal → Detail
marker_met MethodNotAllowed = NamedMarker
marker_met refusal = CurrentMarker

-- a lookup that found no object returns whether it met a delete marker
abbrev pub not_found : LookupFault → Rejection
not_found fault = record { refusal = fault.refusal; detail = if fault.marker then marker_met fault.refusal else Nothing }

-- the version of a key in the request
abbrev pub found_version : Octets → Wanted → Bucket → Result Version Rejection
found_version key wanted b = result_map_both (λ v. v) not_found (lookup wanted (listed key b))

-- with its bucket
abbrev pub wanted_version : Octets → Octets → Wanted → Option State → Result (Bucket × Version) Rejection
wanted_version name key wanted s = do
  (_, b) ← plainly (tenant_bucket name s)
  v ← found_version key wanted b
  Ok (b, v)

-- a delete marker can't be the source of a copy: if it is named by its id, the request is invalid
abbrev pub source_refusal : Refusal → Refusal
source_refusal MethodNotAllowed = InvalidRequest
source_refusal refusal = refusal

-- the source version of a copy
abbrev pub source_version : Octets → Octets → Wanted → Option State → Result Version Refusal
source_version name key wanted s =
    result_map_both (λ (f : Bucket × Version). f.1) (λ (rejection : Rejection). source_refusal rejection.refusal)
    (wanted_version name key wanted s)

-- the bucket with a copy of a version, which has the version's bytes and the text of its checksum
abbrev pub with_copy : ℕ → Octets → ℕ → Version → Bucket → Bucket
with_copy moment key next v b = with_content moment key next (Body v.bytes v.checksum) b

abbrev pub copied : ℕ → Version → ℕ → Bucket → Answer
copied moment v next b = Copied (id_told b.mode (new_id b.mode next)) moment v.checksum

-- the bucket and the key that the copy goes to, and then those that it comes from. The moment and
-- the id are those of a new version of the first bucket, and so is the date: the source's date is
-- not copied
-- Amazon S3 API Reference, CopyObject
abbrev pub copy_object : ℕ → Octets → Octets → Octets → Octets → Wanted → Option (Option ℕ) → Option State → Result Outcome Refusal
copy_object moment name key source_name source_key wanted date s = do
  (t, b) ← tenant_bucket name s
  v ← source_version source_name source_key wanted s
  until ← first_date b.locked date moment
  _ ← require_quota name (with_copy moment key t.next_version v b) t
  c ← after_entry b.mode (counts t)
  Ok (
    copied moment v t.next_version b,
    Some (with_bucket name (with_new_date key t.next_version until
        (with_copy moment key t.next_version v b)) (with_counts c t)),
  )

-- if a range has none of the object's bytes, the refusal has the object's size
abbrev pub out_of_range : ℕ → Refusal → Rejection
out_of_range size refusal = record { refusal = refusal; detail = ObjectSize size }

abbrev pub planned : Option Octets → ℕ → Result RangePlan Rejection
planned range size = result_map_both (λ plan. plan) (out_of_range size) (range_of range size)

abbrev pub shown : Bucket → Version → RangePlan → Answer
shown b v plan = Object (id_told b.mode v.id) (length v.bytes) plan (cut plan v.bytes) v.checksum

-- `range` is the text of the request's field Range, if it has one
-- Amazon S3 API Reference, GetObject
abbrev pub get_object : Octets → Octets → Wanted → Option Octets → Option State → Result Outcome Rejection
get_object name key wanted range s = do
  (b, v) ← wanted_version name key wanted s
  plan ← planned range (length v.bytes)
  Ok (shown b v plan, s)

-- a range is ignored
-- Amazon S3 API Reference, HeadObject
abbrev pub head_object : Octets → Octets → Wanted → Option State → Result Outcome Rejection
head_object name key wanted s = do
  (b, v) ← wanted_version name key wanted s
  Ok (Head (id_told b.mode v.id) (length v.bytes) v.checksum, s)

-- ---- the answer to a delete: the id of the marker that it made, or of the entry that it deleted
-- by its id

abbrev pub removed_current : BucketState → ℕ → Answer
removed_current Unversioned next = Removed None false
removed_current Enabled next = Removed (Some (new_id Enabled next)) true
removed_current Suspended next = Removed (Some (new_id Suspended next)) true

abbrev pub removed_named : BucketState → Option Entry → Answer
removed_named mode None = Removed None false
removed_named mode (Some e) = Removed (id_told mode e.id) (not (is_version e))

abbrev pub removed : BucketState → Wanted → ℕ → List Entry → Answer
removed mode Current next entries = removed_current mode next
removed mode (Named id) next entries = removed_named mode (find (has_id id) entries)
removed mode Unknown next entries = Removed None false

-- the bucket after a delete of a key
abbrev pub with_deleted : ℕ → Octets → Wanted → ℕ → Bucket → Bucket
with_deleted moment key wanted next b = without_date key wanted (with_entries key (deleted b.mode wanted next moment (listed key b)) b)

-- Amazon S3 API Reference, DeleteObject
abbrev pub delete_object : ℕ → Octets → Octets → Wanted → Option State → Result Outcome Refusal
delete_object moment name key wanted s = do
  (t, b) ← tenant_bucket name s
  _ ← require (may_go (named_date key wanted b) moment) AccessDenied
  c ← after_delete b.mode wanted (counts t)
  Ok (
    removed b.mode wanted t.next_version (listed key b),
    Some
        (with_bucket name (with_deleted moment key wanted t.next_version b) (with_counts c t)),
  )

-- ---- retention

-- a version without a date returns none, in a locked bucket or not
-- Amazon S3 API Reference, GetObjectRetention
abbrev pub get_retention : Octets → Octets → Wanted → Option State → Result Outcome Rejection
get_retention name key wanted s = do
  (b, v) ← for_date (wanted_version name key wanted s)
  Ok (Retention (date_of key v.id b), s)

-- Amazon S3 API Reference, PutObjectRetention
abbrev pub put_retention : ℕ → Octets → Octets → Wanted → ℕ → Option State → Result Outcome Rejection
put_retention moment name key wanted date s = do
  (t, b) ← plainly (tenant_bucket name s)
  v ← for_date (found_version key wanted b)
  _ ← plainly (may_retain (can_retain b.locked v.id) (date_of key v.id b) (Some date) moment)
  Ok (Done, Some (with_bucket name (with_date key v.id (Some date) b) t))
