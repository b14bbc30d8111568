-- How a step of the machine may be refused.
use Rattle.std.proofs.Common.{◌≡◌, ℕ, Bool, true, false, cond, codes, List, Option, Some, None, Ok, Err, Result, refl, sym, subst, rules, IfErr, inl, inr, ℤ, pos, negsuc, ◌+◌, map, nat_cmp}
use Rattle.std.specs.Prelude.{ok_or, unwrap_or, option_map, bytes_eq, nat_le, nat_lt, min, ◌-◌, [], ◌∷◌, length, ◌&&◌, ◌||◌, not, ◌^◌, is_none, is_some, option_and_then}
use Rattle.std.specs.FinMap.{get, FinMap}
use Rattle.std.specs.List.{find}
use Rattle.std.specs.Result.{result_map_both}
use Rattle.std.proofs.lemmas.Bool.{cases_Bool}
use Rattle.bh_types.specs.Counts.{Counts}
use Rattle.bh_types.specs.Limits.{HostLimits}
use Rattle.bh_types.specs.Moments.{moment_of}
use Rattle.bh_types.specs.Names.{is_tenant_name, is_key_name, is_secret}
use Rattle.bh_types.specs.Outcomes.{◌>>=◌, require}
use Rattle.bh_types.specs.Ranges.{Asked as Range, Between, From, Last, asked_in, part, planned_if_asked, range_of}
use Rattle.bh_types.specs.Refusing.{RefusedOnly}
use Rattle.bh_types.specs.Rejections.{plain, plainly, for_date}
use Rattle.bh_types.specs.declared.access_key.AccessKeyId.{AccessKeyId}
use Rattle.bh_types.specs.declared.bucket_state.BucketState.{BucketState}
use Rattle.bh_types.specs.declared.bucket_state.BucketState.TheVariants.{Unversioned, Enabled, Suspended}
use Rattle.bh_types.specs.declared.id.UploadId.{UploadId}
use Rattle.bh_types.specs.declared.range.RangePlan.{RangePlan}
use Rattle.bh_types.specs.declared.wanted.Wanted.{Wanted}
use Rattle.bh_types.specs.declared.wanted.Wanted.TheVariants.{Current, Named, Unknown}
use Rattle.bh_types.specs.declared.refusal.Refusal.{Refusal}
use Rattle.bh_types.specs.declared.refusal.Refusal.TheVariants.{BadRequest, NotImplemented, MissingContentLength, EntityTooLarge, AccessDenied, InvalidAccessKeyId, InvalidUri, InvalidBucketName, KeyTooLong, InvalidArgument, MalformedJson, NoSuchBucket, NoSuchKey, NoSuchVersion, NoSuchUpload, MethodNotAllowed, BucketAlreadyOwnedByYou, BucketNotEmpty, InvalidBucketState, NoSuchLifecycleConfiguration, InvalidPart, InvalidPartOrder, EntityTooSmall, QuotaExceeded, InvalidRange, BadDigest, IncompleteBody, InvalidRequest, CounterExhausted, ClockOutOfRange, ServiceUnavailable, TenantExists, NoSuchTenant, KeyExists, NoSuchKeyName, InvalidName, InvalidQuota, NotAHostFile, Unavailable, TenantNotEmpty, TenantRetained}
use Rattle.bh_types.specs.declared.rejection.Rejection.{Rejection}
use Rattle.bh_types.proofs.Refusing.{then_only, if_only, require_only, ok_or_only, weaker_only}
use Rattle.bh_docs.specs.Requests.{or_malformed, ranged, document_end, document_of, versioning_of, in_range, in_ranges, complete_of, lifecycle_of, date_told, retention_of}
use Rattle.bh_docs.specs.Shapes.{Part as Shape, data_of, versioning_shape, complete_shape, lifecycle_shape, retention_shape}
use Rattle.bh_event.specs.Events.{Order, AddTenant, SetQuota, RemoveTenant, AddKey, RemoveKey, ShowUsage, ShowKeys, Message, Requested, Ordered, SweepOrdered, ReportOrdered, TenantsOrdered}
use Rattle.bh_http.specs.Credentials.{key_field, secret_field, secret_of_both, secret_given, key_given}
use Rattle.bh_http.specs.Fields.{Occurrence, Missing, Once, Repeated}
use Rattle.bh_http.specs.Refused.{is_reading_refusal}
use Rattle.bh_http.specs.Views.{Taken}
use Rattle.bh_http.proofs.Refused.{reads_only}
use Rattle.bh_model.specs.Counting.{counts, can_give, can_number, after_entry, after_delete}
use Rattle.bh_model.specs.Credentials.{authenticate, secret_of}
use Rattle.bh_model.specs.Entries.{Version, LookupFault, has_id, lookup, opened, found_named}
use Rattle.bh_model.specs.FinMaps.{is_empty}
use Rattle.bh_model.specs.Operations.{Outcome, added_tenant, tenant_bucket, with_bucket, listed, not_found, wanted_version, source_refusal, source_version, out_of_range, planned, tell_usage, create_bucket, head_bucket, delete_bucket, get_versioning, with_object, with_copy, require_quota, put_object, copy_object, get_object, head_object, delete_object, get_lifecycle, delete_lifecycle, found_version, get_retention, tell_keys}
use Rattle.bh_model.specs.Parts.{Naming, ascends, is_checksum, checked, choice, chosen, are_large, completed}
use Rattle.bh_model.specs.Quotas.{keeps_quota}
use Rattle.bh_model.specs.Retention.{keeps_versions, can_retain, date_of, named_date, may_go, may_retain, first_date, retains}
use Rattle.bh_model.specs.Runs.{settled, purged_tenant}
use Rattle.bh_model.specs.State.{Octets, Content, Content.Marker, Content.Body, Entry, Part, Bucket, State}
use Rattle.bh_model.specs.Uploads.{found_upload, find_upload, after_begin, after_part, with_stored, create_upload, upload_part, complete_upload, abort_upload}
use Rattle.bh_operation.specs.Operations.{operation}
use Rattle.bh_operation.specs.Refused.{is_operation_refusal}
use Rattle.bh_operation.specs.declared.operation.Operation.{Operation}
use Rattle.bh_operation.specs.declared.operation.Operation.TheVariants as op
use Rattle.bh_operation.specs.declared.operation.BareOperation.{BareOperation}
use Rattle.bh_operation.specs.declared.operation.BareOperation.TheVariants as bare
use Rattle.bh_operation.specs.declared.operation.ServiceOperation.{ServiceOperation}
use Rattle.bh_operation.specs.declared.operation.ServiceOperation.TheVariants.{ListBuckets, Usage}
use Rattle.bh_operation.specs.declared.operation.BucketOperation.{BucketOperation}
use Rattle.bh_operation.specs.declared.operation.BucketOperation.TheVariants.{CreateBucket, HeadBucket, DeleteBucket, GetBucketVersioning}
use Rattle.bh_operation.specs.declared.operation.ListingOperation.{ListingOperation}
use Rattle.bh_operation.specs.declared.operation.ListingOperation.TheVariants.{ListObjectsV2, ListObjectVersions, ListMultipartUploads}
use Rattle.bh_operation.specs.declared.operation.LifecycleOperation.{LifecycleOperation}
use Rattle.bh_operation.specs.declared.operation.LifecycleOperation.TheVariants.{GetLifecycle, DeleteLifecycle}
use Rattle.bh_operation.specs.declared.operation.UploadOperation.{UploadOperation}
use Rattle.bh_operation.specs.declared.operation.UploadOperation.TheVariants.{CreateMultipartUpload, ListParts, AbortMultipartUpload}
use Rattle.bh_operation.specs.declared.operation.ObjectOperation.{ObjectOperation}
use Rattle.bh_operation.specs.declared.operation.ObjectOperation.TheVariants.{CopyObject, HeadObject, DeleteObject, GetRetention}
use Rattle.bh_operation.specs.declared.operation.DocumentOperation.{DocumentOperation}
use Rattle.bh_operation.specs.declared.operation.DocumentOperation.TheVariants.{PutBucketVersioning, PutLifecycle, CompleteMultipartUpload, PutRetention}
use Rattle.bh_operation.specs.declared.operation.StoreOperation.{StoreOperation}
use Rattle.bh_operation.specs.declared.operation.StoreOperation.TheVariants.{PutObject, UploadPart}
use Rattle.bh_operation.proofs.Refused.{operation_only}
use Rattle.bh_model.specs.Listings.{objects_listed, list_objects, versions_listed, list_versions, uploads_listed, list_uploads, parts_listed, list_parts}
use Rattle.bh_machine.specs.Machine.{Act, Acted, page_asked, place_asked, upload_asked, set_versioning, service_operated, bucket_operated, listing_operated, lifecycle_operated, upload_operated, object_operated, bare_operated, document_operated, store_operated, operated, requested, asked, ordered, change, naming, finish_upload, set_lifecycle, set_retention}
use Rattle.bh_machine.specs.Refused.{StepRefusals, is_step_refusal as may}

abbrev Only : {X : Type 0} → Result X Refusal → Type 0
Only r = RefusedOnly may r

-- the same of refusals with what they tell
abbrev MaySay : {X : Type 0} → Result X Rejection → Type 0
MaySay r = IfErr r (λ (rejection : Rejection). may rejection.refusal ≡ true)

both_ways : (b : Bool) → b ≡ true → b ≡ false → ⊥
both_ways b t f = search rules

-- a refusal that passes a test is a step's, where those of the fixed replies don't pass it
step_refusal : (test : Refusal → Bool) → test ClockOutOfRange ≡ false → test ServiceUnavailable ≡ false → test Unavailable ≡ false
    → (refusal : Refusal) → test refusal ≡ true → may refusal ≡ true
step_refusal test clock service wanting BadRequest is = refl
step_refusal test clock service wanting NotImplemented is = refl
step_refusal test clock service wanting MissingContentLength is = refl
step_refusal test clock service wanting EntityTooLarge is = refl
step_refusal test clock service wanting AccessDenied is = refl
step_refusal test clock service wanting InvalidAccessKeyId is = refl
step_refusal test clock service wanting InvalidUri is = refl
step_refusal test clock service wanting InvalidBucketName is = refl
step_refusal test clock service wanting KeyTooLong is = refl
step_refusal test clock service wanting InvalidArgument is = refl
step_refusal test clock service wanting MalformedJson is = refl
step_refusal test clock service wanting NoSuchBucket is = refl
step_refusal test clock service wanting NoSuchKey is = refl
step_refusal test clock service wanting NoSuchVersion is = refl
step_refusal test clock service wanting NoSuchUpload is = refl
step_refusal test clock service wanting MethodNotAllowed is = refl
step_refusal test clock service wanting BucketAlreadyOwnedByYou is = refl
step_refusal test clock service wanting BucketNotEmpty is = refl
step_refusal test clock service wanting InvalidBucketState is = refl
step_refusal test clock service wanting NoSuchLifecycleConfiguration is = refl
step_refusal test clock service wanting InvalidPart is = refl
step_refusal test clock service wanting InvalidPartOrder is = refl
step_refusal test clock service wanting EntityTooSmall is = refl
step_refusal test clock service wanting QuotaExceeded is = refl
step_refusal test clock service wanting InvalidRange is = refl
step_refusal test clock service wanting BadDigest is = refl
step_refusal test clock service wanting IncompleteBody is = refl
step_refusal test clock service wanting InvalidRequest is = refl
step_refusal test clock service wanting CounterExhausted is = refl
step_refusal test clock service wanting ClockOutOfRange is = absurd (both_ways (test ClockOutOfRange) is clock)
step_refusal test clock service wanting ServiceUnavailable is = absurd (both_ways (test ServiceUnavailable) is service)
step_refusal test clock service wanting TenantExists is = refl
step_refusal test clock service wanting NoSuchTenant is = refl
step_refusal test clock service wanting KeyExists is = refl
step_refusal test clock service wanting NoSuchKeyName is = refl
step_refusal test clock service wanting InvalidName is = refl
step_refusal test clock service wanting InvalidQuota is = refl
step_refusal test clock service wanting NotAHostFile is = refl
step_refusal test clock service wanting TenantNotEmpty is = refl
step_refusal test clock service wanting TenantRetained is = refl
step_refusal test clock service wanting Unavailable is = absurd (both_ways (test Unavailable) is wanting)

plainly_told : {X : Type 0} (r : Result X Refusal) → Only r → MaySay (plainly r)
plainly_told (Ok x) only = tt
plainly_told (Err e) only = only

then_told : {A B : Type 0} (r : Result A Rejection) (f : A → Result B Rejection) → MaySay r → ((x : A) → MaySay (f x)) → MaySay (r >>= f)
then_told (Ok x) f only next = next x
then_told (Err e) f only next = only

-- ---- a request

authentic_only : (key : AccessKeyId) (secret : Octets) (s : Option State) → Only (authenticate key secret s)
authentic_only key secret s =
    then_only may (ok_or key.name InvalidAccessKeyId) _ (ok_or_only may key.name InvalidAccessKeyId refl)
    (λ name. then_only may (ok_or (secret_of name s) InvalidAccessKeyId) _ (ok_or_only may (secret_of name s) InvalidAccessKeyId refl)
    (λ known. require_only may (bytes_eq secret known) AccessDenied refl))

numbers_only : (mode : BucketState) (c : Counts) → Only (after_entry mode c)
numbers_only mode c = elim (cases_Bool (can_number mode c)) [ inl yet ↦ rw yet tt | inr over ↦ rw over refl ]

both_only : (id secret : Occurrence) → Only (secret_of_both id secret)
both_only (Once id) (Once secret) = tt
both_only (Once id) Missing = refl
both_only (Once id) Repeated = refl
both_only Missing secret = refl
both_only Repeated secret = refl

abbrev fault_only : LookupFault → Type 0
fault_only fault = may fault.refusal ≡ true

opened_only : (refusal : Refusal) (e : Entry) (content : Content) → may refusal ≡ true → IfErr (opened refusal e content) fault_only
opened_only refusal e Marker only = only
opened_only refusal e (Body bytes checksum) only = tt

named_only : (found : Option Entry) → IfErr (found_named found) fault_only
named_only None = refl
named_only (Some e) = opened_only MethodNotAllowed e e.content refl

lookup_only : (wanted : Wanted) (entries : List Entry) → IfErr (lookup wanted entries) fault_only
lookup_only Current [] = refl
lookup_only Current (e ∷ older) = opened_only NoSuchKey e e.content refl
lookup_only (Named id) entries = named_only (find (has_id id) entries)
lookup_only Unknown entries = refl

not_found_told : {X : Type 0} (r : Result X LookupFault) → IfErr r fault_only → MaySay (result_map_both (λ (o : X). o) not_found r)
not_found_told (Ok x) h = tt
not_found_told (Err e) h = h

for_date_told : {X : Type 0} (r : Result X Rejection) → MaySay r → MaySay (for_date r)
for_date_told (Ok x) h = tt
for_date_told (Err e) h = h

found_bucket : (bucket : Octets) (s : Option State) → Only (tenant_bucket bucket s)
found_bucket bucket s = ok_or_only may _ NoSuchBucket refl

wanted_only : (bucket key : Octets) (wanted : Wanted) (s : Option State) → MaySay (wanted_version bucket key wanted s)
wanted_only bucket key wanted s =
    then_told (plainly (tenant_bucket bucket s)) _ (plainly_told (tenant_bucket bucket s) (found_bucket bucket s))
    (λ f. then_told (result_map_both (λ v. v) not_found (lookup wanted (listed key f.1))) _ (not_found_told (lookup wanted (listed key f.1)) (lookup_only wanted (listed key f.1))) (λ v. tt))

part_only : (has_bytes : Bool) (first last : ℕ) → Only (part has_bytes first last)
part_only true first last = tt
part_only false first last = refl

asked_plan_only : (size : ℕ) (asked : Option Range) → Only (planned_if_asked asked size)
asked_plan_only size None = tt
asked_plan_only size (Some (Between first last)) = part_only (nat_lt first size) first (min last (size - 1))
asked_plan_only size (Some (From first)) = part_only (nat_lt first size) first (size - 1)
asked_plan_only size (Some (Last count)) = part_only (nat_lt 0 (min count size)) (size - min count size) (size - 1)

range_only : (range : Option Octets) (size : ℕ) → Only (range_of range size)
range_only None size = tt
range_only (Some text) size = asked_plan_only size (asked_in text)

out_of_range_told : (size : ℕ) (r : Result RangePlan Refusal) → Only r → MaySay (result_map_both (λ plan. plan) (out_of_range size) r)
out_of_range_told size (Ok plan) only = tt
out_of_range_told size (Err refusal) only = only

planned_only : (range : Option Octets) (size : ℕ) → MaySay (planned range size)
planned_only range size = out_of_range_told size (range_of range size) (range_only range size)

got_only : (bucket key : Octets) (wanted : Wanted) (range : Option Octets) (s : Option State) → MaySay (get_object bucket key wanted range s)
got_only bucket key wanted range s =
    then_told (wanted_version bucket key wanted s) _ (wanted_only bucket key wanted s)
    (λ f. then_told (planned range (length f.1.bytes)) _ (planned_only range (length f.1.bytes)) (λ plan. tt))

headed_only : (bucket key : Octets) (wanted : Wanted) (s : Option State) → MaySay (head_object bucket key wanted s)
headed_only bucket key wanted s = then_told (wanted_version bucket key wanted s) _ (wanted_only bucket key wanted s) (λ f. tt)

created_only : (now : ℕ) (bucket : Octets) (locked : Bool) (s : Option State) → Only (create_bucket now bucket locked s)
created_only now bucket locked s =
    then_only may (added_tenant s) _ (ok_or_only may s NoSuchTenant refl)
    (λ t. then_only may (require (is_none (get t.buckets bucket)) BucketAlreadyOwnedByYou) _ (require_only may (is_none (get t.buckets bucket)) BucketAlreadyOwnedByYou refl) (λ _. tt))

quota_only : (name : Octets) (b : Bucket) (t : State) → Only (require_quota name b t)
quota_only name b t = require_only may (keeps_quota t (with_bucket name b t)) QuotaExceeded refl

used_only : (s : Option State) → Only (tell_usage s)
used_only s = then_only may (added_tenant s) _ (ok_or_only may s NoSuchTenant refl) (λ t. tt)

keys_only : (s : Option State) → Only (tell_keys s)
keys_only s = then_only may (added_tenant s) _ (ok_or_only may s NoSuchTenant refl) (λ t. tt)

retained_only : (locked : Bool) (present date : Option ℕ) (now : ℕ) → Only (may_retain locked present date now)
retained_only locked present date now =
    then_only may (require locked InvalidRequest) _ (require_only may locked InvalidRequest refl)
    (λ _. then_only may (ok_or date InvalidArgument) _ (ok_or_only may date InvalidArgument refl)
    (λ until. then_only may (require (nat_lt now until) InvalidArgument) _ (require_only may (nat_lt now until) InvalidArgument refl)
    (λ _. require_only may (nat_le (unwrap_or present 0) until) AccessDenied refl)))

dated_only : (locked : Bool) (date : Option (Option ℕ)) (now : ℕ) → Only (first_date locked date now)
dated_only locked None now = tt
dated_only locked (Some date) now = then_only may (may_retain locked None date now) _ (retained_only locked None date now) (λ _. tt)

put_only : (now : ℕ) (bucket key body : Octets) (given : Option Octets) (date : Option (Option ℕ)) (s : Option State) → Only (put_object now bucket key body given date s)
put_only now bucket key body given date s =
    then_only may (tenant_bucket bucket s) _ (found_bucket bucket s)
    (λ f. then_only may (require (is_checksum given body) BadDigest) _ (require_only may (is_checksum given body) BadDigest refl)
    (λ _. then_only may (first_date f.1.locked date now) _ (dated_only f.1.locked date now)
    (λ until. then_only may (require_quota bucket (with_object now key f.0.next_version body f.1) f.0) _ (quota_only bucket (with_object now key f.0.next_version body f.1) f.0)
    (λ _. then_only may (after_entry f.1.mode (counts f.0)) _ (numbers_only f.1.mode (counts f.0)) (λ c. tt)))))

source_refusal_only : (refusal : Refusal) → may refusal ≡ true → may (source_refusal refusal) ≡ true
source_refusal_only BadRequest h = h
source_refusal_only NotImplemented h = h
source_refusal_only MissingContentLength h = h
source_refusal_only EntityTooLarge h = h
source_refusal_only AccessDenied h = h
source_refusal_only InvalidAccessKeyId h = h
source_refusal_only InvalidUri h = h
source_refusal_only InvalidBucketName h = h
source_refusal_only KeyTooLong h = h
source_refusal_only InvalidArgument h = h
source_refusal_only MalformedJson h = h
source_refusal_only NoSuchBucket h = h
source_refusal_only NoSuchKey h = h
source_refusal_only NoSuchVersion h = h
source_refusal_only NoSuchUpload h = h
source_refusal_only MethodNotAllowed h = refl
source_refusal_only BucketAlreadyOwnedByYou h = h
source_refusal_only BucketNotEmpty h = h
source_refusal_only InvalidBucketState h = h
source_refusal_only NoSuchLifecycleConfiguration h = h
source_refusal_only InvalidPart h = h
source_refusal_only InvalidPartOrder h = h
source_refusal_only EntityTooSmall h = h
source_refusal_only QuotaExceeded h = h
source_refusal_only InvalidRange h = h
source_refusal_only BadDigest h = h
source_refusal_only IncompleteBody h = h
source_refusal_only InvalidRequest h = h
source_refusal_only CounterExhausted h = h
source_refusal_only ClockOutOfRange h = h
source_refusal_only ServiceUnavailable h = h
source_refusal_only TenantExists h = h
source_refusal_only NoSuchTenant h = h
source_refusal_only KeyExists h = h
source_refusal_only NoSuchKeyName h = h
source_refusal_only InvalidName h = h
source_refusal_only InvalidQuota h = h
source_refusal_only NotAHostFile h = h
source_refusal_only TenantNotEmpty h = h
source_refusal_only TenantRetained h = h
source_refusal_only Unavailable h = h

source_told : {X : Type 0} (r : Result (X × Version) Rejection) → MaySay r
    → Only (result_map_both (λ (f : X × Version). f.1) (λ (rejection : Rejection). source_refusal rejection.refusal) r)
source_told (Ok f) only = tt
source_told (Err rejection) only = source_refusal_only rejection.refusal only

copied_only : (now : ℕ) (bucket key source_bucket source_key : Octets) (wanted : Wanted) (date : Option (Option ℕ)) (s : Option State)
    → Only (copy_object now bucket key source_bucket source_key wanted date s)
copied_only now bucket key source_bucket source_key wanted date s =
    then_only may (tenant_bucket bucket s) _ (found_bucket bucket s)
    (λ f. then_only may (source_version source_bucket source_key wanted s) _ (source_told (wanted_version source_bucket source_key wanted s) (wanted_only source_bucket source_key wanted s))
    (λ v. then_only may (first_date f.1.locked date now) _ (dated_only f.1.locked date now)
    (λ until. then_only may (require_quota bucket (with_copy now key f.0.next_version v f.1) f.0) _ (quota_only bucket (with_copy now key f.0.next_version v f.1) f.0)
    (λ _. then_only may (after_entry f.1.mode (counts f.0)) _ (numbers_only f.1.mode (counts f.0)) (λ c. tt)))))

delete_numbers_only : (mode : BucketState) (wanted : Wanted) (c : Counts) → Only (after_delete mode wanted c)
delete_numbers_only Unversioned Current c = tt
delete_numbers_only Enabled Current c = numbers_only Enabled c
delete_numbers_only Suspended Current c = numbers_only Suspended c
delete_numbers_only mode (Named id) c = tt
delete_numbers_only mode Unknown c = tt

deleted_only : (now : ℕ) (bucket key : Octets) (wanted : Wanted) (s : Option State) → Only (delete_object now bucket key wanted s)
deleted_only now bucket key wanted s =
    then_only may (tenant_bucket bucket s) _ (found_bucket bucket s)
    (λ f. then_only may (require (may_go (named_date key wanted f.1) now) AccessDenied) _ (require_only may (may_go (named_date key wanted f.1) now) AccessDenied refl)
    (λ _. then_only may (after_delete f.1.mode wanted (counts f.0)) _ (delete_numbers_only f.1.mode wanted (counts f.0)) (λ c. tt)))

bucket_only : (bucket : Octets) (s : Option State) (f : State × Bucket → Result Outcome Refusal) → ((found : State × Bucket) → Only (f found)) → Only (tenant_bucket bucket s >>= f)
bucket_only bucket s f next = then_only may (tenant_bucket bucket s) f (found_bucket bucket s) next

bucket_gone_only : (bucket : Octets) (s : Option State) → Only (delete_bucket bucket s)
bucket_gone_only bucket s =
    bucket_only bucket s _
    (λ f. then_only may (require (is_empty f.1.objects && is_empty f.1.uploads) BucketNotEmpty) _ (require_only may (is_empty f.1.objects && is_empty f.1.uploads) BucketNotEmpty refl) (λ _. tt))

or_malformed_only : {A : Type 0} (o : Option A) → Only (or_malformed o)
or_malformed_only None = refl
or_malformed_only (Some a) = tt

document_only : (body : Octets) → Only (document_of body)
document_only body = elim (nat_le (length body) document_end) as (λ b. Only (cond b (or_malformed (data_of body)) (Err MalformedJson))) [
  | true ↦ or_malformed_only (data_of body)
  | false ↦ refl
]

versioning_only : (body : Octets) → Only (versioning_of body)
versioning_only body = then_only may (document_of body) _ (document_only body) (λ document. or_malformed_only (versioning_shape document))

set_only : (bucket body : Octets) (s : Option State) → Only (set_versioning bucket body s)
set_only bucket body s = then_only may (versioning_of body) _ (versioning_only body) (λ mode. bucket_only bucket s _
    (λ f. then_only may (require (keeps_versions f.1.locked mode) InvalidBucketState) _ (require_only may (keeps_versions f.1.locked mode) InvalidBucketState refl) (λ _. tt)))

-- ---- retention

told_only : (mode date : Octets) → Only (date_told (mode, date))
told_only mode date = elim (bytes_eq mode (codes "COMPLIANCE")) as (λ b. Only (cond b (ok_or (moment_of date) InvalidArgument) (Err InvalidArgument))) [
  | true ↦ ok_or_only may (moment_of date) InvalidArgument refl
  | false ↦ refl
]

retention_only : (body : Octets) → Only (retention_of body)
retention_only body =
    then_only may (document_of body) _ (document_only body)
    (λ document. then_only may (or_malformed (retention_shape document)) _ (or_malformed_only (retention_shape document)) (λ told. told_only told.0 told.1))

retention_set_only : (now : ℕ) (bucket key : Octets) (wanted : Wanted) (body : Octets) (s : Option State) → MaySay (set_retention now bucket key wanted body s)
retention_set_only now bucket key wanted body s =
    then_told (plainly (retention_of body)) _ (plainly_told (retention_of body) (retention_only body))
    (λ date. then_told (plainly (tenant_bucket bucket s)) _ (plainly_told (tenant_bucket bucket s) (found_bucket bucket s))
    (λ f. then_told (for_date (found_version key wanted f.1)) _ (for_date_told (found_version key wanted f.1) (not_found_told (lookup wanted (listed key f.1)) (lookup_only wanted (listed key f.1))))
    (λ v. then_told (plainly (may_retain (can_retain f.1.locked v.id) (date_of key v.id f.1) (Some date) now)) _ (plainly_told (may_retain (can_retain f.1.locked v.id) (date_of key v.id f.1) (Some date) now) (retained_only (can_retain f.1.locked v.id) (date_of key v.id f.1) (Some date) now))
    (λ _. tt))))

retention_told_only : (bucket key : Octets) (wanted : Wanted) (s : Option State) → MaySay (get_retention bucket key wanted s)
retention_told_only bucket key wanted s = then_told (for_date (wanted_version bucket key wanted s)) _ (for_date_told (wanted_version bucket key wanted s) (wanted_only bucket key wanted s)) (λ f. tt)

-- ---- uploads

upload_found : (bucket key : Octets) (upload : Option UploadId) (s : Option State) → Only (find_upload bucket key upload s)
upload_found bucket key upload s =
    then_only may (tenant_bucket bucket s) _ (found_bucket bucket s) (λ f. ok_or_only may (found_upload key upload f.0 f.1) NoSuchUpload refl)

begun_only : (now : ℕ) (bucket key : Octets) (s : Option State) → Only (create_upload now bucket key s)
begun_only now bucket key s =
    bucket_only bucket s _
    (λ f. then_only may (after_begin (counts f.0)) _ (if_only may (can_give f.0.next_upload) (record (counts f.0) { upload = f.0.next_upload + 1 }) CounterExhausted refl) (λ c. tt))

part_stored_only : (now : ℕ) (bucket key : Octets) (upload : Option UploadId) (number : ℕ) (bytes : Octets) (given : Option Octets) (s : Option State)
    → Only (upload_part now bucket key upload number bytes given s)
part_stored_only now bucket key upload number bytes given s =
    then_only may (find_upload bucket key upload s) _ (upload_found bucket key upload s)
    (λ f. then_only may (require (is_checksum given bytes) BadDigest) _ (require_only may (is_checksum given bytes) BadDigest refl)
    (λ _. then_only may (require_quota bucket (with_stored f number (record { bytes = bytes; moment = now })) f.tenant) _
    (quota_only bucket (with_stored f number (record { bytes = bytes; moment = now })) f.tenant)
    (λ _. then_only may (after_part (counts f.tenant)) _ (if_only may (can_give f.tenant.next_entry) (record (counts f.tenant) { entry = f.tenant.next_entry + 1 }) CounterExhausted refl) (λ c. tt))))

chosen_only : (parts : FinMap nat_cmp Part) (names : List Naming) → Only (chosen parts names)
chosen_only parts [] = tt
chosen_only parts (n ∷ ns) =
    then_only may (choice parts n) _ (ok_or_only may (option_and_then (checked n.checksum) (get parts n.number)) InvalidPart refl)
    (λ p. then_only may (chosen parts ns) _ (chosen_only parts ns) (λ ps. tt))

joined_only : (least : ℕ) (parts : FinMap nat_cmp Part) (names : List Naming) → Only (completed least parts names)
joined_only least parts names =
    then_only may (require (ascends (map (λ n. n.number) names)) InvalidPartOrder) _ (require_only may (ascends (map (λ n. n.number) names)) InvalidPartOrder refl)
    (λ _. then_only may (chosen parts names) _ (chosen_only parts names)
    (λ ps. then_only may (require (are_large least ps) EntityTooSmall) _ (require_only may (are_large least ps) EntityTooSmall refl) (λ _. tt)))

completed_only : (now least : ℕ) (bucket key : Octets) (upload : Option UploadId) (names : List Naming) (s : Option State)
    → Only (complete_upload now least bucket key upload names s)
completed_only now least bucket key upload names s =
    then_only may (find_upload bucket key upload s) _ (upload_found bucket key upload s)
    (λ f. then_only may (completed least f.upload.parts names) _ (joined_only least f.upload.parts names)
    (λ content. then_only may (after_entry f.bucket.mode (counts f.tenant)) _ (numbers_only f.bucket.mode (counts f.tenant)) (λ c. tt)))

ranged_only : (low high : ℕ) (n : ℤ) → Only (ranged low high n)
ranged_only low high (pos n) = if_only may (nat_le low n && nat_le n high) n InvalidArgument refl
ranged_only low high (negsuc n) = refl

lifecycle_only : (body : Octets) → Only (lifecycle_of body)
lifecycle_only body =
    then_only may (document_of body) _ (document_only body)
    (λ document. then_only may (or_malformed (lifecycle_shape document)) _ (or_malformed_only (lifecycle_shape document)) (λ days. ranged_only 1 3650 days))

rule_set_only : (bucket body : Octets) (s : Option State) → Only (set_lifecycle bucket body s)
rule_set_only bucket body s = then_only may (lifecycle_of body) _ (lifecycle_only body) (λ days. bucket_only bucket s _ (λ f. tt))

rule_only : (bucket : Octets) (s : Option State) → Only (get_lifecycle bucket s)
rule_only bucket s = bucket_only bucket s _ (λ f. then_only may (ok_or f.1.days NoSuchLifecycleConfiguration) _ (ok_or_only may f.1.days NoSuchLifecycleConfiguration refl) (λ days. tt))

in_ranges_only : (parts : List Shape) → Only (in_ranges parts)
in_ranges_only [] = tt
in_ranges_only (part ∷ rest) =
    then_only may (in_range part) _ (then_only may (ranged 1 10000 part.0) _ (ranged_only 1 10000 part.0) (λ number. tt))
    (λ first. then_only may (in_ranges rest) _ (in_ranges_only rest) (λ others. tt))

complete_only : (body : Octets) → Only (complete_of body)
complete_only body =
    then_only may (document_of body) _ (document_only body)
    (λ document. then_only may (or_malformed (complete_shape document)) _ (or_malformed_only (complete_shape document)) in_ranges_only)

finished_only : (limits : HostLimits) (now : ℕ) (bucket key : Octets) (upload : Option UploadId) (body : Octets) (s : Option State)
    → Only (finish_upload limits now bucket key upload body s)
finished_only limits now bucket key upload body s =
    then_only may (complete_of body) _ (complete_only body) (λ parts. completed_only now limits.min_part bucket key upload (map naming parts) s)

aborted_only : (bucket key : Octets) (upload : Option UploadId) (s : Option State) → Only (abort_upload bucket key upload s)
aborted_only bucket key upload s = then_only may (find_upload bucket key upload s) _ (upload_found bucket key upload s) (λ f. tt)

-- ---- operations

service_operated_only : (operation : ServiceOperation) (s : Option State) → MaySay (service_operated operation s)
unfolding service_operated
service_operated_only ListBuckets s = tt
service_operated_only Usage s = plainly_told (tell_usage s) (used_only s)

bucket_operated_only : (now : ℕ) (operation : BucketOperation) (s : Option State) → MaySay (bucket_operated now operation s)
unfolding bucket_operated
bucket_operated_only now (CreateBucket bucket locked) s = plainly_told (create_bucket now bucket locked s) (created_only now bucket locked s)
bucket_operated_only now (HeadBucket bucket) s = plainly_told (head_bucket bucket s) (bucket_only bucket s _ (λ f. tt))
bucket_operated_only now (DeleteBucket bucket) s = plainly_told (delete_bucket bucket s) (bucket_gone_only bucket s)
bucket_operated_only now (GetBucketVersioning bucket) s = plainly_told (get_versioning bucket s) (bucket_only bucket s _ (λ f. tt))

listing_operated_only : (operation : ListingOperation) (s : Option State) → MaySay (listing_operated operation s)
unfolding listing_operated
listing_operated_only (ListObjectsV2 bucket page token) s =
    plainly_told (list_objects bucket (page_asked page) token s) (then_only may (objects_listed bucket (page_asked page) token s) _ (then_only may (tenant_bucket bucket s) _ (found_bucket bucket s) (λ _. tt)) (λ _. tt))
listing_operated_only (ListObjectVersions bucket page after) s =
    plainly_told (list_versions bucket (page_asked page) (option_map place_asked after) s)
    (then_only may (versions_listed bucket (page_asked page) (option_map place_asked after) s) _ (then_only may (tenant_bucket bucket s) _ (found_bucket bucket s) (λ _. tt)) (λ _. tt))
listing_operated_only (ListMultipartUploads bucket page after) s =
    plainly_told (list_uploads bucket (page_asked page) (option_map upload_asked after) s)
    (then_only may (uploads_listed bucket (page_asked page) (option_map upload_asked after) s) _ (then_only may (tenant_bucket bucket s) _ (found_bucket bucket s) (λ _. tt)) (λ _. tt))

lifecycle_operated_only : (operation : LifecycleOperation) (s : Option State) → MaySay (lifecycle_operated operation s)
unfolding lifecycle_operated
lifecycle_operated_only (GetLifecycle bucket) s = plainly_told (get_lifecycle bucket s) (rule_only bucket s)
lifecycle_operated_only (DeleteLifecycle bucket) s = plainly_told (delete_lifecycle bucket s) (bucket_only bucket s _ (λ f. tt))

upload_operated_only : (now : ℕ) (operation : UploadOperation) (s : Option State) → MaySay (upload_operated now operation s)
unfolding upload_operated
upload_operated_only now (CreateMultipartUpload object) s = plainly_told (create_upload now object.bucket object.key s) (begun_only now object.bucket object.key s)
upload_operated_only now (ListParts object upload page) s =
    plainly_told (list_parts object.bucket object.key upload page.size page.after s)
    (then_only may (parts_listed object.bucket object.key upload page.size page.after s) _ (then_only may (find_upload object.bucket object.key upload s) _ (upload_found object.bucket object.key upload s) (λ _. tt)) (λ _. tt))
upload_operated_only now (AbortMultipartUpload object upload) s = plainly_told (abort_upload object.bucket object.key upload s) (aborted_only object.bucket object.key upload s)

object_operated_only : (now : ℕ) (operation : ObjectOperation) (s : Option State) → MaySay (object_operated now operation s)
unfolding object_operated
object_operated_only now (CopyObject object source date) s =
    plainly_told (copy_object now object.bucket object.key source.object.bucket source.object.key source.version date s)
    (copied_only now object.bucket object.key source.object.bucket source.object.key source.version date s)
object_operated_only now (HeadObject object version) s = headed_only object.bucket object.key version s
object_operated_only now (DeleteObject object version) s = plainly_told (delete_object now object.bucket object.key version s) (deleted_only now object.bucket object.key version s)
object_operated_only now (GetRetention object version) s = retention_told_only object.bucket object.key version s

document_operated_only : (limits : HostLimits) (now : ℕ) (body : Octets) (operation : DocumentOperation) (s : Option State) → MaySay (document_operated limits now body operation s)
unfolding document_operated
document_operated_only limits now body (PutBucketVersioning bucket) s = plainly_told (set_versioning bucket body s) (set_only bucket body s)
document_operated_only limits now body (PutLifecycle bucket) s = plainly_told (set_lifecycle bucket body s) (rule_set_only bucket body s)
document_operated_only limits now body (CompleteMultipartUpload object upload) s =
    plainly_told (finish_upload limits now object.bucket object.key upload body s) (finished_only limits now object.bucket object.key upload body s)
document_operated_only limits now body (PutRetention object version) s = retention_set_only now object.bucket object.key version body s

store_operated_only : (now : ℕ) (body : Octets) (operation : StoreOperation) (s : Option State) → MaySay (store_operated now body operation s)
unfolding store_operated
store_operated_only now body (PutObject object checksum date) s =
    plainly_told (put_object now object.bucket object.key body checksum date s) (put_only now object.bucket object.key body checksum date s)
store_operated_only now body (UploadPart object upload number checksum) s =
    plainly_told (upload_part now object.bucket object.key upload number body checksum s) (part_stored_only now object.bucket object.key upload number body checksum s)

bare_operated_only : (now : ℕ) (operation : BareOperation) (s : Option State) → MaySay (bare_operated now operation s)
unfolding bare_operated
bare_operated_only now (bare.Service operation) s = service_operated_only operation s
bare_operated_only now (bare.Bucket operation) s = bucket_operated_only now operation s
bare_operated_only now (bare.Listing operation) s = listing_operated_only operation s
bare_operated_only now (bare.Lifecycle operation) s = lifecycle_operated_only operation s
bare_operated_only now (bare.Upload operation) s = upload_operated_only now operation s
bare_operated_only now (bare.Object operation) s = object_operated_only now operation s

operated_only : (limits : HostLimits) (now : ℕ) (body : Octets) (operation : Operation) (s : Option State) → MaySay (operated limits now body operation s)
unfolding operated
operated_only limits now body (op.Bare operation) s = bare_operated_only now operation s
operated_only limits now body (op.ByDocument operation) s = document_operated_only limits now body operation s
operated_only limits now body (op.Store operation) s = store_operated_only now body operation s
operated_only limits now body (op.GetObject object version range) s = got_only object.bucket object.key version range s

requested_only : (limits : HostLimits) (now : ℕ) (request : Taken) (s : Option State) → MaySay (requested limits now request s)
requested_only limits now request s =
    then_told (plainly (secret_given request)) _ (plainly_told (secret_given request) (both_only (key_field request) (secret_field request)))
    (λ secret. then_told (ok_or (key_given request) (plain InvalidAccessKeyId)) _ (keyed_told (key_given request))
    (λ key. then_told (plainly (authenticate key secret s)) _ (plainly_told (authenticate key secret s) (authentic_only key secret s))
    (λ _. then_told (plainly (operation key.tenant request)) _ (plainly_told (operation key.tenant request) (asked_only key.tenant))
    (λ asked_for. operated_only limits now request.body asked_for s))))
  where
    keyed_told : (key : Option AccessKeyId) → MaySay (ok_or key (plain InvalidAccessKeyId))
    keyed_told None = refl
    keyed_told (Some key) = tt

    asked_only : (caller : Octets) → Only (operation caller request)
    asked_only caller = weaker_only is_operation_refusal may (step_refusal is_operation_refusal refl refl refl) (operation caller request) (operation_only caller request)

-- ---- an operator's command

ordered_only : (now : ℕ) (order : Order) (s : Option State) → Only (ordered now order s)
ordered_only now (AddTenant tenant quota) s =
    then_only may (require (is_tenant_name tenant) InvalidName) _ (require_only may (is_tenant_name tenant) InvalidName refl)
    (λ _. then_only may (require (nat_le quota (2 ^ 60)) InvalidQuota) _ (require_only may (nat_le quota (2 ^ 60)) InvalidQuota refl)
    (λ _. then_only may (require (is_none s) TenantExists) _ (require_only may (is_none s) TenantExists refl) (λ _. tt)))
ordered_only now (SetQuota tenant quota) s =
    then_only may (require (is_tenant_name tenant) InvalidName) _ (require_only may (is_tenant_name tenant) InvalidName refl)
    (λ _. then_only may (require (nat_le quota (2 ^ 60)) InvalidQuota) _ (require_only may (nat_le quota (2 ^ 60)) InvalidQuota refl)
    (λ _. then_only may (added_tenant s) _ (ok_or_only may s NoSuchTenant refl) (λ t. tt)))
ordered_only now (RemoveTenant tenant with_objects) s =
    then_only may (require (is_tenant_name tenant) InvalidName) _ (require_only may (is_tenant_name tenant) InvalidName refl)
    (λ _. then_only may (added_tenant s) _ (ok_or_only may s NoSuchTenant refl)
    (λ t. then_only may (require (with_objects || is_empty t.buckets) TenantNotEmpty) _ (require_only may (with_objects || is_empty t.buckets) TenantNotEmpty refl)
    (λ _. then_only may (require (not (retains now t)) TenantRetained) _ (require_only may (not (retains now t)) TenantRetained refl) (λ _. tt))))
ordered_only now (AddKey tenant name secret) s =
    then_only may (require (is_tenant_name tenant && is_key_name name && is_secret secret) InvalidName) _ (require_only may (is_tenant_name tenant && is_key_name name && is_secret secret) InvalidName refl)
    (λ _. then_only may (added_tenant s) _ (ok_or_only may s NoSuchTenant refl)
    (λ t. then_only may (require (is_none (get t.keys name)) KeyExists) _ (require_only may (is_none (get t.keys name)) KeyExists refl) (λ _. tt)))
ordered_only now (RemoveKey tenant name) s =
    then_only may (require (is_tenant_name tenant && is_key_name name) InvalidName) _ (require_only may (is_tenant_name tenant && is_key_name name) InvalidName refl)
    (λ _. then_only may (added_tenant s) _ (ok_or_only may s NoSuchTenant refl)
    (λ t. then_only may (require (is_some (get t.keys name)) NoSuchKeyName) _ (require_only may (is_some (get t.keys name)) NoSuchKeyName refl) (λ _. tt)))
ordered_only now (ShowUsage tenant) s = then_only may (require (is_tenant_name tenant) InvalidName) _ (require_only may (is_tenant_name tenant) InvalidName refl) (λ _. used_only s)
ordered_only now (ShowKeys tenant) s = then_only may (require (is_tenant_name tenant) InvalidName) _ (require_only may (is_tenant_name tenant) InvalidName refl) (λ _. keys_only s)

-- ---- an act

settled_told : {X : Type 0} (s : Option State) (o : Result (X × Option State) Rejection) → MaySay o → MaySay (settled s o).0
settled_told s (Ok a) only = tt
settled_told s (Err e) only = only

asked_told : (limits : HostLimits) (now : ℕ) (answer : Result Taken Refusal) (s : Option State) → RefusedOnly is_reading_refusal answer → MaySay (asked limits now answer s)
asked_told limits now (Ok request) s only = requested_only limits now request s
asked_told limits now (Err refusal) s only = step_refusal is_reading_refusal refl refl refl refusal only

change_told : (limits : HostLimits) (message : Message) (now : ℕ) (act : Act) (s : Option State) → Acted limits message act → MaySay (change limits now act s)
change_told limits (Requested bytes) now act s (answer, reads, is) = subst (λ a. MaySay (change limits now a s)) (sym is) (asked_told limits now answer s (reads_only limits bytes answer reads))
change_told limits (Ordered order) now act s is = subst (λ a. MaySay (change limits now a s)) (sym is) (plainly_told (ordered now order s) (ordered_only now order s))
change_told limits (SweepOrdered limit) now act s is = absurd is
change_told limits ReportOrdered now act s is = absurd is
change_told limits TenantsOrdered now act s is = absurd is

pub step_only : StepRefusals
step_only limits content now act s acted = settled_told (purged_tenant s now) (change limits now act (purged_tenant s now)) (change_told limits content now act (purged_tenant s now) acted)
