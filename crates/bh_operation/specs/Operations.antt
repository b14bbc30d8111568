-- The operation of a request, or its first refusal.
use Rattle.std.specs.Prelude.{ℕ, Bool, if◌then◌else◌, List, codes, Option, Some, None, option_and_then, Result, Ok, Err}
use Rattle.bh_types.specs.Outcomes.{◌>>=◌}
use Rattle.bh_types.specs.Ids.{upload_of}
use Rattle.bh_types.specs.declared.id.UploadId.{UploadId}
use Rattle.bh_types.specs.declared.wanted.Wanted.{Wanted}
use Rattle.bh_types.specs.declared.refusal.Refusal.{Refusal}
use Rattle.bh_types.specs.declared.refusal.Refusal.TheVariants.{InvalidArgument, NotImplemented, MethodNotAllowed}
use Rattle.bh_http.specs.Views.{Taken}
use Rattle.bh_operation.specs.Addresses.{bucket_named, object_named}
use Rattle.bh_operation.specs.Headers.{supported, lock_in, date_in, checksum_in, copy_source, range_in, stands}
use Rattle.bh_operation.specs.Methods.{method_of}
use Rattle.bh_operation.specs.Numbers.{part_number, wanted}
use Rattle.bh_operation.specs.Pages.{key_page, part_page, upload_page, second_version, token_of, version_marker, upload_marker}
use Rattle.bh_operation.specs.Queries.{parameters_in, selected, value_of, is_given}
use Rattle.bh_operation.specs.Sources.{source_in}
use Rattle.bh_operation.specs.Targets.{path_of, query_of, routed, target_at}
use Rattle.bh_operation.specs.declared.method.Method.{Method}
use Rattle.bh_operation.specs.declared.method.Method.TheVariants as method
use Rattle.bh_operation.specs.declared.operation.Operation.{Operation}
use Rattle.bh_operation.specs.declared.operation.Operation.TheVariants.{Bare, ByDocument, Store, GetObject}
use Rattle.bh_operation.specs.declared.operation.BareOperation.TheVariants.{Service, Bucket, Listing, Lifecycle, Upload, Object}
use Rattle.bh_operation.specs.declared.operation.ServiceOperation.TheVariants.{ListBuckets, Usage}
use Rattle.bh_operation.specs.declared.operation.BucketOperation.TheVariants.{CreateBucket, HeadBucket, DeleteBucket, GetBucketVersioning}
use Rattle.bh_operation.specs.declared.operation.ListingOperation.TheVariants.{ListObjectsV2, ListObjectVersions, ListMultipartUploads}
use Rattle.bh_operation.specs.declared.operation.LifecycleOperation.TheVariants.{GetLifecycle, DeleteLifecycle}
use Rattle.bh_operation.specs.declared.operation.UploadOperation.TheVariants.{CreateMultipartUpload, ListParts, AbortMultipartUpload}
use Rattle.bh_operation.specs.declared.operation.ObjectOperation.TheVariants.{CopyObject, HeadObject, DeleteObject, GetRetention}
use Rattle.bh_operation.specs.declared.operation.DocumentOperation.TheVariants.{PutBucketVersioning, PutLifecycle, CompleteMultipartUpload}
use Rattle.bh_operation.specs.declared.operation.DocumentOperation.TheVariants.{PutRetention}
use Rattle.bh_operation.specs.declared.operation.StoreOperation.TheVariants.{PutObject, UploadPart}
use Rattle.bh_operation.specs.declared.query.Parameter.{Parameter}
use Rattle.bh_operation.specs.declared.query.Selector.{Selector}
use Rattle.bh_operation.specs.declared.query.Selector.TheVariants as by
use Rattle.bh_operation.specs.declared.source.Source.{Source}
use Rattle.bh_operation.specs.declared.target.Target.{Target}
use Rattle.bh_operation.specs.declared.target.Target.TheVariants as target

-- a request's header fields, and a text
abbrev pub Fields : Type 0
Fields = List (List ℕ × List ℕ)

abbrev pub Octets : Type 0
Octets = List ℕ

-- the version in a request
abbrev pub version_in : List Parameter → Wanted
version_in parameters = wanted (value_of (codes "versionId") parameters)

-- the upload in a request, if its id can be one
abbrev pub upload_in : List Parameter → Option UploadId
upload_in parameters = option_and_then upload_of (value_of (codes "uploadId") parameters)

-- fifth step, for the host itself
-- Amazon S3 API Reference, ListBuckets; usage is this host's
unfoldable pub host_operation : Method → Option Selector → Result Operation Refusal
host_operation method.Get None = Ok (Bare (Service ListBuckets))
host_operation method.Get (Some by.Usage) = Ok (Bare (Service Usage))
host_operation m selector = Err MethodNotAllowed

-- sixth and seventh step: first the parameters and fields that an operation needs, and then the
-- names
-- Amazon S3 API Reference, ListObjectsV2
unfoldable pub list_objects : Octets → Octets → List Parameter → Result Operation Refusal
list_objects caller text parameters = do
  _ ← second_version parameters
  page ← key_page parameters
  token ← token_of parameters
  name ← bucket_named caller text
  Ok (Bare (Listing (ListObjectsV2 name page token)))

-- Amazon S3 API Reference, ListObjectVersions
unfoldable pub list_versions : Octets → Octets → List Parameter → Result Operation Refusal
list_versions caller text parameters = do
  page ← key_page parameters
  after ← version_marker parameters
  name ← bucket_named caller text
  Ok (Bare (Listing (ListObjectVersions name page after)))

-- Amazon S3 API Reference, ListMultipartUploads
unfoldable pub list_uploads : Octets → Octets → List Parameter → Result Operation Refusal
list_uploads caller text parameters = do
  page ← upload_page parameters
  after ← upload_marker parameters
  name ← bucket_named caller text
  Ok (Bare (Listing (ListMultipartUploads name page after)))

-- an operation that needs only a bucket's name, or an object's
abbrev pub at_name : {A : Type 0} → (A → Operation) → Result A Refusal → Result Operation Refusal
at_name make (Ok name) = Ok (make name)
at_name make (Err refusal) = Err refusal

-- Amazon S3 API Reference, CreateBucket
unfoldable pub create_bucket : Octets → Octets → Fields → Result Operation Refusal
create_bucket caller text fields = do
  locked ← lock_in fields
  name ← bucket_named caller text
  Ok (Bare (Bucket (CreateBucket name locked)))

-- a GET of a bucket with no selector is S3's ListObjects (version 1), which the host doesn't support
-- Amazon S3 API Reference, each operation's page has its method and selector
unfoldable pub bucket_operation : Octets → Octets → List Parameter → Fields → Method → Option Selector → Result Operation Refusal
bucket_operation caller text parameters fields method.Put None = create_bucket caller text fields
bucket_operation caller text parameters fields method.Get None = Err NotImplemented
bucket_operation caller text parameters fields method.Get (Some by.ListType) = list_objects caller text parameters
bucket_operation caller text parameters fields method.Get (Some by.Versions) = list_versions caller text parameters
bucket_operation caller text parameters fields method.Get (Some by.Uploads) = list_uploads caller text parameters
bucket_operation caller text parameters fields method.Head None =
    at_name (λ name. Bare (Bucket (HeadBucket name))) (bucket_named caller text)
bucket_operation caller text parameters fields method.Delete None =
    at_name (λ name. Bare (Bucket (DeleteBucket name))) (bucket_named caller text)
bucket_operation caller text parameters fields method.Get (Some by.Versioning) =
    at_name (λ name. Bare (Bucket (GetBucketVersioning name))) (bucket_named caller text)
bucket_operation caller text parameters fields method.Put (Some by.Versioning) =
    at_name (λ name. ByDocument (PutBucketVersioning name)) (bucket_named caller text)
bucket_operation caller text parameters fields method.Get (Some by.Lifecycle) =
    at_name (λ name. Bare (Lifecycle (GetLifecycle name))) (bucket_named caller text)
bucket_operation caller text parameters fields method.Put (Some by.Lifecycle) =
    at_name (λ name. ByDocument (PutLifecycle name)) (bucket_named caller text)
bucket_operation caller text parameters fields method.Delete (Some by.Lifecycle) =
    at_name (λ name. Bare (Lifecycle (DeleteLifecycle name))) (bucket_named caller text)
bucket_operation caller text parameters fields m selector = Err MethodNotAllowed

-- Amazon S3 API Reference, PutObject
unfoldable pub put_object : Octets → Octets → Octets → Fields → Result Operation Refusal
put_object caller text key fields = do
  checksum ← checksum_in fields
  name ← object_named caller text key
  Ok (Store (PutObject name checksum (date_in fields)))

-- of a copy's checksum only the number of fields is checked; the names of the source come last
-- Amazon S3 API Reference, CopyObject
unfoldable pub copy_object : Octets → Octets → Octets → Fields → Result Operation Refusal
copy_object caller text key fields = do
  source ← source_in (copy_source fields)
  _ ← checksum_in fields
  name ← object_named caller text key
  from ← object_named caller source.bucket source.key
  Ok (Bare (Object (CopyObject name (record { object = from; version = source.version }) (date_in fields))))

-- the names of a copy and of its source
abbrev pub copy_from : Octets → Octets → Octets → Source → Fields → Result Operation Refusal
copy_from caller text key source fields = do
  name ← object_named caller text key
  from ← object_named caller source.bucket source.key
  Ok (Bare (Object (CopyObject name (record { object = from; version = source.version }) (date_in fields))))

-- Amazon S3 API Reference, UploadPart
unfoldable pub upload_part : Octets → Octets → Octets → List Parameter → Fields → Result Operation Refusal
upload_part caller text key parameters fields = do
  number ← part_number (value_of (codes "partNumber") parameters)
  checksum ← checksum_in fields
  name ← object_named caller text key
  Ok (Store (UploadPart name (upload_in parameters) number checksum))

-- Amazon S3 API Reference, ListParts
unfoldable pub list_parts : Octets → Octets → Octets → List Parameter → Result Operation Refusal
list_parts caller text key parameters = do
  page ← part_page parameters
  name ← object_named caller text key
  Ok (Bare (Upload (ListParts name (upload_in parameters) page)))

-- whether there is a part number
abbrev pub is_numbered : List Parameter → Bool
is_numbered parameters = is_given (codes "partNumber") parameters

-- whether there is a copy source
abbrev pub is_copy : Fields → Bool
is_copy fields = stands (copy_source fields)

-- a PUT of an object without a selector
abbrev pub put : Octets → Octets → Octets → Fields → Result Operation Refusal
put caller text key fields = if is_copy fields then copy_object caller text key fields else put_object caller text key fields

-- Amazon S3 API Reference, GetObject
unfoldable pub get_object : Octets → Octets → Octets → List Parameter → Fields → Result Operation Refusal
get_object caller text key parameters fields =
    at_name (λ name. GetObject name (version_in parameters) (range_in fields)) (object_named caller text key)

-- a part needs its number; S3's UploadPartCopy is not supported
abbrev pub put_part : Octets → Octets → Octets → List Parameter → Fields → Result Operation Refusal
put_part caller text key parameters fields =
    if is_numbered parameters
    then (if is_copy fields then Err NotImplemented else upload_part caller text key parameters fields)
    else Err InvalidArgument

-- an operation on an object itself has no part number
-- Amazon S3 API Reference, each operation's page has its method and selector
abbrev pub unnumbered : List Parameter → Result Operation Refusal → Result Operation Refusal
unnumbered parameters operation = if is_numbered parameters then Err InvalidArgument else operation

unfoldable pub object_operation : Octets → Octets → Octets → List Parameter → Fields → Method → Option Selector → Result Operation Refusal
object_operation caller text key parameters fields method.Put None = unnumbered parameters (put caller text key fields)
object_operation caller text key parameters fields method.Get None = unnumbered parameters (get_object caller text key parameters fields)
object_operation caller text key parameters fields method.Head None =
    unnumbered parameters (at_name (λ name. Bare (Object (HeadObject name (version_in parameters)))) (object_named caller text key))
object_operation caller text key parameters fields method.Delete None =
    unnumbered parameters (at_name (λ name. Bare (Object (DeleteObject name (version_in parameters)))) (object_named caller text key))
object_operation caller text key parameters fields m None = unnumbered parameters (Err MethodNotAllowed)
object_operation caller text key parameters fields method.Put (Some by.UploadId) = put_part caller text key parameters fields
object_operation caller text key parameters fields method.Get (Some by.UploadId) = list_parts caller text key parameters
object_operation caller text key parameters fields method.Post (Some by.Uploads) =
    at_name (λ name. Bare (Upload (CreateMultipartUpload name))) (object_named caller text key)
object_operation caller text key parameters fields method.Post (Some by.UploadId) =
    at_name (λ name. ByDocument (CompleteMultipartUpload name (upload_in parameters))) (object_named caller text key)
object_operation caller text key parameters fields method.Delete (Some by.UploadId) =
    at_name (λ name. Bare (Upload (AbortMultipartUpload name (upload_in parameters)))) (object_named caller text key)
object_operation caller text key parameters fields method.Get (Some by.Retention) =
    at_name (λ name. Bare (Object (GetRetention name (version_in parameters)))) (object_named caller text key)
object_operation caller text key parameters fields method.Put (Some by.Retention) =
    at_name (λ name. ByDocument (PutRetention name (version_in parameters))) (object_named caller text key)
object_operation caller text key parameters fields m selector = Err MethodNotAllowed

-- fifth to seventh step
unfoldable pub operation_at : Octets → Method → List Parameter → Fields → Target → Option Selector → Result Operation Refusal
operation_at caller m parameters fields target.Host selector = host_operation m selector
operation_at caller m parameters fields (target.Bucket text) selector = bucket_operation caller text parameters fields m selector
operation_at caller m parameters fields (target.Object text key) selector = object_operation caller text key parameters fields m selector

-- third to seventh step
abbrev pub supported_operation : Octets → Method → List Parameter → Fields → Target → Result Operation Refusal
supported_operation caller m parameters fields target = do
  _ ← supported m parameters fields
  selector ← selected parameters
  operation_at caller m parameters fields target selector

-- the operation of a caller's request, or the first refusal
unfoldable pub operation : Octets → Taken → Result Operation Refusal
operation caller request = do
  kind ← routed (path_of request.target)
  target ← target_at kind (path_of request.target)
  parameters ← parameters_in (query_of request.target)
  supported_operation caller (method_of request.method) parameters request.fields target
