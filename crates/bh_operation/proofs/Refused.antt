-- How a request's operation may be refused.
use Rattle.std.proofs.Common.{ℕ, Bool, true, false, List, Option, Some, None, Ok, Err, Result, refl, cond}
use Rattle.std.specs.Prelude.{codes, take, drop, length, nat_le, nat_lt, ◌&&◌, ◌||◌, ◌==◌, is_none, position}
use Rattle.std.specs.List.{list_any, before_first, after_first}
use Rattle.std.specs.Str.{bytes_eq}
use Rattle.std.specs.Str.Parse.{digits_value}
use Rattle.bh_types.specs.Names.{is_bucket_name, is_object_key}
use Rattle.bh_types.specs.declared.wanted.Wanted.TheVariants.{Current}
use Rattle.bh_types.specs.declared.refusal.Refusal.{Refusal}
use Rattle.bh_types.specs.declared.refusal.Refusal.TheVariants.{AccessDenied, InvalidBucketName, KeyTooLong, InvalidArgument, NotImplemented}
use Rattle.bh_http.specs.Fields.{Occurrence, Missing, Once, Repeated, field_named}
use Rattle.bh_types.specs.Ids.{upload_of}
use Rattle.bh_types.specs.Digits.{is_number}
use Rattle.bh_operation.specs.Addresses.{is_colon, own_part, bucket_name, object_key, bucket_named, object_named}
use Rattle.bh_operation.specs.Headers.{dates_upload, supported, lock_from, lock_in, at_most_once, checksum_in, copy_source}
use Rattle.bh_types.specs.Tokens as tokens
use Rattle.hex.specs.Hex.{decode_of}
use Rattle.hex.specs.declared.error.FromHexError.{FromHexError}
use Rattle.bh_operation.specs.Methods.{method_of}
use Rattle.bh_operation.specs.Numbers.{or_invalid_argument, short_number, page_size, part_marker, part_number}
use Rattle.bh_operation.specs.Operations.{Octets, Fields, at_name, host_operation, list_objects, list_versions, list_uploads, create_bucket, bucket_operation, is_numbered, is_copy, put_object, copy_object, put, get_object, upload_part, put_part, list_parts, unnumbered, object_operation, operation_at, operation}
use Rattle.bh_operation.specs.Pages.{page_in, key_page, upload_page, part_page, is_second, second_version, token_from, token_of, version_marker_from, version_marker, upload_marker_from, upload_marker}
use Rattle.bh_operation.specs.Queries.{value_of, is_unsupported, is_repeated, parameters_of, given_once, parameters_in, count_selectors, selected}
use Rattle.bh_operation.specs.Sources.{source_path, named_by, version_after, source_version, source_part, source_of, source_in}
use Rattle.bh_operation.specs.Targets.{is_question, is_slash, path_of, query_of, kind_of, or_invalid_uri, routed, decoded, text_of, bucket_part, key_part, name_at, target_at}
use Rattle.bh_operation.specs.declared.method.Method.{Method}
use Rattle.bh_operation.specs.declared.method.Method.TheVariants.{Get, Head, Put, Post, Delete, Other}
use Rattle.bh_operation.specs.declared.operation.Operation.{Operation}
use Rattle.bh_operation.specs.declared.query.Parameter.{Parameter}
use Rattle.bh_operation.specs.declared.query.Selector.{Selector}
use Rattle.bh_operation.specs.declared.query.Selector.TheVariants.{ListType, Versions, Uploads, Versioning, Lifecycle, Usage, UploadId, Retention}
use Rattle.bh_operation.specs.declared.target.Kind.{Kind}
use Rattle.bh_operation.specs.declared.target.Kind.TheVariants as kind
use Rattle.bh_operation.specs.declared.target.Target.{Target}
use Rattle.bh_operation.specs.declared.target.Target.TheVariants as target
use Rattle.bh_operation.specs.Refused.{OperationRefusals, is_operation_refusal as may}
use Rattle.bh_types.proofs.Refusing.{then_only, if_only, unless_only}
use Rattle.bh_types.specs.Refusing.{RefusedOnly}

abbrev Only : {X : Type 0} → Result X Refusal → Type 0
Only r = RefusedOnly may r

-- ---- the target and its query

uri_only : {A : Type 0} (o : Option A) → Only (or_invalid_uri o)
uri_only None = refl
uri_only (Some x) = tt

argument_only : {A : Type 0} (o : Option A) → Only (or_invalid_argument o)
argument_only None = refl
argument_only (Some x) = tt

routed_only : (path : List ℕ) → Only (routed path)
unfolding routed
routed_only path = uri_only (kind_of path)

name_only : (part : List ℕ) → Only (name_at part)
unfolding name_at
name_only part = uri_only (decoded part)

target_only : (k : Kind) (path : List ℕ) → Only (target_at k path)
unfolding target_at
target_only kind.Host path = tt
target_only kind.Bucket path = then_only may (name_at (bucket_part path)) _ (name_only (bucket_part path)) (λ _. tt)
target_only kind.Object path =
    then_only may (name_at (bucket_part path)) _ (name_only (bucket_part path))
    (λ _. then_only may (name_at (key_part path)) _ (name_only (key_part path)) (λ _. tt))

parameters_only : (query : List ℕ) → Only (parameters_in query)
unfolding parameters_in given_once
parameters_only query = unless_only may (list_any (is_repeated (parameters_of query)) (parameters_of query)) InvalidArgument (parameters_of query) refl

supported_only : (m : Method) (parameters : List Parameter) (fields : Fields) → Only (supported m parameters fields)
unfolding supported
supported_only m parameters fields = unless_only may (list_any (λ p. is_unsupported p.name) parameters || dates_upload m fields) NotImplemented tt refl

selected_only : (parameters : List Parameter) → Only (selected parameters)
unfolding selected
selected_only parameters = unless_only may (nat_lt 1 (count_selectors parameters)) InvalidArgument _ refl

-- ---- what a method and a selector ask for

host_only : (m : Method) (s : Option Selector) → Only (host_operation m s)
unfolding host_operation
host_only Get None = tt
host_only Get (Some Usage) = tt
host_only Get (Some ListType) = refl
host_only Get (Some Versions) = refl
host_only Get (Some Uploads) = refl
host_only Get (Some Versioning) = refl
host_only Get (Some Lifecycle) = refl
host_only Get (Some UploadId) = refl
host_only Get (Some Retention) = refl
host_only Head s = refl
host_only Put s = refl
host_only Post s = refl
host_only Delete s = refl
host_only Other s = refl

-- ---- names

bucket_named_only : (caller text : List ℕ) → Only (bucket_named caller text)
unfolding bucket_named own_part bucket_name
bucket_named_only caller text =
    then_only may (own_part caller text) _ (own_only (is_none (position is_colon text)))
    (λ name. if_only may (is_bucket_name name) name InvalidBucketName refl)
  where
    own_only : (no_colon : Bool) → Only (cond no_colon (Ok text) (cond (bytes_eq (before_first is_colon text) caller) (Ok (after_first is_colon text)) (Err AccessDenied)))
    own_only true = tt
    own_only false = if_only may (bytes_eq (before_first is_colon text) caller) (after_first is_colon text) AccessDenied refl

object_named_only : (caller text key : List ℕ) → Only (object_named caller text key)
unfolding object_named object_key
object_named_only caller text key =
    then_only may (bucket_named caller text) _ (bucket_named_only caller text)
    (λ _. then_only may (object_key key) _ (if_only may (is_object_key key) key KeyTooLong refl) (λ _. tt))

at_name_only : {A : Type 0} (make : A → Operation) (r : Result A Refusal) → Only r → Only (at_name make r)
at_name_only make (Ok name) only = tt
at_name_only make (Err refusal) only = only

-- ---- parameters

short_number_only : (text : List ℕ) → Only (short_number text)
unfolding short_number
short_number_only text = if_only may (is_number text && nat_le (length text) 10) _ InvalidArgument refl

page_size_only : (text : Option (List ℕ)) → Only (page_size text)
unfolding page_size
page_size_only None = tt
page_size_only (Some text) = then_only may (short_number text) _ (short_number_only text) (λ _. tt)

part_marker_only : (text : Option (List ℕ)) → Only (part_marker text)
unfolding part_marker
part_marker_only None = tt
part_marker_only (Some text) = short_number_only text

part_number_only : (text : Option (List ℕ)) → Only (part_number text)
unfolding part_number
part_number_only None = refl
part_number_only (Some text) = if_only may (is_number text && nat_le 1 (digits_value 10 text) && nat_le (digits_value 10 text) 10000) _ InvalidArgument refl

page_only : (name : List ℕ) (parameters : List Parameter) → Only (page_in name parameters)
unfolding page_in
page_only name parameters = then_only may (page_size (value_of name parameters)) _ (page_size_only (value_of name parameters)) (λ _. tt)

part_page_only : (parameters : List Parameter) → Only (part_page parameters)
unfolding part_page
part_page_only parameters =
    then_only may (page_size (value_of (codes "max-parts") parameters)) _ (page_size_only (value_of (codes "max-parts") parameters))
    (λ _. then_only may (part_marker (value_of (codes "part-number-marker") parameters)) _ (part_marker_only (value_of (codes "part-number-marker") parameters)) (λ _. tt))

second_only : (parameters : List Parameter) → Only (second_version parameters)
unfolding second_version
second_only parameters = if_only may (is_second (value_of (codes "list-type") parameters)) tt InvalidArgument refl

token_only : (text : Option (List ℕ)) → Only (token_from text)
token_only None = tt
token_only (Some text) = then_only may (tokens.token_of text) _ (told_only (decode_of text)) (λ _. tt)
  where
    told_only : (r : Result (List ℕ) FromHexError) → Only (tokens.or_argument r)
    told_only (Ok bytes) = tt
    told_only (Err e) = refl

version_marker_only : (key id : Option (List ℕ)) → Only (version_marker_from key id)
version_marker_only (Some key) id = tt
version_marker_only None None = tt
version_marker_only None (Some id) = refl

upload_marker_only : (key id : Option (List ℕ)) → Only (upload_marker_from key id)
upload_marker_only None id = tt
upload_marker_only (Some key) None = tt
upload_marker_only (Some key) (Some id) = then_only may (or_invalid_argument (upload_of id)) _ (argument_only (upload_of id)) (λ _. tt)

-- ---- header fields

once_only : (field : Occurrence) → Only (at_most_once field)
once_only Missing = tt
once_only (Once value) = tt
once_only Repeated = refl

checksum_only : (fields : Fields) → Only (checksum_in fields)
unfolding checksum_in
checksum_only fields = once_only (field_named (codes "x-amz-checksum-sha256") fields)

lock_only : (fields : Fields) → Only (lock_in fields)
unfolding lock_in
lock_only fields = from_only (field_named (codes "x-amz-bucket-object-lock-enabled") fields)
  where
    told_only : (yes not_so : Bool) → Only (cond yes (Ok true) (cond not_so (Ok false) (Err InvalidArgument)))
    told_only true not_so = tt
    told_only false true = tt
    told_only false false = refl

    from_only : (field : Occurrence) → Only (lock_from field)
    from_only Missing = tt
    from_only (Once value) = told_only (bytes_eq value (codes "true")) (bytes_eq value (codes "false"))
    from_only Repeated = refl

source_version_only : (value : List ℕ) → Only (source_version value)
unfolding source_version version_after
source_version_only value = plain_only (is_none (position is_question value))
  where
    query : List ℕ
    query = after_first is_question value

    plain_only : (plain : Bool) → Only (cond plain (Ok Current) (version_after (after_first is_question value)))
    plain_only true = tt
    plain_only false = if_only may (bytes_eq (take 10 query) (codes "versionId=")) (named_by (text_of (drop 10 query))) InvalidArgument refl

part_only : (part : List ℕ) → Only (source_part part)
unfolding source_part
part_only part = named_only (length part == 0)
  where
    named_only : (empty : Bool) → Only (cond empty (Err InvalidArgument) (or_invalid_argument (decoded part)))
    named_only true = refl
    named_only false = argument_only (decoded part)

source_of_only : (value : List ℕ) → Only (source_of value)
unfolding source_of
source_of_only value =
    then_only may (source_version value) _ (source_version_only value)
    (λ _. then_only may (source_part (before_first is_slash (source_path value))) _ (part_only (before_first is_slash (source_path value)))
    (λ _. then_only may (source_part (after_first is_slash (source_path value))) _ (part_only (after_first is_slash (source_path value))) (λ _. tt)))

source_only : (field : Occurrence) → Only (source_in field)
unfolding source_in
source_only Missing = refl
source_only (Once value) = source_of_only value
source_only Repeated = refl

-- ---- operations

created_only : (caller text : Octets) (fields : Fields) → Only (create_bucket caller text fields)
unfolding create_bucket
created_only caller text fields =
    then_only may (lock_in fields) _ (lock_only fields)
    (λ _. then_only may (bucket_named caller text) _ (bucket_named_only caller text) (λ _. tt))

objects_listed_only : (caller text : Octets) (parameters : List Parameter) → Only (list_objects caller text parameters)
unfolding list_objects key_page token_of
objects_listed_only caller text parameters =
    then_only may (second_version parameters) _ (second_only parameters)
    (λ _. then_only may (key_page parameters) _ (page_only (codes "max-keys") parameters)
    (λ _. then_only may (token_of parameters) _ (token_only (value_of (codes "continuation-token") parameters))
    (λ _. then_only may (bucket_named caller text) _ (bucket_named_only caller text) (λ _. tt))))

versions_listed_only : (caller text : Octets) (parameters : List Parameter) → Only (list_versions caller text parameters)
unfolding list_versions key_page version_marker
versions_listed_only caller text parameters =
    then_only may (key_page parameters) _ (page_only (codes "max-keys") parameters)
    (λ _. then_only may (version_marker parameters) _ (version_marker_only (value_of (codes "key-marker") parameters) (value_of (codes "version-id-marker") parameters))
    (λ _. then_only may (bucket_named caller text) _ (bucket_named_only caller text) (λ _. tt)))

uploads_listed_only : (caller text : Octets) (parameters : List Parameter) → Only (list_uploads caller text parameters)
unfolding list_uploads upload_page upload_marker
uploads_listed_only caller text parameters =
    then_only may (upload_page parameters) _ (page_only (codes "max-uploads") parameters)
    (λ _. then_only may (upload_marker parameters) _ (upload_marker_only (value_of (codes "key-marker") parameters) (value_of (codes "upload-id-marker") parameters))
    (λ _. then_only may (bucket_named caller text) _ (bucket_named_only caller text) (λ _. tt)))

bucket_only : (caller text : Octets) (parameters : List Parameter) (fields : Fields) (m : Method) (s : Option Selector)
    → Only (bucket_operation caller text parameters fields m s)
unfolding bucket_operation
bucket_only caller text parameters fields Get None = refl
bucket_only caller text parameters fields Get (Some ListType) = objects_listed_only caller text parameters
bucket_only caller text parameters fields Get (Some Versions) = versions_listed_only caller text parameters
bucket_only caller text parameters fields Get (Some Uploads) = uploads_listed_only caller text parameters
bucket_only caller text parameters fields Get (Some Versioning) = at_name_only _ (bucket_named caller text) (bucket_named_only caller text)
bucket_only caller text parameters fields Get (Some Lifecycle) = at_name_only _ (bucket_named caller text) (bucket_named_only caller text)
bucket_only caller text parameters fields Get (Some Usage) = refl
bucket_only caller text parameters fields Get (Some UploadId) = refl
bucket_only caller text parameters fields Get (Some Retention) = refl
bucket_only caller text parameters fields Put None = created_only caller text fields
bucket_only caller text parameters fields Put (Some ListType) = refl
bucket_only caller text parameters fields Put (Some Versions) = refl
bucket_only caller text parameters fields Put (Some Uploads) = refl
bucket_only caller text parameters fields Put (Some Versioning) = at_name_only _ (bucket_named caller text) (bucket_named_only caller text)
bucket_only caller text parameters fields Put (Some Lifecycle) = at_name_only _ (bucket_named caller text) (bucket_named_only caller text)
bucket_only caller text parameters fields Put (Some Usage) = refl
bucket_only caller text parameters fields Put (Some UploadId) = refl
bucket_only caller text parameters fields Put (Some Retention) = refl
bucket_only caller text parameters fields Head None = at_name_only _ (bucket_named caller text) (bucket_named_only caller text)
bucket_only caller text parameters fields Head (Some s) = refl
bucket_only caller text parameters fields Delete None = at_name_only _ (bucket_named caller text) (bucket_named_only caller text)
bucket_only caller text parameters fields Delete (Some ListType) = refl
bucket_only caller text parameters fields Delete (Some Versions) = refl
bucket_only caller text parameters fields Delete (Some Uploads) = refl
bucket_only caller text parameters fields Delete (Some Versioning) = refl
bucket_only caller text parameters fields Delete (Some Lifecycle) = at_name_only _ (bucket_named caller text) (bucket_named_only caller text)
bucket_only caller text parameters fields Delete (Some Usage) = refl
bucket_only caller text parameters fields Delete (Some UploadId) = refl
bucket_only caller text parameters fields Delete (Some Retention) = refl
bucket_only caller text parameters fields Post None = refl
bucket_only caller text parameters fields Post (Some s) = refl
bucket_only caller text parameters fields Other None = refl
bucket_only caller text parameters fields Other (Some s) = refl

object_put_only : (caller text key : Octets) (fields : Fields) → Only (put_object caller text key fields)
unfolding put_object
object_put_only caller text key fields =
    then_only may (checksum_in fields) _ (checksum_only fields)
    (λ _. then_only may (object_named caller text key) _ (object_named_only caller text key) (λ _. tt))

object_copied_only : (caller text key : Octets) (fields : Fields) → Only (copy_object caller text key fields)
unfolding copy_object
object_copied_only caller text key fields =
    then_only may (source_in (copy_source fields)) _ (source_only (copy_source fields))
    (λ source. then_only may (checksum_in fields) _ (checksum_only fields)
    (λ _. then_only may (object_named caller text key) _ (object_named_only caller text key)
    (λ _. then_only may (object_named caller source.bucket source.key) _ (object_named_only caller source.bucket source.key) (λ _. tt))))

object_got_only : (caller text key : Octets) (parameters : List Parameter) (fields : Fields) → Only (get_object caller text key parameters fields)
unfolding get_object
object_got_only caller text key parameters fields = at_name_only _ (object_named caller text key) (object_named_only caller text key)

part_stored_only : (caller text key : Octets) (parameters : List Parameter) (fields : Fields) → Only (upload_part caller text key parameters fields)
unfolding upload_part
part_stored_only caller text key parameters fields =
    then_only may (part_number (value_of (codes "partNumber") parameters)) _ (part_number_only (value_of (codes "partNumber") parameters))
    (λ _. then_only may (checksum_in fields) _ (checksum_only fields)
    (λ _. then_only may (object_named caller text key) _ (object_named_only caller text key) (λ _. tt)))

parts_listed_only : (caller text key : Octets) (parameters : List Parameter) → Only (list_parts caller text key parameters)
unfolding list_parts
parts_listed_only caller text key parameters =
    then_only may (part_page parameters) _ (part_page_only parameters)
    (λ _. then_only may (object_named caller text key) _ (object_named_only caller text key) (λ _. tt))

either_only : (b : Bool) (one other : Result Operation Refusal) → Only one → Only other → Only (cond b one other)
either_only true one other is so = is
either_only false one other is so = so

unnumbered_only : (parameters : List Parameter) (r : Result Operation Refusal) → Only r → Only (unnumbered parameters r)
unnumbered_only parameters r only = either_only (is_numbered parameters) (Err InvalidArgument) r refl only

put_only : (caller text key : Octets) (fields : Fields) → Only (put caller text key fields)
put_only caller text key fields =
    either_only (is_copy fields) (copy_object caller text key fields) (put_object caller text key fields)
    (object_copied_only caller text key fields) (object_put_only caller text key fields)

part_put_only : (caller text key : Octets) (parameters : List Parameter) (fields : Fields) → Only (put_part caller text key parameters fields)
part_put_only caller text key parameters fields =
    either_only (is_numbered parameters) (cond (is_copy fields) (Err NotImplemented) (upload_part caller text key parameters fields)) (Err InvalidArgument)
    (either_only (is_copy fields) (Err NotImplemented) (upload_part caller text key parameters fields) refl (part_stored_only caller text key parameters fields))
    refl

object_only : (caller text key : Octets) (parameters : List Parameter) (fields : Fields) (m : Method) (s : Option Selector)
    → Only (object_operation caller text key parameters fields m s)
unfolding object_operation
object_only caller text key parameters fields Get None = unnumbered_only parameters _ (object_got_only caller text key parameters fields)
object_only caller text key parameters fields Get (Some ListType) = refl
object_only caller text key parameters fields Get (Some Versions) = refl
object_only caller text key parameters fields Get (Some Uploads) = refl
object_only caller text key parameters fields Get (Some Versioning) = refl
object_only caller text key parameters fields Get (Some Lifecycle) = refl
object_only caller text key parameters fields Get (Some Usage) = refl
object_only caller text key parameters fields Get (Some UploadId) = parts_listed_only caller text key parameters
object_only caller text key parameters fields Get (Some Retention) = at_name_only _ (object_named caller text key) (object_named_only caller text key)
object_only caller text key parameters fields Put None = unnumbered_only parameters _ (put_only caller text key fields)
object_only caller text key parameters fields Put (Some ListType) = refl
object_only caller text key parameters fields Put (Some Versions) = refl
object_only caller text key parameters fields Put (Some Uploads) = refl
object_only caller text key parameters fields Put (Some Versioning) = refl
object_only caller text key parameters fields Put (Some Lifecycle) = refl
object_only caller text key parameters fields Put (Some Usage) = refl
object_only caller text key parameters fields Put (Some UploadId) = part_put_only caller text key parameters fields
object_only caller text key parameters fields Put (Some Retention) = at_name_only _ (object_named caller text key) (object_named_only caller text key)
object_only caller text key parameters fields Head None = unnumbered_only parameters _ (at_name_only _ (object_named caller text key) (object_named_only caller text key))
object_only caller text key parameters fields Head (Some s) = refl
object_only caller text key parameters fields Delete None = unnumbered_only parameters _ (at_name_only _ (object_named caller text key) (object_named_only caller text key))
object_only caller text key parameters fields Delete (Some ListType) = refl
object_only caller text key parameters fields Delete (Some Versions) = refl
object_only caller text key parameters fields Delete (Some Uploads) = refl
object_only caller text key parameters fields Delete (Some Versioning) = refl
object_only caller text key parameters fields Delete (Some Lifecycle) = refl
object_only caller text key parameters fields Delete (Some Usage) = refl
object_only caller text key parameters fields Delete (Some UploadId) = at_name_only _ (object_named caller text key) (object_named_only caller text key)
object_only caller text key parameters fields Delete (Some Retention) = refl
object_only caller text key parameters fields Post None = unnumbered_only parameters _ (refl)
object_only caller text key parameters fields Post (Some ListType) = refl
object_only caller text key parameters fields Post (Some Versions) = refl
object_only caller text key parameters fields Post (Some Uploads) = at_name_only _ (object_named caller text key) (object_named_only caller text key)
object_only caller text key parameters fields Post (Some Versioning) = refl
object_only caller text key parameters fields Post (Some Lifecycle) = refl
object_only caller text key parameters fields Post (Some Usage) = refl
object_only caller text key parameters fields Post (Some UploadId) = at_name_only _ (object_named caller text key) (object_named_only caller text key)
object_only caller text key parameters fields Post (Some Retention) = refl
object_only caller text key parameters fields Other None = unnumbered_only parameters _ (refl)
object_only caller text key parameters fields Other (Some s) = refl

at_only : (caller : Octets) (m : Method) (parameters : List Parameter) (fields : Fields) (t : Target) (s : Option Selector) → Only (operation_at caller m parameters fields t s)
unfolding operation_at
at_only caller m parameters fields target.Host s = host_only m s
at_only caller m parameters fields (target.Bucket text) s = bucket_only caller text parameters fields m s
at_only caller m parameters fields (target.Object text key) s = object_only caller text key parameters fields m s

pub operation_only : OperationRefusals
unfolding operation
operation_only caller request =
    then_only may (routed (path_of request.target)) _ (routed_only (path_of request.target))
    (λ k. then_only may (target_at k (path_of request.target)) _ (target_only k (path_of request.target))
    (λ t. then_only may (parameters_in (query_of request.target)) _ (parameters_only (query_of request.target))
    (λ parameters. then_only may (supported (method_of request.method) parameters request.fields) _ (supported_only (method_of request.method) parameters request.fields)
    (λ _. then_only may (selected parameters) _ (selected_only parameters)
    (λ s. at_only caller (method_of request.method) parameters request.fields t s)))))
