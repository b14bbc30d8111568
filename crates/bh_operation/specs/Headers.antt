-- The header fields that operations use, and those that the host doesn't support.
use Rattle.std.specs.Prelude.{ℕ, ◌||◌, Bool, true, false, List, codes, Option, Some, None, option_and_then, if◌then◌else◌, Result, Ok, Err}
use Rattle.std.specs.List.{list_any}
use Rattle.std.specs.Str.{bytes_eq}
use Rattle.bh_types.specs.Moments.{moment_of}
use Rattle.bh_types.specs.declared.refusal.Refusal.{Refusal}
use Rattle.bh_types.specs.declared.refusal.Refusal.TheVariants.{InvalidArgument, NotImplemented}
use Rattle.bh_http.specs.Fields.{Occurrence, Missing, Once, Repeated, field_named}
use Rattle.bh_operation.specs.declared.method.Method.{Method}
use Rattle.bh_operation.specs.declared.method.Method.TheVariants as method
use Rattle.bh_operation.specs.declared.query.Parameter.{Parameter}
use Rattle.bh_operation.specs.Queries.{is_unsupported}
use Rattle.bh_operation.specs.Targets.{text_of}

-- a request has a field, once or more
abbrev pub stands : Occurrence → Bool
stands Missing = false
stands (Once value) = true
stands Repeated = true

-- the fields of a version's retention
-- Amazon S3 API Reference, PutObject
abbrev pub lock_mode : List (List ℕ × List ℕ) → Occurrence
lock_mode fields = field_named (codes "x-amz-object-lock-mode") fields

abbrev pub lock_date : List (List ℕ × List ℕ) → Occurrence
lock_date fields = field_named (codes "x-amz-object-lock-retain-until-date") fields

-- a date for the object of an upload, which the host doesn't support
-- Amazon S3 API Reference, CreateMultipartUpload: x-amz-object-lock-mode, x-amz-object-lock-retain-until-date
abbrev pub dates_upload : Method → List (List ℕ × List ℕ) → Bool
dates_upload method.Post fields = stands (lock_mode fields) || stands (lock_date fields)
dates_upload m fields = false

-- fourth step: the request needs no unsupported feature
unfoldable pub supported : Method → List Parameter → List (List ℕ × List ℕ) → Result (Unit {0}) Refusal
supported m parameters fields =
    if list_any (λ p. is_unsupported p.name) parameters || dates_upload m fields then Err NotImplemented
    else Ok tt

-- whether a new bucket is to be locked
abbrev pub lock_told : List ℕ → Result Bool Refusal
lock_told value =
    if bytes_eq value (codes "true") then Ok true
    else if bytes_eq value (codes "false") then Ok false
    else Err InvalidArgument

abbrev pub lock_from : Occurrence → Result Bool Refusal
lock_from Missing = Ok false
lock_from (Once value) = lock_told value
lock_from Repeated = Err InvalidArgument

-- Amazon S3 API Reference, CreateBucket: x-amz-bucket-object-lock-enabled
unfoldable pub lock_in : List (List ℕ × List ℕ) → Result Bool Refusal
lock_in fields = lock_from (field_named (codes "x-amz-bucket-object-lock-enabled") fields)

-- a date in the only mode that the host supports
abbrev pub date_told : List ℕ → List ℕ → Option ℕ
date_told mode date = if bytes_eq mode (codes "COMPLIANCE") then option_and_then moment_of (text_of date) else None

-- both fields occur once, or neither does; in the inner Option, none means that they are invalid
abbrev pub date_from : Occurrence → Occurrence → Option (Option ℕ)
date_from Missing Missing = None
date_from Missing (Once date) = Some None
date_from Missing Repeated = Some None
date_from (Once mode) Missing = Some None
date_from (Once mode) (Once date) = Some (date_told mode date)
date_from (Once mode) Repeated = Some None
date_from Repeated date = Some None

-- the date until which a new version is to be retained, if the request has one
-- Amazon S3 API Reference, PutObject: x-amz-object-lock-mode, x-amz-object-lock-retain-until-date
abbrev pub date_in : List (List ℕ × List ℕ) → Option (Option ℕ)
date_in fields = date_from (lock_mode fields) (lock_date fields)

-- the value of a field that may occur once
abbrev pub at_most_once : Occurrence → Result (Option (List ℕ)) Refusal
at_most_once Missing = Ok None
at_most_once (Once value) = Ok (Some value)
at_most_once Repeated = Err InvalidArgument

-- the checksum that a body must have
-- Amazon S3 API Reference, PutObject: x-amz-checksum-sha256
unfoldable pub checksum_in : List (List ℕ × List ℕ) → Result (Option (List ℕ)) Refusal
checksum_in fields = at_most_once (field_named (codes "x-amz-checksum-sha256") fields)

-- Amazon S3 API Reference, CopyObject: x-amz-copy-source
abbrev pub copy_source : List (List ℕ × List ℕ) → Occurrence
copy_source fields = field_named (codes "x-amz-copy-source") fields

-- the requested range; two are ignored
abbrev pub once_or_none : Occurrence → Option (List ℕ)
once_or_none Missing = None
once_or_none (Once value) = Some value
once_or_none Repeated = None

-- RFC 9110, section 14.2
abbrev pub range_in : List (List ℕ × List ℕ) → Option (List ℕ)
range_in fields = once_or_none (field_named (codes "range") fields)
