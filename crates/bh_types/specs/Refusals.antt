-- The table of refusals.
use Rattle.std.specs.Prelude.{◌≡◌, ℕ, List, codes}
use Rattle.bh_types.specs.declared.refusal.Refusal.{Refusal}
use Rattle.bh_types.specs.declared.refusal.Refusal.TheVariants.{
  BadRequest,
  NotImplemented,
  MissingContentLength,
  EntityTooLarge,
  AccessDenied,
  InvalidAccessKeyId,
  InvalidUri,
  InvalidBucketName,
  KeyTooLong,
  InvalidArgument,
  MalformedJson,
  NoSuchBucket,
  NoSuchKey,
  NoSuchVersion,
  NoSuchUpload,
  MethodNotAllowed,
  BucketAlreadyOwnedByYou,
  BucketNotEmpty,
  InvalidBucketState,
  NoSuchLifecycleConfiguration,
  InvalidPart,
  InvalidPartOrder,
  EntityTooSmall,
  QuotaExceeded,
  InvalidRange,
  BadDigest,
  IncompleteBody,
  InvalidRequest,
  CounterExhausted,
  ClockOutOfRange,
  ServiceUnavailable,
  TenantExists,
  NoSuchTenant,
  KeyExists,
  NoSuchKeyName,
  InvalidName,
  InvalidQuota,
  NotAHostFile,
  Unavailable,
  TenantNotEmpty,
  TenantRetained,
}

pub record Row : Type 0 where
  pub number : ℕ
  pub status : ℕ
  pub code : List ℕ

abbrev pub row : ℕ → ℕ → List ℕ → Row
row number status code = record { number = number; status = status; code = code }

-- The codes are those of Amazon S3 API Reference, "Error responses", if it has one; the statuses
-- are those of RFC 9110, section 15
abbrev pub row_of : Refusal → Row
row_of BadRequest = row 1 400 (codes "BadRequest")
row_of NotImplemented = row 2 501 (codes "NotImplemented")
row_of MissingContentLength = row 3 411 (codes "MissingContentLength")
row_of EntityTooLarge = row 4 400 (codes "EntityTooLarge")
row_of AccessDenied = row 5 403 (codes "AccessDenied")
row_of InvalidAccessKeyId = row 6 403 (codes "InvalidAccessKeyId")
row_of InvalidUri = row 7 400 (codes "InvalidURI")
row_of InvalidBucketName = row 8 400 (codes "InvalidBucketName")
row_of KeyTooLong = row 9 400 (codes "KeyTooLongError")
row_of InvalidArgument = row 10 400 (codes "InvalidArgument")
row_of MalformedJson = row 11 400 (codes "MalformedJSON")
row_of NoSuchBucket = row 12 404 (codes "NoSuchBucket")
row_of NoSuchKey = row 13 404 (codes "NoSuchKey")
row_of NoSuchVersion = row 14 404 (codes "NoSuchVersion")
row_of NoSuchUpload = row 15 404 (codes "NoSuchUpload")
row_of MethodNotAllowed = row 16 405 (codes "MethodNotAllowed")
row_of BucketAlreadyOwnedByYou = row 17 409 (codes "BucketAlreadyOwnedByYou")
row_of BucketNotEmpty = row 18 409 (codes "BucketNotEmpty")
row_of InvalidBucketState = row 19 409 (codes "InvalidBucketState")
row_of NoSuchLifecycleConfiguration = row 20 404 (codes "NoSuchLifecycleConfiguration")
row_of InvalidPart = row 21 400 (codes "InvalidPart")
row_of InvalidPartOrder = row 22 400 (codes "InvalidPartOrder")
row_of EntityTooSmall = row 23 400 (codes "EntityTooSmall")
row_of QuotaExceeded = row 24 403 (codes "QuotaExceeded")
row_of InvalidRange = row 25 416 (codes "InvalidRange")
row_of BadDigest = row 26 400 (codes "BadDigest")
row_of IncompleteBody = row 27 400 (codes "IncompleteBody")
row_of InvalidRequest = row 28 400 (codes "InvalidRequest")
row_of CounterExhausted = row 29 500 (codes "CounterExhausted")
row_of ClockOutOfRange = row 30 500 (codes "ClockOutOfRange")
row_of ServiceUnavailable = row 31 503 (codes "ServiceUnavailable")
row_of TenantExists = row 41 409 (codes "TenantExists")
row_of NoSuchTenant = row 42 404 (codes "NoSuchTenant")
row_of KeyExists = row 43 409 (codes "KeyExists")
row_of NoSuchKeyName = row 44 404 (codes "NoSuchKeyName")
row_of InvalidName = row 45 400 (codes "InvalidName")
row_of InvalidQuota = row 46 400 (codes "InvalidQuota")
row_of NotAHostFile = row 47 409 (codes "NotAHostFile")
row_of Unavailable = row 48 503 (codes "Unavailable")
row_of TenantNotEmpty = row 49 409 (codes "TenantNotEmpty")
row_of TenantRetained = row 50 403 (codes "TenantRetained")

abbrev pub number_of : Refusal → ℕ
number_of refusal = (row_of refusal).number

abbrev pub status_of : Refusal → ℕ
status_of refusal = (row_of refusal).status

abbrev pub code_of : Refusal → List ℕ
code_of refusal = (row_of refusal).code

-- no two refusals share a number
abbrev pub OneNumberEach : Type 0
OneNumberEach = (a b : Refusal) → number_of a ≡ number_of b → a ≡ b
