-- A number names at most one refusal, since the refusal can be looked up by it.
use Rattle.std.proofs.Common.{◌≡◌, ℕ, Option, Some, None, ◌==◌, if◌then◌else◌, refl}
use Rattle.bh_types.specs.declared.refusal.Refusal.{Refusal}
use Rattle.bh_types.specs.declared.refusal.Refusal.TheVariants.{
  BadRequest,
  NotImplemented,
  MissingContentLength,
  EntityTooLarge,
  AccessDenied,
  InvalidAccessKeyId,
  InvalidUri,
  InvalidBucketName,
  KeyTooLong,
  InvalidArgument,
  MalformedJson,
  NoSuchBucket,
  NoSuchKey,
  NoSuchVersion,
  NoSuchUpload,
  MethodNotAllowed,
  BucketAlreadyOwnedByYou,
  BucketNotEmpty,
  InvalidBucketState,
  NoSuchLifecycleConfiguration,
  InvalidPart,
  InvalidPartOrder,
  EntityTooSmall,
  QuotaExceeded,
  InvalidRange,
  BadDigest,
  IncompleteBody,
  InvalidRequest,
  CounterExhausted,
  ClockOutOfRange,
  ServiceUnavailable,
  TenantExists,
  NoSuchTenant,
  KeyExists,
  NoSuchKeyName,
  InvalidName,
  InvalidQuota,
  NotAHostFile,
  Unavailable,
  TenantNotEmpty,
  TenantRetained,
}
use Rattle.bh_types.specs.Refusals.{number_of}

abbrev pub refusal_at : ℕ → Option Refusal
refusal_at n =
    if n == 1 then Some BadRequest else
    if n == 2 then Some NotImplemented else
    if n == 3 then Some MissingContentLength else
    if n == 4 then Some EntityTooLarge else
    if n == 5 then Some AccessDenied else
    if n == 6 then Some InvalidAccessKeyId else
    if n == 7 then Some InvalidUri else
    if n == 8 then Some InvalidBucketName else
    if n == 9 then Some KeyTooLong else
    if n == 10 then Some InvalidArgument else
    if n == 11 then Some MalformedJson else
    if n == 12 then Some NoSuchBucket else
    if n == 13 then Some NoSuchKey else
    if n == 14 then Some NoSuchVersion else
    if n == 15 then Some NoSuchUpload else
    if n == 16 then Some MethodNotAllowed else
    if n == 17 then Some BucketAlreadyOwnedByYou else
    if n == 18 then Some BucketNotEmpty else
    if n == 19 then Some InvalidBucketState else
    if n == 20 then Some NoSuchLifecycleConfiguration else
    if n == 21 then Some InvalidPart else
    if n == 22 then Some InvalidPartOrder else
    if n == 23 then Some EntityTooSmall else
    if n == 24 then Some QuotaExceeded else
    if n == 25 then Some InvalidRange else
    if n == 26 then Some BadDigest else
    if n == 27 then Some IncompleteBody else
    if n == 28 then Some InvalidRequest else
    if n == 29 then Some CounterExhausted else
    if n == 30 then Some ClockOutOfRange else
    if n == 31 then Some ServiceUnavailable else
    if n == 41 then Some TenantExists else
    if n == 42 then Some NoSuchTenant else
    if n == 43 then Some KeyExists else
    if n == 44 then Some NoSuchKeyName else
    if n == 45 then Some InvalidName else
    if n == 46 then Some InvalidQuota else
    if n == 47 then Some NotAHostFile else
    if n == 48 then Some Unavailable else
    if n == 49 then Some TenantNotEmpty else
    if n == 50 then Some TenantRetained else
    None

pub refusal_at-number_of : (r : Refusal) → refusal_at (number_of r) ≡ Some r
refusal_at-number_of BadRequest = refl
refusal_at-number_of NotImplemented = refl
refusal_at-number_of MissingContentLength = refl
refusal_at-number_of EntityTooLarge = refl
refusal_at-number_of AccessDenied = refl
refusal_at-number_of InvalidAccessKeyId = refl
refusal_at-number_of InvalidUri = refl
refusal_at-number_of InvalidBucketName = refl
refusal_at-number_of KeyTooLong = refl
refusal_at-number_of InvalidArgument = refl
refusal_at-number_of MalformedJson = refl
refusal_at-number_of NoSuchBucket = refl
refusal_at-number_of NoSuchKey = refl
refusal_at-number_of NoSuchVersion = refl
refusal_at-number_of NoSuchUpload = refl
refusal_at-number_of MethodNotAllowed = refl
refusal_at-number_of BucketAlreadyOwnedByYou = refl
refusal_at-number_of BucketNotEmpty = refl
refusal_at-number_of InvalidBucketState = refl
refusal_at-number_of NoSuchLifecycleConfiguration = refl
refusal_at-number_of InvalidPart = refl
refusal_at-number_of InvalidPartOrder = refl
refusal_at-number_of EntityTooSmall = refl
refusal_at-number_of QuotaExceeded = refl
refusal_at-number_of InvalidRange = refl
refusal_at-number_of BadDigest = refl
refusal_at-number_of IncompleteBody = refl
refusal_at-number_of InvalidRequest = refl
refusal_at-number_of CounterExhausted = refl
refusal_at-number_of ClockOutOfRange = refl
refusal_at-number_of ServiceUnavailable = refl
refusal_at-number_of TenantExists = refl
refusal_at-number_of NoSuchTenant = refl
refusal_at-number_of KeyExists = refl
refusal_at-number_of NoSuchKeyName = refl
refusal_at-number_of InvalidName = refl
refusal_at-number_of InvalidQuota = refl
refusal_at-number_of NotAHostFile = refl
refusal_at-number_of Unavailable = refl
refusal_at-number_of TenantNotEmpty = refl
refusal_at-number_of TenantRetained = refl
