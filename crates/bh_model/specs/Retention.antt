-- Locked buckets, and their versions' retention dates: S3's Object Lock in compliance mode.
-- Amazon S3 User Guide, "Locking objects with Object Lock"
use Rattle.std.specs.Prelude.{ℕ, Bool, true, false, not, nat_lt, nat_le, Option, Some, None, unwrap_or, ok_or, Result, Ok}
use Rattle.std.specs.FinMap.{get, insert, remove}
use Rattle.bh_types.specs.Outcomes.{◌>>=◌, require}
use Rattle.bh_types.specs.declared.bucket_state.BucketState.{BucketState}
use Rattle.bh_types.specs.declared.bucket_state.BucketState.TheVariants.{Unversioned, Enabled, Suspended}
use Rattle.bh_types.specs.declared.id.VersionId.{VersionId}
use Rattle.bh_types.specs.declared.id.VersionId.TheVariants.{Null, Numbered}
use Rattle.bh_types.specs.declared.refusal.Refusal.{Refusal}
use Rattle.bh_types.specs.declared.refusal.Refusal.TheVariants.{AccessDenied, InvalidArgument, InvalidRequest}
use Rattle.bh_types.specs.declared.wanted.Wanted.{Wanted}
use Rattle.bh_types.specs.declared.wanted.Wanted.TheVariants.{Current, Named, Unknown}
use Rattle.bh_model.specs.FinMaps.{any_value}
use Rattle.bh_model.specs.State.{Octets, Dates, Bucket, State}

-- ---- buckets

-- a locked bucket keeps its versions
-- Amazon S3 User Guide, "Object Lock considerations": versioning can't be suspended
abbrev pub keeps_versions : Bool → BucketState → Bool
keeps_versions locked Unversioned = not locked
keeps_versions locked Enabled = true
keeps_versions locked Suspended = not locked

-- ---- dates of versions

-- the date of a key's version, if it has one; the version `null` has none
abbrev pub date_in : Octets → VersionId → Dates → Option ℕ
date_in key Null dates = None
date_in key (Numbered n) dates = get dates (key, n)

abbrev pub date_of : Octets → VersionId → Bucket → Option ℕ
date_of key id b = date_in key id b.dates

-- the date of the version that a delete deletes by its id
abbrev pub named_date : Octets → Wanted → Bucket → Option ℕ
named_date key Current b = None
named_date key (Named id) b = date_of key id b
named_date key Unknown b = None

-- a version with this date may be deleted from the date on
abbrev pub may_go : Option ℕ → ℕ → Bool
may_go date now = nat_le (unwrap_or date 0) now

-- whether a version of the bucket has a date after a moment
abbrev pub bucket_retains : ℕ → Bucket → Bool
bucket_retains now b = any_value (nat_lt now) b.dates

-- whether one of the tenant's buckets has such a version
abbrev pub retains : ℕ → State → Bool
retains now t = any_value (bucket_retains now) t.buckets

-- ---- a bucket with other dates

abbrev pub dated : Octets → VersionId → ℕ → Dates → Dates
dated key Null date dates = dates
dated key (Numbered n) date dates = insert dates (key, n) date

abbrev pub dated_if : Octets → VersionId → Option ℕ → Dates → Dates
dated_if key id None dates = dates
dated_if key id (Some date) dates = dated key id date dates

abbrev pub with_date : Octets → VersionId → Option ℕ → Bucket → Bucket
with_date key id date b = record b { dates = dated_if key id date b.dates }

-- a version's date is removed with it
abbrev pub undated : Octets → VersionId → Dates → Dates
undated key Null dates = dates
undated key (Numbered n) dates = remove dates (key, n)

abbrev pub undated_by : Octets → Wanted → Dates → Dates
undated_by key Current dates = dates
undated_by key (Named id) dates = undated key id dates
undated_by key Unknown dates = dates

abbrev pub without_date : Octets → Wanted → Bucket → Bucket
without_date key wanted b = record b { dates = undated_by key wanted b.dates }

-- ---- the dates that a request may set

-- a version can have a date in a locked bucket, if it has a number
abbrev pub can_retain : Bool → VersionId → Bool
can_retain locked Null = false
can_retain locked (Numbered n) = locked

-- whether a version that can have a date may have this one: it is after the moment, and not before
-- the version's present date if it has one. None means that the date is invalid
-- Amazon S3 API Reference, PutObjectRetention; Amazon S3 User Guide, "Compliance mode"
abbrev pub may_retain : Bool → Option ℕ → Option ℕ → ℕ → Result (Unit {0}) Refusal
may_retain able present date now = do
  _ ← require able InvalidRequest
  until ← ok_or date InvalidArgument
  _ ← require (nat_lt now until) InvalidArgument
  require (nat_le (unwrap_or present 0) until) AccessDenied

-- the date of a new version, if its request has one
abbrev pub first_date : Bool → Option (Option ℕ) → ℕ → Result (Option ℕ) Refusal
first_date locked None now = Ok None
first_date locked (Some date) now = do
  _ ← may_retain locked None date now
  Ok date
