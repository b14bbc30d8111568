-- The state of one tenant's private machine. It consists of finite maps, so two states that answer
-- alike are equal values.
use Rattle.std.specs.Prelude.{ℕ, ◌+◌, ◌-◌, ◌*◌, ◌/◌, Bool, false, nat_le, List, length, Option, Some, None, if◌then◌else◌}
use Rattle.std.specs.List.{sum_by}
use Rattle.std.specs.Ordering.{nat_cmp, ordering_then}
use Rattle.std.specs.declared.cmp.Ordering.{Ordering}
use Rattle.std.specs.Cmp.Lexicographic.{slice_cmp}
use Rattle.std.specs.FinMap.{FinMap, empty}
use Rattle.bh_types.specs.Moments.{abort_moment}
use Rattle.bh_types.specs.declared.id.VersionId.{VersionId}
use Rattle.bh_types.specs.declared.bucket_state.BucketState.{BucketState}
use Rattle.bh_types.specs.declared.bucket_state.BucketState.TheVariants.{Unversioned, Enabled}
use Rattle.bh_model.specs.FinMaps.{adjusted, total}

-- names, keys, secrets, texts and bodies, as their bytes
abbrev pub Octets : Type 0
Octets = List ℕ

abbrev pub octets_cmp : Octets → Octets → Ordering
octets_cmp = slice_cmp nat_cmp

-- a delete marker, or an object's whole bytes with the text of their checksum
pub data Content : Type 0 where
  Marker : Content
  Body : (bytes checksum : Octets) → Content

-- a version or a delete marker of one key; moments are seconds since 1970
-- Amazon S3 User Guide, "Working with delete markers"
pub record Entry : Type 0 where
  pub id : VersionId
  pub moment : ℕ
  pub content : Content

pub record Part : Type 0 where
  pub bytes : Octets
  pub moment : ℕ

-- an unfinished multipart upload; its parts by number
-- Amazon S3 API Reference, CreateMultipartUpload, UploadPart
pub record Upload : Type 0 where
  pub key : Octets
  pub begun : ℕ
  pub parts : FinMap nat_cmp Part

-- versions by their keys, and then by their numbers
abbrev pub version_cmp : Octets × ℕ → Octets × ℕ → Ordering
version_cmp a b = ordering_then (octets_cmp a.0 b.0) (nat_cmp a.1 b.1)

-- the versions' retention dates, in seconds since 1970
abbrev pub Dates : Type 0
Dates = FinMap version_cmp ℕ

-- `days` is the bucket's rule for unfinished uploads, if it has one. The entries of a key are
-- newest first, and a key without entries is not in `objects`. Uploads are ordered by number. Only
-- versions of a `locked` bucket have dates
-- Amazon S3 API Reference, CreateBucket, PutBucketVersioning, PutBucketLifecycleConfiguration, PutObjectRetention
pub record Bucket : Type 0 where
  pub created : ℕ
  pub mode : BucketState
  pub days : Option ℕ
  pub objects : FinMap octets_cmp (List Entry)
  pub uploads : FinMap nat_cmp Upload
  pub locked : Bool
  pub dates : Dates

-- `keys` has the secret of each access key's name. Each counter is its next number
pub record State : Type 0 where
  pub quota : ℕ
  pub keys : FinMap octets_cmp Octets
  pub next_version : ℕ
  pub next_upload : ℕ
  pub next_entry : ℕ
  pub buckets : FinMap octets_cmp Bucket

-- a tenant that doesn't exist has no state
abbrev pub absent : Option State
absent = None

abbrev pub new_tenant : ℕ → State
new_tenant quota = record { quota = quota; keys = empty; next_version = 1; next_upload = 1; next_entry = 1; buckets = empty }

-- Amazon S3 User Guide, "Object Lock considerations": a locked bucket is Enabled from its creation
-- on
abbrev pub new_bucket : ℕ → Bool → Bucket
new_bucket created locked = record {
  created = created;
  mode = if locked then Enabled else Unversioned;
  days = None;
  objects = empty;
  uploads = empty;
  locked = locked;
  dates = empty;
}

-- sizes, in bytes
abbrev pub content_size : Content → ℕ
content_size Marker = 0
content_size (Body bytes checksum) = length bytes

abbrev pub entry_size : Entry → ℕ
entry_size e = content_size e.content

abbrev pub part_size : Part → ℕ
part_size p = length p.bytes

abbrev pub upload_used : Upload → ℕ
upload_used u = total part_size u.parts

abbrev pub bucket_used : Bucket → ℕ
bucket_used b = total (sum_by entry_size) b.objects + total upload_used b.uploads

-- the bytes of all bodies and of all parts
abbrev pub used : State → ℕ
used s = total bucket_used s.buckets

-- whether an upload is stale now. Under a rule of d days, one that began on day n since 1970 is
-- stale from the first second of day n + d + 1 on
-- Amazon S3 API Reference, AbortIncompleteMultipartUpload
abbrev pub is_stale : Option ℕ → ℕ → ℕ → Bool
is_stale None begun now = false
is_stale (Some days) begun now = nat_le (abort_moment begun days) now

-- so an upload from before this moment is
abbrev pub stale_before : ℕ → ℕ → ℕ
stale_before days now = 86400 * (now / 86400 - days)

-- an upload, if it is not stale
abbrev pub fresh : Option ℕ → ℕ → Upload → Option Upload
fresh days now u = if is_stale days u.begun now then None else Some u

abbrev pub purged_bucket : ℕ → Bucket → Bucket
purged_bucket now b = record b { uploads = adjusted (fresh b.days now) b.uploads }

-- the state without the uploads that are stale now; its counters don't change
abbrev pub purged : State → ℕ → State
purged s now = record s { buckets = adjusted (λ b. Some (purged_bucket now b)) s.buckets }
