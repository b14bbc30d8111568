-- Sound tables: the invariants of each row, alone and among the others.
use Rattle.std.specs.Prelude.{◌≡◌, ℕ, ◌<◌, ◌≤◌, true, false, is_some, List, [], ◌∷◌, length, Option, Some, None, IsTrue}
use Rattle.std.specs.Str.{IsUtf8}
use Rattle.std.specs.List.{AllByRecursion, list_any}
use Rattle.sqlite_typed.specs.Tests.{bytes_eq}
use Rattle.bh_types.specs.Names.{is_tenant_name, is_key_name, is_secret, is_bucket_name, is_object_key}
use Rattle.bh_types.specs.Checksums.{checksum_text}
use Rattle.bh_types.specs.Counts.{AreCounters}
use Rattle.bh_types.specs.Limits.{AreLimits, IsQuota}
use Rattle.bh_model.specs.State.{Octets}
use Rattle.bh_model.specs.Runs.{last_reading}
use Rattle.bh_tables.specs.Typed.{HostRow, TenantRow, KeyRow, BucketRow, VersionRow, UploadRow, PartRow, LockRow, RetainRow, Tables}
use Rattle.bh_view.specs.Grouped.{first, same_number, HasUnique, Refers}
use Rattle.bh_view.specs.Blocks.{AreStored}
use Rattle.bh_view.specs.View.{TenantRows, rows_of, in_bucket, at_key, of_upload, is_locked, date_in, latest_of}

-- ---- the row of the host

-- of version 5, with blocks named by a function that has a number; the last stamp is in seconds since 1970
pub record IsHostRow (r : HostRow) : Type 0 where
  pub version : r.version ≡ 5
  pub digest : r.digest ≤ 1
  pub latest : r.latest ≤ last_reading
  pub limits : AreLimits r.min_part r.max_body

-- one row
pub record IsHostTable (rows : List HostRow) : Type 0 where
  pub row : HostRow
  pub alone : rows ≡ row ∷ []
  pub good : IsHostRow row

-- ---- the rows of one tenant

pub record IsTenantRow (r : TenantRow) : Type 0 where
  pub name : IsTrue (is_tenant_name r.tenant)
  pub quota : IsQuota r.quota
  pub counters : AreCounters r.next_version r.next_upload r.next_entry

pub record AreTenants (tenants : List TenantRow) : Type 0 where
  pub each : AllByRecursion IsTenantRow tenants
  pub one : length tenants ≤ 1

pub record IsKeyRow (r : KeyRow) : Type 0 where
  pub name : IsTrue (is_key_name r.name)
  pub secret : IsTrue (is_secret r.secret)

-- one row for a name, and each has its tenant
pub record AreKeys (tenants : List TenantRow) (keys : List KeyRow) : Type 0 where
  pub each : AllByRecursion IsKeyRow keys
  pub one : HasUnique bytes_eq (λ (r : KeyRow). r.name) keys
  pub owned : first tenants ≡ None → keys ≡ []

-- a rule has 1 to 3,650 days
abbrev pub AreDays : Option ℕ → Type 0
AreDays None = Unit {0}
AreDays (Some days) = (1 ≤ days) × (days ≤ 3650)

pub record IsBucketRow (latest : ℕ) (r : BucketRow) : Type 0 where
  pub name : IsTrue (is_bucket_name r.bucket)
  pub created : r.created ≤ latest
  pub state : r.state ≤ 2
  pub days : AreDays r.days

-- one row for a name, and each has its tenant
pub record AreBuckets (latest : ℕ) (tenants : List TenantRow) (buckets : List BucketRow) : Type 0 where
  pub each : AllByRecursion (IsBucketRow latest) buckets
  pub one : HasUnique bytes_eq (λ (r : BucketRow). r.bucket) buckets
  pub owned : first tenants ≡ None → buckets ≡ []

-- a marker has no bytes and an empty checksum
pub record IsVersionRow (latest : ℕ) (r : VersionRow) : Type 0 where
  pub key : IsTrue (is_object_key r.okey)
  pub text : IsUtf8 r.okey
  pub marker : r.marker ≤ 1
  pub bare : r.marker ≡ 1 → (r.bytes ≡ []) × (r.checksum ≡ [])
  pub stamp : r.stamp ≤ latest
  pub size : r.size ≡ length r.bytes

-- a row's numbers are less than the tenant's next ones
pub record IsBelow (v : VersionRow) (r : TenantRow) : Type 0 where
  pub seq : v.seq < r.next_entry
  pub id : v.id < r.next_version

-- no two rows have the same number, no two of a key the same id, and each has its bucket
pub record AreVersions (latest : ℕ) (tenants : List TenantRow) (buckets : List BucketRow) (versions : List VersionRow) : Type 0 where
  pub each : AllByRecursion (IsVersionRow latest) versions
  pub one_seq : HasUnique same_number (λ (v : VersionRow). v.seq) versions
  pub one_id : (bucket okey : Octets) → HasUnique same_number (λ (v : VersionRow). v.id) (at_key okey (in_bucket bucket versions))
  pub owned : Refers bytes_eq (λ (r : BucketRow). r.bucket) buckets (λ (v : VersionRow). v.bucket) versions
  pub given : AllByRecursion (λ (r : TenantRow). AllByRecursion (λ v. IsBelow v r) versions) tenants

pub record IsUploadRow (latest : ℕ) (r : UploadRow) : Type 0 where
  pub key : IsTrue (is_object_key r.okey)
  pub text : IsUtf8 r.okey
  pub begun : r.begun ≤ latest

-- no two rows have the same number, each has its bucket, and each number is less than the tenant's
-- next one
pub record AreUploads (latest : ℕ) (tenants : List TenantRow) (buckets : List BucketRow) (uploads : List UploadRow) : Type 0 where
  pub each : AllByRecursion (IsUploadRow latest) uploads
  pub one : HasUnique same_number (λ (u : UploadRow). u.upload) uploads
  pub owned : Refers bytes_eq (λ (r : BucketRow). r.bucket) buckets (λ (u : UploadRow). u.bucket) uploads
  pub given : AllByRecursion (λ (r : TenantRow). AllByRecursion (λ (u : UploadRow). u.upload < r.next_upload) uploads) tenants

-- its size and checksum are those of its bytes
pub record IsPartRow (latest : ℕ) (r : PartRow) : Type 0 where
  pub least : 1 ≤ r.part
  pub most : r.part ≤ 10000
  pub stamp : r.stamp ≤ latest
  pub size : r.size ≡ length r.bytes
  pub checksum : r.checksum ≡ checksum_text r.bytes

-- no two rows of an upload have one number, and none is without its upload. None of their bodies is
-- another's or a version's, and each number was given before the tenant's next entry number
pub record AreParts (latest : ℕ) (tenants : List TenantRow) (versions : List VersionRow) (uploads : List UploadRow) (parts : List PartRow) :
    Type 0 where
  pub each : AllByRecursion (IsPartRow latest) parts
  pub one : (upload : ℕ) → HasUnique same_number (λ (p : PartRow). p.part) (of_upload upload parts)
  pub one_body : HasUnique same_number (λ (p : PartRow). p.body) parts
  pub apart : AllByRecursion (λ (p : PartRow). list_any (λ (v : VersionRow). same_number v.seq p.body) versions ≡ false) parts
  pub owned : Refers same_number (λ (u : UploadRow). u.upload) uploads (λ (p : PartRow). p.upload) parts
  pub given : AllByRecursion (λ (r : TenantRow). AllByRecursion (λ (p : PartRow). p.body < r.next_entry) parts) tenants

-- one row for a bucket, which exists, and a locked bucket is Enabled
pub record AreLocks (buckets : List BucketRow) (locks : List LockRow) : Type 0 where
  pub one : HasUnique bytes_eq (λ (l : LockRow). l.bucket) locks
  pub owned : Refers bytes_eq (λ (r : BucketRow). r.bucket) buckets (λ (l : LockRow). l.bucket) locks
  pub enabled : AllByRecursion (λ (r : BucketRow). is_locked r.bucket locks ≡ true → r.state ≡ 1) buckets

-- a version that may have a date: one with a number, that is not a marker and in a locked bucket
pub record MayBeDated (locks : List LockRow) (v : VersionRow) : Type 0 where
  pub numbered : 1 ≤ v.id
  pub content : v.marker ≡ 0
  pub locked : is_locked v.bucket locks ≡ true

-- one row for a version, none without its version, and a date is a moment; it may be after the last
-- stamp
pub record AreRetains (versions : List VersionRow) (locks : List LockRow) (retains : List RetainRow) : Type 0 where
  pub each : AllByRecursion (λ (r : RetainRow). r.until ≤ 251_000_000_000) retains
  pub one : HasUnique same_number (λ (r : RetainRow). r.seq) retains
  pub owned : Refers same_number (λ (v : VersionRow). v.seq) versions (λ (r : RetainRow). r.seq) retains
  pub kept : AllByRecursion (λ v. is_some (date_in retains v) ≡ true → MayBeDated locks v) versions

-- the rows of one tenant, with no moment but versions' dates after the last stamp
pub record AreSound (latest : ℕ) (rows : TenantRows) : Type 0 where
  pub tenants : AreTenants rows.tenants
  pub keys : AreKeys rows.tenants rows.keys
  pub buckets : AreBuckets latest rows.tenants rows.buckets
  pub versions : AreVersions latest rows.tenants rows.buckets rows.versions
  pub uploads : AreUploads latest rows.tenants rows.buckets rows.uploads
  pub parts : AreParts latest rows.tenants rows.versions rows.uploads rows.parts
  pub locks : AreLocks rows.buckets rows.locks
  pub retains : AreRetains rows.versions rows.locks rows.retains

-- ---- all tables

pub record IsSound (tables : Tables) : Type 0 where
  pub host : IsHostTable tables.host
  pub tenants : (t : Octets) → AreSound (latest_of tables) (rows_of t tables)
  pub stored : AreStored tables.refs tables.blocks
