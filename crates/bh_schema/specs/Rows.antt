-- The meaning of the columns that are read, which new rows no key forbids, and which bucket may be
-- deleted.
use Rattle.std.specs.Prelude.{◌≡◌, ℕ, true, false, List, filter, Option}
use Rattle.std.specs.List.{list_any}
use Rattle.sqlite_keyed.specs.Lists.{sort_by}
use Rattle.bh_tables.specs.Schema.{Octets}
use Rattle.bh_tables.specs.Typed.{HostRow, TenantRow, KeyRow, BucketRow, VersionRow, RetainRow, Tables, bytes_used}
use Rattle.bh_tables.specs.Shown.{is_tenant, is_key, is_bucket, is_owned_bucket, by_bucket, is_entry, is_version, is_at, is_in_bucket}
use Rattle.bh_tables.specs.Shown.{is_upload_in, is_lock, is_retain, newer, is_ruled}
use Rattle.bh_view.specs.Grouped.{first}
use Rattle.bh_schema.specs.declared.rows.tenants.TenantNumbers.{TenantNumbers}
use Rattle.bh_schema.specs.declared.rows.tenants.TenantAccount.{TenantAccount}
use Rattle.bh_schema.specs.declared.rows.buckets.BucketNumbers.{BucketNumbers}

abbrev pub latest_in : HostRow → ℕ
latest_in h = h.latest

abbrev pub with_stamp : ℕ → HostRow → HostRow
with_stamp n h = record h { latest = n }

abbrev pub tenant_numbers : TenantRow → TenantNumbers
tenant_numbers t = record { quota = t.quota; next_version = t.next_version; next_upload = t.next_upload; next_entry = t.next_entry }

-- with the bytes of its versions and parts
abbrev pub tenant_account : Tables → TenantRow → TenantAccount
tenant_account tables t = record { numbers = tenant_numbers t; used = bytes_used tables.versions tables.parts t.tenant }

abbrev pub until_in : RetainRow → ℕ
until_in r = r.until

abbrev pub secret_in : KeyRow → Octets
secret_in k = k.secret

abbrev pub bucket_numbers : BucketRow → BucketNumbers
bucket_numbers b = record { created = b.created; state = b.state; days = b.days }

-- a tenant's buckets by name, in byte order
abbrev pub listed_buckets : Octets → Tables → List BucketRow
listed_buckets tenant tables = sort_by by_bucket (filter (is_owned_bucket tenant) tables.buckets)

-- a bucket's name, and its creation time in seconds since 1970
abbrev pub entry_in : BucketRow → Octets × ℕ
entry_in b = (b.bucket, b.created)

-- those that have a rule, and their rules
abbrev pub listed_rules : Octets → Tables → List BucketRow
listed_rules tenant tables = sort_by by_bucket (filter (is_ruled tenant) tables.buckets)

abbrev pub rule_in : BucketRow → Octets × Option ℕ
rule_in b = (b.bucket, b.days)

-- the columns of a version without its bytes
pub record SeenHead : Type 0 where
  pub seq : ℕ
  pub id : ℕ
  pub marker : ℕ
  pub stamp : ℕ
  pub size : ℕ
  pub checksum : Octets

abbrev pub seen_head : VersionRow → SeenHead
seen_head v = record { seq = v.seq; id = v.id; marker = v.marker; stamp = v.stamp; size = v.size; checksum = v.checksum }

-- the versions and markers of a key, the newest first, and the newest of them
abbrev pub entries_at : Octets → Octets → Octets → List VersionRow → List VersionRow
entries_at tenant bucket okey versions = sort_by newer (filter (is_at tenant bucket okey) versions)

abbrev pub newest_at : Octets → Octets → Octets → List VersionRow → Option VersionRow
newest_at tenant bucket okey versions = first (entries_at tenant bucket okey versions)

-- ---- rows that may be added

pub record IsNewTenant (tables : Tables) (tenant : Octets) : Type 0 where
  pub free : list_any (is_tenant tenant) tables.tenants ≡ false

pub record IsNewKey (tables : Tables) (tenant name : Octets) : Type 0 where
  pub free : list_any (is_key tenant name) tables.keys ≡ false
  pub owned : list_any (is_tenant tenant) tables.tenants ≡ true

pub record IsNewBucket (tables : Tables) (tenant bucket : Octets) : Type 0 where
  pub free : list_any (is_bucket tenant bucket) tables.buckets ≡ false
  pub owned : list_any (is_tenant tenant) tables.tenants ≡ true

pub record IsNewVersion (tables : Tables) (tenant bucket okey : Octets) (seq id : ℕ) : Type 0 where
  pub unnumbered : list_any (is_entry tenant seq) tables.versions ≡ false
  pub free : list_any (is_version tenant bucket okey id) tables.versions ≡ false
  pub owned : list_any (is_bucket tenant bucket) tables.buckets ≡ true

pub record IsNewLock (tables : Tables) (tenant bucket : Octets) : Type 0 where
  pub free : list_any (is_lock tenant bucket) tables.locks ≡ false
  pub owned : list_any (is_bucket tenant bucket) tables.buckets ≡ true

pub record IsNewRetain (tables : Tables) (tenant : Octets) (seq : ℕ) : Type 0 where
  pub free : list_any (is_retain tenant seq) tables.retains ≡ false
  pub owned : list_any (is_entry tenant seq) tables.versions ≡ true

-- ---- a row that may be deleted

-- the bucket has no version, no marker and no upload, and is not locked
pub record IsEmptyBucket (tables : Tables) (tenant bucket : Octets) : Type 0 where
  pub versions : list_any (is_in_bucket tenant bucket) tables.versions ≡ false
  pub uploads : list_any (is_upload_in tenant bucket) tables.uploads ≡ false
  pub unlocked : list_any (is_lock tenant bucket) tables.locks ≡ false
