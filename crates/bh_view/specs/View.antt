-- One tenant's rows in the tables, and the private machine's state that they represent.
use Rattle.std.specs.Prelude.{ℕ, zero, suc, Bool, ◌&&◌, List, [], map, find, Option, option_map, option_and_then}
use Rattle.std.specs.List.{list_any}
use Rattle.std.specs.Option.{option_map_or}
use Rattle.std.specs.FinMap.{FinMap}
use Rattle.std.specs.Ordering.{nat_cmp}
use Rattle.sqlite_keyed.specs.Lists.{sort_by, delete_where}
use Rattle.sqlite_typed.specs.Tests.{bytes_eq}
use Rattle.bh_types.specs.Limits.{HostLimits}
use Rattle.bh_types.specs.declared.id.VersionId.{VersionId}
use Rattle.bh_types.specs.declared.id.VersionId.TheVariants.{Null, Numbered}
use Rattle.bh_types.specs.declared.bucket_state.BucketState.{BucketState}
use Rattle.bh_types.specs.declared.bucket_state.BucketState.TheVariants.{Unversioned, Enabled, Suspended}
use Rattle.bh_model.specs.State.{Octets, octets_cmp, version_cmp, Content, Content.Marker, Content.Body, Dates, Entry, Part, Upload, Bucket}
use Rattle.bh_model.specs.State.{State, is_stale}
use Rattle.bh_tables.specs.Typed.{HostRow, TenantRow, KeyRow, BucketRow, VersionRow, RefRow, UploadRow, PartRow, LockRow, RetainRow, Tables}
use Rattle.bh_tables.specs.Shown.{Name, same_name, part_name, is_bucket, is_upload, is_of_body, newer}
use Rattle.bh_model.specs.FinMaps.{non_empty}
use Rattle.bh_view.specs.Grouped.{first, matching, same_number, grouped, keyed}

-- the greatest stamp so far, in seconds since 1970
unfoldable pub latest_of : Tables → ℕ
latest_of tables = option_map_or (λ (r : HostRow). r.latest) (first tables.host) 0

-- the limits that the host was created with
unfoldable pub limits_in : Tables → HostLimits
limits_in tables = option_map_or (λ (r : HostRow). record { min_part = r.min_part; max_body = r.max_body }) (first tables.host)
    (record { min_part = 0; max_body = 0 })

-- the tables with this stamp as the last one
abbrev pub with_latest : ℕ → Tables → Tables
with_latest n tables = record tables { host = map (λ (r : HostRow). record r { latest = n }) tables.host }

-- ---- uploads that are deleted

-- whether a tenant's upload of a number is deleted, and so its parts
abbrev pub goes : Octets → (ℕ → Bool) → UploadRow → Bool
goes t gone u = bytes_eq u.tenant t && gone u.upload

abbrev pub part_goes : Octets → (ℕ → Bool) → PartRow → Bool
part_goes t gone p = bytes_eq p.tenant t && gone p.upload

-- whether a reference is of the body of a deleted part
abbrev pub ref_goes : Octets → (ℕ → Bool) → List PartRow → RefRow → Bool
ref_goes t gone parts r = list_any (λ p. part_goes t gone p && is_of_body (part_name p) r) parts

-- the tables without a tenant's uploads of these numbers, their parts, and the references of the
-- parts' bodies
abbrev pub without_uploads : Octets → (ℕ → Bool) → Tables → Tables
without_uploads t gone tables = record tables {
  uploads = delete_where (goes t gone) tables.uploads;
  parts = delete_where (part_goes t gone) tables.parts;
  refs = delete_where (ref_goes t gone tables.parts) tables.refs;
}

-- the rule of a tenant's bucket, if it has one
abbrev pub days_in : Octets → Octets → List BucketRow → Option ℕ
days_in t b buckets = option_and_then (λ (r : BucketRow). r.days) (find (is_bucket t b) buckets)

-- whether a tenant's upload of a number is stale at a moment, by the rule of its bucket
abbrev pub is_stale_in : Octets → ℕ → Tables → ℕ → Bool
is_stale_in t at tables n = list_any (λ u. is_upload t n u && is_stale (days_in t u.bucket tables.buckets) u.begun at) tables.uploads

-- the tables without a tenant's uploads that are stale at a moment
unfoldable pub rows_purged : Octets → ℕ → Tables → Tables
rows_purged t at tables = without_uploads t (is_stale_in t at tables) tables

-- one tenant's rows of each table; `tenants` has its own row, or none
pub record TenantRows : Type 0 where
  pub tenants : List TenantRow
  pub keys : List KeyRow
  pub buckets : List BucketRow
  pub versions : List VersionRow
  pub uploads : List UploadRow
  pub parts : List PartRow
  pub locks : List LockRow
  pub retains : List RetainRow

abbrev pub rows_of : Octets → Tables → TenantRows
rows_of t tables = record {
  tenants = matching bytes_eq (λ (r : TenantRow). r.tenant) t tables.tenants;
  keys = matching bytes_eq (λ (r : KeyRow). r.tenant) t tables.keys;
  buckets = matching bytes_eq (λ (r : BucketRow). r.tenant) t tables.buckets;
  versions = matching bytes_eq (λ (r : VersionRow). r.tenant) t tables.versions;
  uploads = matching bytes_eq (λ (r : UploadRow). r.tenant) t tables.uploads;
  parts = matching bytes_eq (λ (r : PartRow). r.tenant) t tables.parts;
  locks = matching bytes_eq (λ (r : LockRow). r.tenant) t tables.locks;
  retains = matching bytes_eq (λ (r : RetainRow). r.tenant) t tables.retains;
}

abbrev pub named : Octets → List BucketRow → List BucketRow
named = matching bytes_eq (λ r. r.bucket)

abbrev pub in_bucket : Octets → List VersionRow → List VersionRow
in_bucket = matching bytes_eq (λ v. v.bucket)

abbrev pub at_key : Octets → List VersionRow → List VersionRow
at_key = matching bytes_eq (λ v. v.okey)

abbrev pub uploads_in : Octets → List UploadRow → List UploadRow
uploads_in = matching bytes_eq (λ u. u.bucket)

abbrev pub of_upload : ℕ → List PartRow → List PartRow
of_upload = matching same_number (λ p. p.upload)

-- ---- the value of a row

abbrev pub id_of : ℕ → VersionId
id_of zero = Null
id_of (suc n) = Numbered (suc n)

abbrev pub mode_of : ℕ → BucketState
mode_of zero = Unversioned
mode_of (suc zero) = Enabled
mode_of (suc (suc n)) = Suspended

abbrev pub content_of : ℕ → VersionRow → Content
content_of zero r = Body r.bytes r.checksum
content_of (suc n) r = Marker

abbrev pub entry_of : VersionRow → Entry
entry_of r = record { id = id_of r.id; moment = r.stamp; content = content_of r.marker r }

abbrev pub entries_of : List VersionRow → List Entry
entries_of rows = map entry_of (sort_by newer rows)

abbrev pub part_shown : PartRow → Part
part_shown p = record { bytes = p.bytes; moment = p.stamp }

-- ---- the maps of a state

abbrev pub keys_of : List KeyRow → FinMap octets_cmp Octets
keys_of = keyed octets_cmp bytes_eq (λ (r : KeyRow). r.name) (λ _ r. r.secret)

abbrev pub objects_of : List VersionRow → FinMap octets_cmp (List Entry)
objects_of = grouped octets_cmp bytes_eq (λ (r : VersionRow). r.okey) (λ _ rows. non_empty (entries_of rows))

abbrev pub parts_of : List PartRow → FinMap nat_cmp Part
parts_of = keyed nat_cmp same_number (λ (p : PartRow). p.part) (λ _ p. part_shown p)

abbrev pub upload_shown : List PartRow → ℕ → UploadRow → Upload
upload_shown parts number u = record { key = u.okey; begun = u.begun; parts = parts_of (of_upload number parts) }

-- uploads with these parts
abbrev pub uploads_of : List PartRow → List UploadRow → FinMap nat_cmp Upload
uploads_of parts = keyed nat_cmp same_number (λ (u : UploadRow). u.upload) (upload_shown parts)

-- whether a bucket is locked
abbrev pub is_locked : Octets → List LockRow → Bool
is_locked name locks = list_any (λ (l : LockRow). bytes_eq l.bucket name) locks

-- a version by its key and its number
abbrev pub version_name : VersionRow → Name
version_name v = (v.okey, v.id)

-- the date of a version, if a row has one
abbrev pub date_in : List RetainRow → VersionRow → Option ℕ
date_in retains v = option_map (λ (r : RetainRow). r.until) (first (matching same_number (λ r. r.seq) v.seq retains))

-- of versions of one bucket, by their keys and numbers
abbrev pub dates_of : List RetainRow → List VersionRow → Dates
dates_of retains = grouped version_cmp same_name version_name (λ _ rows. option_and_then (date_in retains) (first rows))

abbrev pub bucket_shown : TenantRows → Octets → BucketRow → Bucket
bucket_shown rows name r = record {
  created = r.created;
  mode = mode_of r.state;
  days = r.days;
  objects = objects_of (in_bucket name rows.versions);
  uploads = uploads_of rows.parts (uploads_in name rows.uploads);
  locked = is_locked name rows.locks;
  dates = dates_of rows.retains (in_bucket name rows.versions);
}

abbrev pub buckets_of : TenantRows → FinMap octets_cmp Bucket
buckets_of rows = keyed octets_cmp bytes_eq (λ (r : BucketRow). r.bucket) (bucket_shown rows) rows.buckets

abbrev pub state_of : TenantRows → TenantRow → State
state_of rows r = record {
  quota = r.quota;
  keys = keys_of rows.keys;
  next_version = r.next_version;
  next_upload = r.next_upload;
  next_entry = r.next_entry;
  buckets = buckets_of rows;
}

abbrev pub state_shown : TenantRows → Option State
state_shown rows = option_map (state_of rows) (first rows.tenants)

-- the state of the tenant of this name, or none if no tenant has it
unfoldable pub view : Tables → Octets → Option State
view tables t = state_shown (rows_of t tables)
