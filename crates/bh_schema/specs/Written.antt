-- The tables after a version is added or deleted, and after a tenant's next numbers changed.
use Rattle.std.specs.Prelude.{ℕ, [], ◌∷◌, ◌++◌, find}
use Rattle.std.specs.Option.{option_map_or}
use Rattle.sqlite_keyed.specs.Lists.{update_where, delete_where}
use Rattle.bh_tables.specs.Schema.{Octets}
use Rattle.bh_tables.specs.Typed.{VersionColumns, Tables}
use Rattle.bh_tables.specs.Bodies.{resolved}
use Rattle.bh_tables.specs.Shown.{is_tenant, is_version}
use Rattle.bh_schema.specs.declared.rows.versions.NewVersion.{NewVersion}
use Rattle.bh_schema.specs.declared.rows.versions.NewMarker.{NewMarker}

-- as it is stored
abbrev pub version_columns_of : NewVersion → VersionColumns
version_columns_of v = record {
  tenant = v.tenant.now;
  seq = v.seq;
  bucket = v.bucket.now;
  okey = v.okey.now;
  id = v.id;
  marker = 0;
  stamp = v.stamp;
  size = v.size;
  checksum = v.checksum.now;
}

abbrev pub with_version : NewVersion → Tables → Tables
with_version v rows = record rows { versions = rows.versions ++ resolved rows.refs rows.blocks (version_columns_of v) ∷ [] }

-- a marker has no bytes
abbrev pub marker_columns_of : NewMarker → VersionColumns
marker_columns_of m = record {
  tenant = m.tenant.now;
  seq = m.seq;
  bucket = m.bucket.now;
  okey = m.okey.now;
  id = m.id;
  marker = 1;
  stamp = m.stamp;
  size = 0;
  checksum = [];
}

abbrev pub with_marker : NewMarker → Tables → Tables
with_marker m rows = record rows { versions = rows.versions ++ resolved rows.refs rows.blocks (marker_columns_of m) ∷ [] }

-- without the entry of a key with this id; 0 is `null`
abbrev pub without_version : Octets → Octets → Octets → ℕ → Tables → Tables
without_version tenant bucket okey id rows = record rows { versions = delete_where (is_version tenant bucket okey id) rows.versions }

-- the bytes of that entry, if there is one
abbrev pub bytes_of_id : Octets → Octets → Octets → ℕ → Tables → ℕ
bytes_of_id tenant bucket okey id rows = option_map_or (λ v. v.size) (find (is_version tenant bucket okey id) rows.versions) 0

-- with a new tenant, whose counters begin at 1
abbrev pub with_tenant : Octets → ℕ → Tables → Tables
with_tenant tenant quota rows = record rows {
  tenants = rows.tenants
      ++ record { tenant = tenant; quota = quota; next_version = 1; next_upload = 1; next_entry = 1 } ∷ [];
}

-- the tenant's next entry gets this number
abbrev pub with_next : Octets → ℕ → Tables → Tables
with_next tenant next rows = record rows { tenants = update_where (is_tenant tenant) (λ t. record t { next_entry = next }) rows.tenants }

-- its next numbered version and next entry get these
abbrev pub with_numbers : Octets → ℕ → ℕ → Tables → Tables
with_numbers tenant version entry rows =
    record rows { tenants = update_where (is_tenant tenant) (λ t. record t { next_version = version; next_entry = entry }) rows.tenants }
