-- The writes of a put or a delete, one call after another.
use Rattle.std.specs.Prelude.{ℕ, ◌++◌, [], ◌∷◌, Option, find, if◌then◌else◌}
use Rattle.std.specs.Option.{option_map_or}
use Rattle.sqlite_keyed.specs.Lists.{update_where, delete_where}
use Rattle.bh_types.specs.Counts.{Counts}
use Rattle.bh_types.specs.declared.bucket_state.BucketState.{BucketState}
use Rattle.bh_types.specs.declared.bucket_state.BucketState.TheVariants.{Unversioned, Enabled, Suspended}
use Rattle.bh_types.specs.Checksums.{checksum_text}
use Rattle.bh_model.specs.State.{Octets, Content, Content.Marker, Content.Body}
use Rattle.bh_tables.specs.Bodies.{resolved, columns_of}
use Rattle.bh_tables.specs.Typed.{Tables}
use Rattle.bh_tables.specs.Shown.{is_tenant, is_version}
use Rattle.bh_view.specs.Bodies.{pieces, body_stored, body_dropped}
use Rattle.bh_view.specs.Put.{entry_row, row_number, counters_row}
use Rattle.bh_objects.specs.Answers.{is_marked}
use Rattle.bh_objects.specs.declared.quotas.Replaced.{Replaced}

-- the counters advanced for a new entry in a bucket of this state
abbrev pub with_counters : BucketState → Counts → Octets → Tables → Tables
with_counters mode after tenant tables =
    record tables { tenants = update_where (is_tenant tenant) (counters_row mode after) tables.tenants }

-- the rows without an entry of a key
abbrev pub without_row : Octets → Octets → Octets → ℕ → Tables → Tables
without_row tenant bucket key number tables =
    record tables { versions = delete_where (is_version tenant bucket key number) tables.versions }

-- without its body either, of this entry number
abbrev pub without_entry : Octets → Octets → Octets → ℕ → ℕ → Tables → Tables
without_entry tenant bucket key number seq tables = without_row tenant bucket key number (body_dropped (tenant, seq) tables)

-- without the entry `null` and its body, if there is one
abbrev pub without_null : Octets → Octets → Octets → Tables → Tables
without_null tenant bucket key tables =
    option_map_or (λ v. without_entry tenant bucket key 0 v.seq tables) (find (is_version tenant bucket key 0) tables.versions) tables

-- without the version `null` and its body: a delete marker of that id stays
abbrev pub without_null_version : Octets → Octets → Octets → Tables → Tables
without_null_version tenant bucket key tables =
    option_map_or (λ v. if is_marked v.marker then tables else without_entry tenant bucket key 0 v.seq tables)
    (find (is_version tenant bucket key 0) tables.versions) tables

-- room for a new entry of a key
abbrev pub with_room : BucketState → Octets → Octets → Octets → Tables → Tables
with_room Unversioned tenant bucket key tables = without_null tenant bucket key tables
with_room Enabled tenant bucket key tables = tables
with_room Suspended tenant bucket key tables = without_null tenant bucket key tables

-- the rows without the entry `null`, if it was found
abbrev pub without_replaced : Octets → Octets → Octets → Option Replaced → Tables → Tables
without_replaced tenant bucket key replaced tables = option_map_or (λ r. without_entry tenant bucket key 0 r.seq tables) replaced tables

-- its row, which has the bytes of its body
abbrev pub with_columns : BucketState → Counts → Octets → Octets → Octets → ℕ → Content → Tables → Tables
with_columns mode before tenant bucket key moment content tables = record tables {
  versions = tables.versions ++ resolved tables.refs tables.blocks
      (columns_of (entry_row tenant bucket key before.entry (row_number mode before.version) moment content)) ∷ [];
}

-- the row of a version of this size and checksum, which has the bytes of its body
abbrev pub with_version : BucketState → Counts → Octets → Octets → Octets → ℕ → ℕ → Octets → Tables → Tables
with_version mode before tenant bucket key moment size checksum tables = record tables {
  versions = tables.versions ++ resolved tables.refs tables.blocks (record {
    tenant = tenant;
    seq = before.entry;
    bucket = bucket;
    okey = key;
    id = row_number mode before.version;
    marker = 0;
    stamp = moment;
    size = size;
    checksum = checksum;
  }) ∷ [];
}

-- ---- a put

-- an object, whose body is stored before the replaced entry is removed, if there is one
abbrev pub object_written : (Octets → Octets) → ℕ → BucketState → Counts → Counts → Option Replaced → Octets → Octets → Octets → ℕ → Octets
    → Tables → Tables
object_written digest size mode before after replaced tenant bucket key moment bytes tables =
    with_columns mode before tenant bucket key moment (Body bytes (checksum_text bytes))
    (without_replaced tenant bucket key replaced (body_stored digest (tenant, before.entry) 0 (pieces size bytes)
    (with_counters mode after tenant tables)))

-- a delete marker
abbrev pub marker_written : BucketState → Counts → Counts → Octets → Octets → Octets → ℕ → Tables → Tables
marker_written mode before after tenant bucket key moment tables =
    with_columns mode before tenant bucket key moment Marker (with_room mode tenant bucket key (with_counters mode after tenant tables))
