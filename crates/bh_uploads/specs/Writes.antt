-- The writes of operations on uploads, one call after another.
use Rattle.std.specs.Prelude.{ℕ, ◌+◌, List, [], ◌∷◌, ◌++◌, map, Option}
use Rattle.std.specs.Option.{option_map_or}
use Rattle.sqlite_keyed.specs.Lists.{update_where, delete_where}
use Rattle.bh_types.specs.Counts.{Counts}
use Rattle.bh_types.specs.declared.bucket_state.BucketState.{BucketState}
use Rattle.bh_model.specs.State.{Octets}
use Rattle.bh_tables.specs.Bodies.{resolved_part, part_columns_of}
use Rattle.bh_tables.specs.Typed.{PartRow, PartColumns, Tables}
use Rattle.bh_tables.specs.Shown.{is_tenant, is_upload, is_part, is_part_of}
use Rattle.bh_view.specs.Bodies.{pieces, body_stored, body_dropped, bodies_joined}
use Rattle.bh_view.specs.Put.{part_row}
use Rattle.bh_objects.specs.Writes.{with_counters, with_room, with_version}

-- ---- an upload begins

abbrev pub with_next_upload : Octets → ℕ → Tables → Tables
with_next_upload tenant n tables =
    record tables { tenants = update_where (is_tenant tenant) (λ t. record t { next_upload = n }) tables.tenants }

-- the upload with this number, which the tenant's counter returned
abbrev pub upload_written : Octets → Octets → Octets → ℕ → ℕ → Tables → Tables
upload_written tenant bucket key begun n tables = record tables {
  tenants = update_where (is_tenant tenant) (λ t. record t { next_upload = n + 1 }) tables.tenants;
  uploads = tables.uploads ++ record { tenant = tenant; upload = n; bucket = bucket; okey = key; begun = begun } ∷ [];
}

-- ---- a part is stored

abbrev pub with_next_entry : Octets → ℕ → Tables → Tables
with_next_entry tenant n tables =
    record tables { tenants = update_where (is_tenant tenant) (λ t. record t { next_entry = n }) tables.tenants }

-- without the row of a part, and then without its body, of this entry number
abbrev pub without_part : Octets → ℕ → ℕ → ℕ → Tables → Tables
without_part tenant upload part body tables =
    body_dropped (tenant, body) (record tables { parts = delete_where (is_part tenant upload part) tables.parts })

-- without the part of this number, whose body this is, if one is replaced
abbrev pub without_replaced : Octets → ℕ → ℕ → Option ℕ → Tables → Tables
without_replaced tenant upload part replaced tables = option_map_or (λ body. without_part tenant upload part body tables) replaced tables

-- the row of a part, which has the bytes of its body
abbrev pub with_part_row : PartRow → Tables → Tables
with_part_row p tables = record tables { parts = tables.parts ++ resolved_part tables.refs tables.blocks (part_columns_of p) ∷ [] }

-- a part in the place of the one with its number, whose body stays for now, under the entry number
-- before this one
abbrev pub part_placed : PartColumns → ℕ → Tables → Tables
part_placed p next tables = with_next_entry p.tenant next (record tables {
  parts = delete_where (is_part p.tenant p.upload p.part) tables.parts ++ resolved_part tables.refs tables.blocks p ∷ [];
})

-- without the body of the part that was replaced
abbrev pub without_body_of : Octets → Option ℕ → Tables → Tables
without_body_of tenant replaced tables = option_map_or (λ body. body_dropped (tenant, body) tables) replaced tables

-- a part of these bytes under an entry number; its body is stored before that of the replaced part
-- is deleted
abbrev pub part_written : (Octets → Octets) → ℕ → Octets → ℕ → ℕ → Octets → ℕ → ℕ → Option ℕ → Tables → Tables
part_written digest size tenant upload part bytes moment entry replaced tables =
    with_part_row (part_row tenant upload part bytes moment entry)
    (without_replaced tenant upload part replaced (body_stored digest (tenant, entry) 0 (pieces size bytes)
    (with_next_entry tenant (entry + 1) tables)))

-- ---- an upload is completed

-- a version that is joined: its body gets the blocks of the parts' bodies before the replaced entry
-- is removed
abbrev pub version_written : BucketState → Counts → Counts → Octets → Octets → Octets → ℕ → ℕ → Octets → List ℕ → Tables → Tables
version_written mode before after tenant bucket key moment size checksum bodies tables =
    with_version mode before tenant bucket key moment size checksum
    (with_room mode tenant bucket key (bodies_joined (map (λ body. (tenant, body)) bodies) (tenant, before.entry)
    (with_counters mode after tenant tables)))

-- ---- an upload is deleted

abbrev pub without_bodies : Octets → List ℕ → Tables → Tables
without_bodies tenant [] tables = tables
without_bodies tenant (body ∷ bodies) tables = without_bodies tenant bodies (body_dropped (tenant, body) tables)

abbrev pub without_parts : Octets → ℕ → Tables → Tables
without_parts tenant upload tables = record tables { parts = delete_where (is_part_of tenant upload) tables.parts }

abbrev pub without_row : Octets → ℕ → Tables → Tables
without_row tenant upload tables = record tables { uploads = delete_where (is_upload tenant upload) tables.uploads }

-- its parts first, then their bodies
abbrev pub upload_closed : Octets → ℕ → List ℕ → Tables → Tables
upload_closed tenant upload bodies tables = without_row tenant upload (without_bodies tenant bodies (without_parts tenant upload tables))
