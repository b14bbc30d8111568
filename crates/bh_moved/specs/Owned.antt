-- The tables in which a tenant has rows: a row of each, and the tables after it was added to a
-- tenant's from another host.
use Rattle.std.specs.Prelude.{ℕ, if◌then◌else◌, List, [], ◌∷◌, Option, Some, None}
use Rattle.sqlite.specs.Order.{Row}
use Rattle.bh_tables.specs.Schema.{Octets}
use Rattle.bh_tables.specs.Typed.{KeyRow, BucketRow, VersionRow, UploadRow, PartRow, LockRow, RetainRow, Tables}
use Rattle.bh_view.specs.Grouped.{same_number}
use Rattle.bh_view.specs.View.{TenantRows}
use Rattle.bh_tenant_rows.specs.Brought.{with_keys, with_buckets, with_locks, with_uploads, with_retains, version_after, with_version}
use Rattle.bh_tenant_rows.specs.Brought.{part_after, with_part}
use Rattle.bh_tenant_rows.specs.Shown.{shown_key, shown_bucket, shown_lock, shown_version, shown_upload, shown_part, shown_retain}
use Rattle.bh_tenant_rows.specs.declared.reads.Owned.{Owned}
use Rattle.bh_tenant_rows.specs.declared.reads.Owned.TheVariants as owned
use Rattle.bh_moved.specs.Parts.{own_part, part_of}
use Rattle.bh_moved.specs.Rows.{key_of, bucket_of, lock_of, upload_of, retain_of, own_version, version_of}

abbrev pub RowIn : Owned → Type 0
RowIn owned.Keys = KeyRow
RowIn owned.Buckets = BucketRow
RowIn owned.Locks = LockRow
RowIn owned.Versions = VersionRow
RowIn owned.Uploads = UploadRow
RowIn owned.Parts = PartRow
RowIn owned.Retains = RetainRow

abbrev pub shown_row : (table : Owned) → RowIn table → Row
shown_row owned.Keys = shown_key
shown_row owned.Buckets = shown_bucket
shown_row owned.Locks = shown_lock
shown_row owned.Versions = shown_version
shown_row owned.Uploads = shown_upload
shown_row owned.Parts = shown_part
shown_row owned.Retains = shown_retain

-- those among a tenant's rows
abbrev pub rows_in : (table : Owned) → TenantRows → List (RowIn table)
rows_in owned.Keys rows = rows.keys
rows_in owned.Buckets rows = rows.buckets
rows_in owned.Locks rows = rows.locks
rows_in owned.Versions rows = rows.versions
rows_in owned.Uploads rows = rows.uploads
rows_in owned.Parts rows = rows.parts
rows_in owned.Retains rows = rows.retains

-- the name of a row's body, if it has one
abbrev pub body_in : (table : Owned) → RowIn table → Option ℕ
body_in owned.Versions v = if same_number v.marker 0 then Some v.seq else None
body_in owned.Parts p = Some p.body
body_in owned.Keys k = None
body_in owned.Buckets b = None
body_in owned.Locks l = None
body_in owned.Uploads u = None
body_in owned.Retains r = None

-- of the tables whose rows may have bodies
abbrev pub IfBodied : Owned → Type 0 → Type 0
IfBodied owned.Versions P = P
IfBodied owned.Parts P = P
IfBodied owned.Keys P = Unit {0}
IfBodied owned.Buckets P = Unit {0}
IfBodied owned.Locks P = Unit {0}
IfBodied owned.Uploads P = Unit {0}
IfBodied owned.Retains P = Unit {0}

-- with a row of another tenant, whose body was stored
abbrev pub row_after : Octets → (table : Owned) → RowIn table → Tables → Tables
row_after t owned.Keys k = with_keys (key_of t k ∷ [])
row_after t owned.Buckets b = with_buckets (bucket_of t b ∷ [])
row_after t owned.Locks l = with_locks (lock_of t l ∷ [])
row_after t owned.Versions v = version_after (own_version t v)
row_after t owned.Uploads u = with_uploads (upload_of t u ∷ [])
row_after t owned.Parts p = part_after (own_part t p)
row_after t owned.Retains r = with_retains (retain_of t r ∷ [])

-- with a row and its body in other tables, in blocks of this size that a digest names
abbrev pub row_added : (Octets → Octets) → ℕ → Octets → Tables → (table : Owned) → RowIn table → Tables → Tables
row_added digest size t from owned.Keys k = with_keys (key_of t k ∷ [])
row_added digest size t from owned.Buckets b = with_buckets (bucket_of t b ∷ [])
row_added digest size t from owned.Locks l = with_locks (lock_of t l ∷ [])
row_added digest size t from owned.Versions v = with_version digest size (version_of t from v)
row_added digest size t from owned.Uploads u = with_uploads (upload_of t u ∷ [])
row_added digest size t from owned.Parts p = with_part digest size (part_of t from p)
row_added digest size t from owned.Retains r = with_retains (retain_of t r ∷ [])
