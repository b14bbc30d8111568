-- The tables after the rows of a tenant were added to them. Each body of its versions and parts is
-- stored, cut into blocks of a size, before the row that has it.
use Rattle.std.specs.Prelude.{◌≡◌, ◌≢◌, ℕ, if◌then◌else◌, max, List, [], ◌∷◌, ◌++◌, map}
use Rattle.sqlite_keyed.specs.Lists.{update_where}
use Rattle.bh_model.specs.State.{Octets}
use Rattle.bh_tables.specs.Bodies.{version_name, part_name, columns_of, resolved, part_columns_of, resolved_part}
use Rattle.bh_tables.specs.Typed.{HostRow, TenantRow, KeyRow, BucketRow, VersionRow, UploadRow, PartRow, LockRow, RetainRow, Tables}
use Rattle.bh_tables.specs.Shown.{is_tenant}
use Rattle.bh_view.specs.Grouped.{same_number}
use Rattle.bh_view.specs.View.{TenantRows, view, latest_of, limits_in}
use Rattle.bh_view.specs.Bodies.{pieces, body_stored, IsSoundHost}

-- ---- rows without bytes

abbrev pub with_tenants : List TenantRow → Tables → Tables
with_tenants rs tables = record tables { tenants = tables.tenants ++ rs }

abbrev pub with_keys : List KeyRow → Tables → Tables
with_keys rs tables = record tables { keys = tables.keys ++ rs }

abbrev pub with_buckets : List BucketRow → Tables → Tables
with_buckets rs tables = record tables { buckets = tables.buckets ++ rs }

abbrev pub with_locks : List LockRow → Tables → Tables
with_locks rs tables = record tables { locks = tables.locks ++ rs }

abbrev pub with_uploads : List UploadRow → Tables → Tables
with_uploads rs tables = record tables { uploads = tables.uploads ++ rs }

abbrev pub with_retains : List RetainRow → Tables → Tables
with_retains rs tables = record tables { retains = tables.retains ++ rs }

-- ---- versions and parts

-- the row of a version, with the bytes of its body, and that of a part
abbrev pub version_after : VersionRow → Tables → Tables
version_after v tables = record tables { versions = tables.versions ++ resolved tables.refs tables.blocks (columns_of v) ∷ [] }

abbrev pub part_after : PartRow → Tables → Tables
part_after p tables = record tables { parts = tables.parts ++ resolved_part tables.refs tables.blocks (part_columns_of p) ∷ [] }

module _ (digest : Octets → Octets) (size : ℕ) where
  -- a delete marker has no body
  abbrev pub with_version : VersionRow → Tables → Tables
  with_version v tables = if same_number v.marker 0 then version_after v
      (body_stored digest (version_name v) 0 (pieces size v.bytes) tables) else version_after v tables

  abbrev pub with_versions : List VersionRow → Tables → Tables
  with_versions [] tables = tables
  with_versions (v ∷ vs) tables = with_versions vs (with_version v tables)

  abbrev pub with_part : PartRow → Tables → Tables
  with_part p tables = part_after p (body_stored digest (part_name p) 0 (pieces size p.bytes) tables)

  abbrev pub with_parts : List PartRow → Tables → Tables
  with_parts [] tables = tables
  with_parts (p ∷ ps) tables = with_parts ps (with_part p tables)

  -- ---- its buckets

  abbrev pub with_contents : TenantRows → Tables → Tables
  with_contents rows tables =
      with_retains rows.retains (with_parts rows.parts (with_uploads rows.uploads (with_versions rows.versions tables)))

-- its own row, its keys, and its buckets
abbrev pub with_names : List TenantRow → TenantRows → Tables → Tables
with_names own rows tables = with_locks rows.locks (with_buckets rows.buckets (with_keys rows.keys (with_tenants own tables)))

-- all rows of a tenant, each after those that it names
abbrev pub with_rows : (Octets → Octets) → ℕ → TenantRows → Tables → Tables
with_rows digest size rows tables = with_contents digest size rows (with_names rows.tenants rows tables)

-- the tenant's next entry gets this number
abbrev pub IsNext : Octets → ℕ → Tables → Type 0
IsNext t next tables = update_where (is_tenant t) (λ r. record r { next_entry = next }) tables.tenants ≡ tables.tenants

-- ---- the effect on the tenants

-- a tenant of other tables is in these as it is there. All other tenants, the limits and the digest
-- function are unchanged, and the last stamp is the later one
pub record IsBrought (digest : Octets → Octets) (t : Octets) (from old new : Tables) : Type 0 where
  pub sound : IsSoundHost digest new
  pub shown : view new t ≡ view from t
  pub others : (u : Octets) → u ≢ t → view new u ≡ view old u
  pub limits : limits_in new ≡ limits_in old
  pub named : map (λ (r : HostRow). r.digest) new.host ≡ map (λ (r : HostRow). r.digest) old.host
  pub latest : latest_of new ≡ max (latest_of old) (latest_of from)

-- so it is if both were sound
abbrev pub IsMoved : (Octets → Octets) → Octets → Tables → Tables → Tables → Type 0
IsMoved digest t from old new =
    (other : Octets → Octets) → IsSoundHost other from → IsSoundHost digest old → IsBrought digest t from old new
