-- The check of each stored row, given sums over the other tables.
use Rattle.std.specs.Prelude.{◌≡◌, ℕ, ◌+◌, ◌<◌, ◌≤◌, ◌^◌, [], ◌++◌, length, IsTrue}
use Rattle.std.specs.Str.{IsUtf8}
use Rattle.sqlite.specs.Order.{Row, column}
use Rattle.sqlite.specs.Tree.{Trees}
use Rattle.sqlite_typed.specs.Columns.{bytes_of}
use Rattle.bh_types.specs.Names.{is_object_key}
use Rattle.bh_tables.specs.Typed.{column_number, tenant_of, key_of, bucket_of}
use Rattle.bh_tables.specs.Bodies.{Name}
use Rattle.bh_view.specs.Sound.{IsTenantRow, IsKeyRow, IsBucketRow}
use Rattle.bh_check.specs.Sums.{total, Keeps}
use Rattle.bh_check.specs.declared.measures.Measures.{Measures}
use Rattle.bh_check.specs.declared.rows.PartTotals.{PartTotals}
use Rattle.bh_check.specs.declared.rows.VersionTotals.{VersionTotals}
use Rattle.bh_check.specs.declared.rows.Table.{Table}
use Rattle.bh_check.specs.declared.rows.Table.TheVariants as table
use Rattle.bh_check.specs.declared.totals.Totals.{Totals}
use Rattle.bh_check.specs.declared.totals.TenantTotals.{TenantTotals}
use Rattle.bh_check.specs.declared.totals.BodyTotals.{BodyTotals}
use Rattle.bh_check.specs.declared.totals.DateTotals.{DateTotals}

-- ---- the names of rows

-- a tenant
abbrev pub owner : Row → Name
owner r = (bytes_of (column r 1), 0)

-- a version or an upload of a tenant, a reference's or a block's first two columns
abbrev pub first_two : Row → Name
first_two r = (bytes_of (column r 1), column_number (column r 2))

-- the body of a part
abbrev pub part_body : Row → Name
part_body r = (bytes_of (column r 1), column_number (column r 7))

-- the block of a reference
abbrev pub ref_block : Row → Name
ref_block r = (bytes_of (column r 4), column_number (column r 5))

-- a bucket whose own name is in this column: its tenant's name and its own, and the place at which
-- that begins
abbrev pub bucket_name : ℕ → Row → Name
bucket_name at r = (bytes_of (column r 1) ++ bytes_of (column r at), length (bytes_of (column r 1)))

abbrev pub number_at : ℕ → Row → ℕ
number_at at r = column_number (column r at)

abbrev pub one : Row → ℕ
one r = 1

abbrev pub block_length : Row → ℕ
block_length r = length (bytes_of (column r 3))

-- ---- the sums over the rows of a database

module _ (d : Trees) where
  -- of a tenant: its next numbers, and the sizes of its versions and of its parts
  abbrev pub next_version : Name → ℕ
  next_version = total owner (number_at 3) (d 1)

  abbrev pub next_upload : Name → ℕ
  next_upload = total owner (number_at 4) (d 1)

  abbrev pub next_entry : Name → ℕ
  next_entry = total owner (number_at 5) (d 1)

  abbrev pub version_bytes : Name → ℕ
  version_bytes = total owner (number_at 8) (d 7)

  abbrev pub part_bytes : Name → ℕ
  part_bytes = total owner (number_at 4) (d 18)

  -- of an upload: the sizes of its parts
  abbrev pub upload_bytes : Name → ℕ
  upload_bytes = total first_two (number_at 4) (d 18)

  -- of a body: the sizes and the number of its references, and how many versions and parts have it
  abbrev pub body_bytes : Name → ℕ
  body_bytes = total first_two (number_at 6) (d 12)

  abbrev pub body_refs : Name → ℕ
  body_refs = total first_two one (d 12)

  abbrev pub body_versions : Name → ℕ
  body_versions = total first_two one (d 7)

  abbrev pub body_parts : Name → ℕ
  body_parts = total part_body one (d 18)

  -- of a block: how many references name it, and its length in bytes
  abbrev pub block_refs : Name → ℕ
  block_refs = total ref_block one (d 12)

  abbrev pub block_bytes : Name → ℕ
  block_bytes = total first_two block_length (d 10)

  -- how many rows lock a bucket, and how many date a version
  abbrev pub bucket_locks : Name → ℕ
  bucket_locks = total (bucket_name 2) one (d 26)

  abbrev pub version_dates : Name → ℕ
  version_dates = total first_two one (d 28)

-- ---- they are what was summed

pub record AreTenantTotals (d : Trees) (t : TenantTotals) : Type 0 where
  pub next_version_is : Keeps (next_version d) t.next_version
  pub next_upload_is : Keeps (next_upload d) t.next_upload
  pub next_entry_is : Keeps (next_entry d) t.next_entry
  pub version_bytes_is : Keeps (version_bytes d) t.version_bytes
  pub part_bytes_is : Keeps (part_bytes d) t.part_bytes

pub record AreBodyTotals (d : Trees) (t : BodyTotals) : Type 0 where
  pub bytes_is : Keeps (body_bytes d) t.bytes
  pub refs_is : Keeps (body_refs d) t.refs
  pub versions_is : Keeps (body_versions d) t.versions
  pub parts_is : Keeps (body_parts d) t.parts

pub record AreDateTotals (d : Trees) (t : DateTotals) : Type 0 where
  pub locks_is : Keeps (bucket_locks d) t.locks
  pub dates_is : Keeps (version_dates d) t.dates

pub record AreTotals (d : Trees) (t : Totals) : Type 0 where
  pub tenants_are : AreTenantTotals d t.tenants
  pub bodies_are : AreBodyTotals d t.bodies
  pub dates_are : AreDateTotals d t.dates
  pub upload_bytes_is : Keeps (upload_bytes d) t.upload_bytes
  pub block_refs_is : Keeps (block_refs d) t.block_refs
  pub block_bytes_is : Keeps (block_bytes d) t.block_bytes

-- ---- the check of one row

-- of a tenant, given the bytes of its versions and its parts: `used` is their sum
pub record IsTenantBy (versions parts : ℕ) (r : Row) : Type 0 where
  pub good : IsTenantRow (tenant_of r)
  pub used : number_at 6 r ≡ versions + parts
  pub bounded : number_at 6 r ≤ 2 ^ 60

-- of a version, given its tenant's next numbers, and its body's bytes and number of references
pub record IsVersionBy (latest next_entry next_version bytes refs : ℕ) (r : Row) : Type 0 where
  pub key : IsTrue (is_object_key (bytes_of (column r 4)))
  pub text : IsUtf8 (bytes_of (column r 4))
  pub marker : number_at 6 r ≤ 1
  pub bare : number_at 6 r ≡ 1 → (refs ≡ 0) × (bytes_of (column r 9) ≡ [])
  pub stamp : number_at 7 r ≤ latest
  pub size : number_at 8 r ≡ bytes
  pub seq : number_at 2 r < next_entry
  pub id : number_at 5 r < next_version

-- of a reference, given how many versions and parts have its body, and its block's size
pub record IsRefBy (versions parts bytes : ℕ) (r : Row) : Type 0 where
  pub owned : 0 < versions + parts
  pub measured : number_at 6 r ≡ bytes

-- of an upload, given its parts' bytes: `bytes_kept` is that
pub record IsUploadBy (latest next_upload bytes : ℕ) (r : Row) : Type 0 where
  pub key : IsTrue (is_object_key (bytes_of (column r 4)))
  pub text : IsUtf8 (bytes_of (column r 4))
  pub begun : number_at 5 r ≤ latest
  pub given : number_at 2 r < next_upload
  pub kept : number_at 6 r ≡ bytes

-- of a part, given its body's bytes, and how many versions have that body
pub record IsPartBy (latest next_entry bytes versions : ℕ) (r : Row) : Type 0 where
  pub least : 1 ≤ number_at 3 r
  pub most : number_at 3 r ≤ 10000
  pub stamp : number_at 6 r ≤ latest
  pub given : number_at 7 r < next_entry
  pub size : number_at 4 r ≡ bytes
  pub apart : versions ≡ 0

-- of a bucket, given how many rows lock it: if one does, it is Enabled
pub record IsLockedBy (locks : ℕ) (r : Row) : Type 0 where
  pub enabled : 0 < locks → number_at 4 r ≡ 1

-- of a version, given how many rows date it: if one does, it has a number and is not a marker
pub record IsDatedBy (dates : ℕ) (r : Row) : Type 0 where
  pub numbered : 0 < dates → 1 ≤ number_at 5 r
  pub content : 0 < dates → number_at 6 r ≡ 0

-- and then its bucket is locked, given how many rows lock it
pub record IsKeptBy (dates locks : ℕ) : Type 0 where
  pub locked : 0 < dates → 0 < locks

-- ---- by the rows of a database

module _ (d : Trees) (latest : ℕ) where
  abbrev pub Holds : Table → Row → Type 0
  Holds table.Tenants r = IsTenantBy (version_bytes d (owner r)) (part_bytes d (owner r)) r
  Holds table.Keys r = IsKeyRow (key_of r)
  Holds table.Buckets r = IsBucketRow latest (bucket_of r)
  Holds table.Versions r =
      IsVersionBy latest (next_entry d (owner r)) (next_version d (owner r)) (body_bytes d (first_two r)) (body_refs d (first_two r)) r
  Holds table.Refs r = IsRefBy (body_versions d (first_two r)) (body_parts d (first_two r)) (block_bytes d (ref_block r)) r
  Holds table.Uploads r = IsUploadBy latest (next_upload d (owner r)) (upload_bytes d (first_two r)) r
  Holds table.Parts r = IsPartBy latest (next_entry d (owner r)) (body_bytes d (part_body r)) (body_versions d (part_body r)) r
  Holds table.Locked r = IsLockedBy (bucket_locks d (bucket_name 2 r)) r
  Holds table.Dated r = IsDatedBy (version_dates d (first_two r)) r
  Holds table.Kept r = IsKeptBy (version_dates d (first_two r)) (bucket_locks d (bucket_name 3 r))
  Holds table.Retains r = number_at 3 r ≤ 251_000_000_000

-- ---- what was looked up

abbrev pub AreMeasures : Trees → Measures → Type 0
AreMeasures d m = AreTotals d m.totals

pub record IsVersionMeasured (d : Trees) (latest : ℕ) (r : Row) (by : VersionTotals) : Type 0 where
  pub latest_is : by.latest ≡ latest
  pub entry_is : by.next_entry ≡ next_entry d (owner r)
  pub version_is : by.next_version ≡ next_version d (owner r)
  pub bytes_is : by.bytes ≡ body_bytes d (first_two r)
  pub refs_is : by.refs ≡ body_refs d (first_two r)

pub record IsPartMeasured (d : Trees) (latest : ℕ) (r : Row) (by : PartTotals) : Type 0 where
  pub latest_is : by.latest ≡ latest
  pub entry_is : by.next_entry ≡ next_entry d (owner r)
  pub bytes_is : by.bytes ≡ body_bytes d (part_body r)
  pub versions_is : by.versions ≡ body_versions d (part_body r)
