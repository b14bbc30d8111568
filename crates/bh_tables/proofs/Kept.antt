-- The columns of a typed row are stored as they are.
use Rattle.std.proofs.Common.{◌≡◌, ℤ, refl, Option, Some, None, []}
use Rattle.sqlite.specs.Cast.{cast_all}
use Rattle.bh_rows.proofs.InsertLemmas.{cast_int, cast_null}
use Rattle.bh_tables.specs.Schema.{host_table, tenants_table, keys_table, buckets_table, versions_table, blocks_table, refs_table, uploads_table, parts_table, uses_table, locks_table, retains_table, tallies_table, unneeded_table, packs_table, placed_table}
use Rattle.bh_tables.specs.Typed.{HostRow, host_columns, TenantRow, tenant_columns, KeyRow, key_columns, BucketRow, bucket_columns, VersionColumns, version_columns, BlockRow, block_columns, UseRow, use_columns, RefRow, ref_columns, UploadRow, upload_columns, PartColumns, part_columns, LockRow, lock_columns, RetainRow, retain_columns, TallyRow, tally_columns, GarbageRow, garbage_columns, PackRow, pack_columns, PlaceRow, place_columns}

pub host_kept : (h : HostRow) → cast_all host_table.columns (host_columns h) ≡ host_columns h
host_kept h = rw cast_null (simp cast_int)

pub tenant_kept : (sum : ℤ) (t : TenantRow) → cast_all tenants_table.columns (tenant_columns sum t) ≡ tenant_columns sum t
tenant_kept sum t = simp cast_int

pub key_kept : (k : KeyRow) → cast_all keys_table.columns (key_columns k) ≡ key_columns k
key_kept k = refl

pub version_kept : (v : VersionColumns) → cast_all versions_table.columns (version_columns v) ≡ version_columns v
version_kept v = simp cast_int

pub block_kept : (b : BlockRow) → cast_all blocks_table.columns (block_columns b) ≡ block_columns b
block_kept b = simp cast_int

pub use_kept : (u : UseRow) → cast_all uses_table.columns (use_columns u) ≡ use_columns u
use_kept u = simp cast_int

pub ref_kept : (r : RefRow) → cast_all refs_table.columns (ref_columns r) ≡ ref_columns r
ref_kept r = simp cast_int

pub upload_kept : (sum : ℤ) (u : UploadRow) → cast_all uploads_table.columns (upload_columns sum u) ≡ upload_columns sum u
upload_kept sum u = simp cast_int

pub part_kept : (p : PartColumns) → cast_all parts_table.columns (part_columns p) ≡ part_columns p
part_kept p = simp cast_int

pub lock_kept : (l : LockRow) → cast_all locks_table.columns (lock_columns l) ≡ lock_columns l
lock_kept l = refl

pub retain_kept : (r : RetainRow) → cast_all retains_table.columns (retain_columns r) ≡ retain_columns r
retain_kept r = simp cast_int

pub tally_kept : (t : TallyRow) → cast_all tallies_table.columns (tally_columns t) ≡ tally_columns t
tally_kept t = simp cast_int

pub garbage_kept : (g : GarbageRow) → cast_all unneeded_table.columns (garbage_columns g) ≡ garbage_columns g
garbage_kept g = rw cast_null (simp cast_int)

pub pack_kept : (p : PackRow) → cast_all packs_table.columns (pack_columns p) ≡ pack_columns p
pack_kept p = simp cast_int

pub place_kept : (p : PlaceRow) → cast_all placed_table.columns (place_columns p) ≡ place_columns p
place_kept p = simp cast_int

pub bucket_kept : (b : BucketRow) → cast_all buckets_table.columns (bucket_columns b) ≡ bucket_columns b
bucket_kept b = go b b.days
  where
    go : (b : BucketRow) (days : Option Rattle.std.proofs.Common.ℕ) → cast_all buckets_table.columns (bucket_columns (record b { days = days })) ≡ bucket_columns (record b { days = days })
    go b None = rw cast_null (simp cast_int)
    go b (Some n) = simp cast_int
