-- The tables of which packs have nothing, and what may be added to them or go: the same with the bytes of packs and without.
use Rattle.std.proofs.Common.{Bool}
use Rattle.sqlite.specs.Tree.{Trees}
use Rattle.sqlite_tied.specs.Compute.{everything}
use Rattle.bh_rows.specs.Texts.{MayAdd}
use Rattle.bh_tables.specs.Schema.{host_schema, tenants_table, uploads_table, tallies_table, unneeded_table, at}
use Rattle.bh_tables.specs.Typed.{Totals, HostRow, TenantColumns, stored_tenant_form, UploadColumns, stored_upload_form, KeyRow, BucketRow, VersionColumns, UploadRow, PartColumns, LockRow, RetainRow, TenantRow, TallyRow, tally_form, GarbageRow, garbage_form}
use Rattle.bh_tables.proofs.Places.{Place, Goes, host, tenants, keys, buckets, versions, uploads, parts, locks, retains}
use Rattle.bh_shelf.specs.Contents.{Contents}
use Rattle.bh_base.specs.Placed.{filled_trees}
use Rattle.bh_base.proofs.Statements.{IsApart}

pub host_apart : IsApart 0
host_apart = record { blocks = λ is. absurd (cc); places = λ is. absurd (cc); packs = λ is. absurd (cc) }

pub tenants_apart : IsApart 1
tenants_apart = record { blocks = λ is. absurd (cc); places = λ is. absurd (cc); packs = λ is. absurd (cc) }

pub keys_apart : IsApart 3
keys_apart = record { blocks = λ is. absurd (cc); places = λ is. absurd (cc); packs = λ is. absurd (cc) }

pub buckets_apart : IsApart 5
buckets_apart = record { blocks = λ is. absurd (cc); places = λ is. absurd (cc); packs = λ is. absurd (cc) }

pub versions_apart : IsApart 7
versions_apart = record { blocks = λ is. absurd (cc); places = λ is. absurd (cc); packs = λ is. absurd (cc) }

pub refs_apart : IsApart 12
refs_apart = record { blocks = λ is. absurd (cc); places = λ is. absurd (cc); packs = λ is. absurd (cc) }

pub uploads_apart : IsApart 16
uploads_apart = record { blocks = λ is. absurd (cc); places = λ is. absurd (cc); packs = λ is. absurd (cc) }

pub parts_apart : IsApart 18
parts_apart = record { blocks = λ is. absurd (cc); places = λ is. absurd (cc); packs = λ is. absurd (cc) }

pub uses_apart : IsApart 23
uses_apart = record { blocks = λ is. absurd (cc); places = λ is. absurd (cc); packs = λ is. absurd (cc) }

pub locks_apart : IsApart 26
locks_apart = record { blocks = λ is. absurd (cc); places = λ is. absurd (cc); packs = λ is. absurd (cc) }

pub retains_apart : IsApart 28
retains_apart = record { blocks = λ is. absurd (cc); places = λ is. absurd (cc); packs = λ is. absurd (cc) }

pub tallies_apart : IsApart 30
tallies_apart = record { blocks = λ is. absurd (cc); places = λ is. absurd (cc); packs = λ is. absurd (cc) }

pub garbage_apart : IsApart 44
garbage_apart = record { blocks = λ is. absurd (cc); places = λ is. absurd (cc); packs = λ is. absurd (cc) }

-- ---- what may be added

module _ (packs : Contents) (db : Trees) where
  pub stored_tenant_may : (x : TenantColumns) → MayAdd stored_tenant_form host_schema (at 1 tenants_table) (filled_trees packs db) x → MayAdd stored_tenant_form host_schema (at 1 tenants_table) db x
  unfolding everything filled_trees
  stored_tenant_may x h = record { suits = h.suits; free = h.free; parents = h.parents }

  pub stored_upload_may : (x : UploadColumns) → MayAdd stored_upload_form host_schema (at 16 uploads_table) (filled_trees packs db) x → MayAdd stored_upload_form host_schema (at 16 uploads_table) db x
  unfolding everything filled_trees
  stored_upload_may x h = record { suits = h.suits; free = h.free; parents = h.parents }

  pub tally_may : (x : TallyRow) → MayAdd tally_form host_schema (at 30 tallies_table) (filled_trees packs db) x → MayAdd tally_form host_schema (at 30 tallies_table) db x
  unfolding everything filled_trees
  tally_may x h = record { suits = h.suits; free = h.free; parents = h.parents }

  pub garbage_may : (x : GarbageRow) → MayAdd garbage_form host_schema (at 44 unneeded_table) (filled_trees packs db) x → MayAdd garbage_form host_schema (at 44 unneeded_table) db x
  unfolding everything filled_trees
  garbage_may x h = record { suits = h.suits; free = h.free; parents = h.parents }

module _ (sums : Totals) (packs : Contents) (db : Trees) where
  abbrev May : {T : Type 0} → Place sums T → T → Type 0
  May p x = MayAdd p.form host_schema p.table (filled_trees packs db) x → MayAdd p.form host_schema p.table db x

  pub host_may : (x : HostRow) → May (host sums) x
  unfolding everything filled_trees
  host_may x h = record { suits = h.suits; free = h.free; parents = h.parents }

  pub tenant_may : (x : TenantRow) → May (tenants sums) x
  unfolding everything filled_trees
  tenant_may x h = record { suits = h.suits; free = h.free; parents = h.parents }

  pub key_may : (x : KeyRow) → May (keys sums) x
  unfolding everything filled_trees
  key_may x h = record { suits = h.suits; free = h.free; parents = h.parents }

  pub bucket_may : (x : BucketRow) → May (buckets sums) x
  unfolding everything filled_trees
  bucket_may x h = record { suits = h.suits; free = h.free; parents = h.parents }

  pub version_may : (x : VersionColumns) → May (versions sums) x
  unfolding everything filled_trees
  version_may x h = record { suits = h.suits; free = h.free; parents = h.parents }

  pub upload_may : (x : UploadRow) → May (uploads sums) x
  unfolding everything filled_trees
  upload_may x h = record { suits = h.suits; free = h.free; parents = h.parents }

  pub part_may : (x : PartColumns) → May (parts sums) x
  unfolding everything filled_trees
  part_may x h = record { suits = h.suits; free = h.free; parents = h.parents }

  pub lock_may : (x : LockRow) → May (locks sums) x
  unfolding everything filled_trees
  lock_may x h = record { suits = h.suits; free = h.free; parents = h.parents }

  pub retain_may : (x : RetainRow) → May (retains sums) x
  unfolding everything filled_trees
  retain_may x h = record { suits = h.suits; free = h.free; parents = h.parents }

  -- ---- what may go

  pub bucket_goes : (m : BucketRow → Bool) → Goes (buckets sums) (filled_trees packs db) m → Goes (buckets sums) db m
  unfolding everything filled_trees
  bucket_goes m h = h

  pub version_goes : (m : VersionColumns → Bool) → Goes (versions sums) (filled_trees packs db) m → Goes (versions sums) db m
  unfolding everything filled_trees
  version_goes m h = h

  pub upload_goes : (m : UploadRow → Bool) → Goes (uploads sums) (filled_trees packs db) m → Goes (uploads sums) db m
  unfolding everything filled_trees
  upload_goes m h = h
