-- Each of a host's tables among the others: its typed rows, and what a database is that has others of them.
use Rattle.std.proofs.Common.{◌≡◌, ℕ, Bool, List, map, filter, refl, sym, ap, ap₂, subst, ◌∙◌}
use Rattle.sqlite.specs.Order.{Row}
use Rattle.sqlite.specs.Tree.{Trees}
use Rattle.sqlite.specs.Table.{Table}
use Rattle.sqlite.specs.Effect.{Database}
use Rattle.sqlite.specs.State.{State}
use Rattle.sqlite_tied.specs.Compute.{everything}
use Rattle.sqlite_trees.specs.Tree.{with_tree}
use Rattle.bh_rows.specs.Form.{Form, AreRows, Entry, put, entries, typed}
use Rattle.bh_rows.specs.Keys.{AreUnused}
use Rattle.bh_rows.specs.Texts.{IsOrderly, IsTableOf, Leaves}
use Rattle.bh_tables.specs.Schema.{host_schema, host_table, tenants_table, keys_table, buckets_table, versions_table, blocks_table, refs_table, uploads_table, parts_table, uses_table, locks_table, retains_table, tallies_table, unneeded_table, packs_table, placed_table, at}
use Rattle.bh_tables.specs.Typed.{LockRow, lock_form, RetainRow, retain_form, HostRow, TenantRow, KeyRow, BucketRow, VersionColumns, BlockRow, RefRow, UploadRow, PartColumns, host_form, tenant_form, key_form, bucket_form, version_form, block_form, ref_form, upload_form, part_form, Tables, tables, tables_in, tables_of, Raw, raw, AreHeld, Totals, IsHostBy, rebodied, use_form, tally_form, garbage_form, pack_form, place_form, stored_tenant_form, stored_upload_form}
use Rattle.bh_tables.specs.Bodies.{resolved, columns_of, resolved_part, part_columns_of}
use Rattle.bh_tables.proofs.Kept.{host_kept, tenant_kept, key_kept, bucket_kept, version_kept, block_kept, ref_kept, upload_kept, part_kept, use_kept, lock_kept, retain_kept, tally_kept, garbage_kept, pack_kept, place_kept}
use Rattle.bh_tables.proofs.RawLemmas.{raw_changed}
use Rattle.bh_tables.proofs.ResolvedLemmas.{stored_versions, resolved_twice, stored_parts, resolved_parts_twice}

pub orderly : IsOrderly host_schema
unfolding everything
orderly = record { apart = refl; passive = refl; ignores = refl }

-- ---- a table's place

pub record Place (sums : Totals) (T : Type 0) : Type 0 where
  pub form : Form T
  -- among the tables of the schema
  pub number : ℕ
  pub table : Table
  pub is : IsTableOf form host_schema number table
  -- its typed rows, and the tables with others of them
  pub rows : Tables → List T
  pub set : Tables → List T → Tables
  pub rows_are : (db : Database) → typed form (db.trees table.tree) ≡ rows (tables_in db)
  pub held : (db : Database) → IsHostBy sums db → AreRows form (db.trees table.tree)
  -- the same of the rows as they are stored
  pub put : Raw → List Row → Raw
  pub put_is : (db : Trees) (l : List Row) → raw (with_tree db table.tree l) ≡ put (raw db) l
  pub put_reads : (r : Raw) (l : List Row) → tables_of (put r l) ≡ set (tables_of r) (typed form l)
  pub put_held : (r : Raw) (l : List Row) → AreHeld sums r → AreRows form l → AreHeld sums (put r l)

-- a write to one table leaves a host's database, with the other tables as they were
pub turned : {sums : Totals} {T : Type 0} (p : Place sums T) (old new : State) (after : List T) → IsHostBy sums old.now → Leaves p.form host_schema p.table.tree old new after → IsHostBy sums new.now × (tables new ≡ p.set (tables old) after)
turned {sums} p old new after host l =
    let now_is : raw new.now.trees ≡ p.put (raw old.now.trees) (l.next p.table.tree) = ap (λ (d : Database). raw d.trees) l.now ∙ raw_changed p.table.tree old.now.trees l.next l.others ∙ p.put_is old.now.trees (l.next p.table.tree) in (
      record { schema = ap (λ (d : Database). d.schema) l.now; held = subst (AreHeld sums) (sym now_is) (p.put_held (raw old.now.trees) (l.next p.table.tree) host.held l.held) },
      ap tables_of now_is ∙ p.put_reads (raw old.now.trees) (l.next p.table.tree) ∙ ap (p.set (tables old)) l.rows,
    )

-- no row of another table names one of the rows that pass a test
abbrev pub Goes : {sums : Totals} {T : Type 0} → Place sums T → Trees → (T → Bool) → Type 0
Goes {sums} {T} p db m = AreUnused host_schema db p.table.tree (map (put p.form) (filter (λ (e : Entry T). m e.1) (entries p.form (db p.table.tree))))

-- ---- the tables

pub host_is : IsTableOf host_form host_schema 0 (at 0 host_table)
unfolding everything
host_is = record { is_table = refl; plain = refl; low = refl; kept = host_kept; fit = refl }

abbrev pub host : (sums : Totals) → Place sums HostRow
host sums = record {
  form = host_form;
  number = 0;
  table = at 0 host_table;
  is = host_is;
  rows = λ t. t.host;
  set = λ t l. record t { host = l };
  rows_are = λ db. refl;
  held = λ db is. is.held.host;
  put = λ r l. record r { host = l };
  put_is = λ db l. refl;
  put_reads = λ r l. refl;
  put_held = λ r l h it. record { host = it; tenants = h.tenants; keys = h.keys; buckets = h.buckets; versions = h.versions; blocks = h.blocks; refs = h.refs; uploads = h.uploads; parts = h.parts; uses = h.uses; counts = h.counts; locks = h.locks; retains = h.retains; tallies = h.tallies; tallied = h.tallied; garbage = h.garbage; weighed = h.weighed; measured = h.measured; packs = h.packs; places = h.places; unfilled = h.unfilled };
}

pub tenants_is : (sums : Totals) → IsTableOf (tenant_form sums) host_schema 1 (at 1 tenants_table)
unfolding everything
tenants_is sums = record { is_table = refl; plain = refl; low = refl; kept = λ x. tenant_kept (sums.used x.tenant) x; fit = refl }

abbrev pub tenants : (sums : Totals) → Place sums TenantRow
tenants sums = record {
  form = tenant_form sums;
  number = 1;
  table = at 1 tenants_table;
  is = tenants_is sums;
  rows = λ t. t.tenants;
  set = λ t l. record t { tenants = l };
  rows_are = λ db. refl;
  held = λ db is. is.held.tenants;
  put = λ r l. record r { tenants = l };
  put_is = λ db l. refl;
  put_reads = λ r l. refl;
  put_held = λ r l h it. record { host = h.host; tenants = it; keys = h.keys; buckets = h.buckets; versions = h.versions; blocks = h.blocks; refs = h.refs; uploads = h.uploads; parts = h.parts; uses = h.uses; counts = h.counts; locks = h.locks; retains = h.retains; tallies = h.tallies; tallied = h.tallied; garbage = h.garbage; weighed = h.weighed; measured = h.measured; packs = h.packs; places = h.places; unfilled = h.unfilled };
}

pub keys_is : IsTableOf key_form host_schema 2 (at 3 keys_table)
unfolding everything
keys_is = record { is_table = refl; plain = refl; low = refl; kept = key_kept; fit = refl }

abbrev pub keys : (sums : Totals) → Place sums KeyRow
keys sums = record {
  form = key_form;
  number = 2;
  table = at 3 keys_table;
  is = keys_is;
  rows = λ t. t.keys;
  set = λ t l. record t { keys = l };
  rows_are = λ db. refl;
  held = λ db is. is.held.keys;
  put = λ r l. record r { keys = l };
  put_is = λ db l. refl;
  put_reads = λ r l. refl;
  put_held = λ r l h it. record { host = h.host; tenants = h.tenants; keys = it; buckets = h.buckets; versions = h.versions; blocks = h.blocks; refs = h.refs; uploads = h.uploads; parts = h.parts; uses = h.uses; counts = h.counts; locks = h.locks; retains = h.retains; tallies = h.tallies; tallied = h.tallied; garbage = h.garbage; weighed = h.weighed; measured = h.measured; packs = h.packs; places = h.places; unfilled = h.unfilled };
}

pub buckets_is : IsTableOf bucket_form host_schema 3 (at 5 buckets_table)
unfolding everything
buckets_is = record { is_table = refl; plain = refl; low = refl; kept = bucket_kept; fit = refl }

abbrev pub buckets : (sums : Totals) → Place sums BucketRow
buckets sums = record {
  form = bucket_form;
  number = 3;
  table = at 5 buckets_table;
  is = buckets_is;
  rows = λ t. t.buckets;
  set = λ t l. record t { buckets = l };
  rows_are = λ db. refl;
  held = λ db is. is.held.buckets;
  put = λ r l. record r { buckets = l };
  put_is = λ db l. refl;
  put_reads = λ r l. refl;
  put_held = λ r l h it. record { host = h.host; tenants = h.tenants; keys = h.keys; buckets = it; versions = h.versions; blocks = h.blocks; refs = h.refs; uploads = h.uploads; parts = h.parts; uses = h.uses; counts = h.counts; locks = h.locks; retains = h.retains; tallies = h.tallies; tallied = h.tallied; garbage = h.garbage; weighed = h.weighed; measured = h.measured; packs = h.packs; places = h.places; unfilled = h.unfilled };
}

pub versions_is : IsTableOf version_form host_schema 4 (at 7 versions_table)
unfolding everything
versions_is = record { is_table = refl; plain = refl; low = refl; kept = version_kept; fit = refl }

abbrev pub versions : (sums : Totals) → Place sums VersionColumns
versions sums = record {
  form = version_form;
  number = 4;
  table = at 7 versions_table;
  is = versions_is;
  rows = λ t. map columns_of t.versions;
  set = λ t l. record t { versions = map (resolved t.refs t.blocks) l };
  rows_are = λ db. sym (stored_versions (tables_in db).refs (tables_in db).blocks (typed version_form (db.trees 7)));
  held = λ db is. is.held.versions;
  put = λ r l. record r { versions = l };
  put_is = λ db l. refl;
  put_reads = λ r l. refl;
  put_held = λ r l h it. record { host = h.host; tenants = h.tenants; keys = h.keys; buckets = h.buckets; versions = it; blocks = h.blocks; refs = h.refs; uploads = h.uploads; parts = h.parts; uses = h.uses; counts = h.counts; locks = h.locks; retains = h.retains; tallies = h.tallies; tallied = h.tallied; garbage = h.garbage; weighed = h.weighed; measured = h.measured; packs = h.packs; places = h.places; unfilled = h.unfilled };
}

-- the tables with other references and blocks, as they are read
pub reread : (r : Raw) (refs : List RefRow) (blocks : List BlockRow)
    → record (tables_of r) { versions = map (resolved refs blocks) (typed version_form r.versions); parts = map (resolved_part refs blocks) (typed part_form r.parts); refs = refs; blocks = blocks } ≡ rebodied (tables_of r) refs blocks
reread r refs blocks = ap₂ (λ v p. record (tables_of r) { versions = v; parts = p; refs = refs; blocks = blocks })
    (sym (resolved_twice refs blocks (tables_of r).refs (tables_of r).blocks (typed version_form r.versions)))
    (sym (resolved_parts_twice refs blocks (tables_of r).refs (tables_of r).blocks (typed part_form r.parts)))

pub blocks_is : IsTableOf block_form host_schema 5 (at 10 blocks_table)
unfolding everything
blocks_is = record { is_table = refl; plain = refl; low = refl; kept = block_kept; fit = refl }

abbrev pub blocks : (sums : Totals) → Place sums BlockRow
blocks sums = record {
  form = block_form;
  number = 5;
  table = at 10 blocks_table;
  is = blocks_is;
  rows = λ t. t.blocks;
  set = λ t l. rebodied t t.refs l;
  rows_are = λ db. refl;
  held = λ db is. is.held.blocks;
  put = λ r l. record r { blocks = l };
  put_is = λ db l. refl;
  put_reads = λ r l. reread r (typed ref_form r.refs) (typed block_form l);
  put_held = λ r l h it. record { host = h.host; tenants = h.tenants; keys = h.keys; buckets = h.buckets; versions = h.versions; blocks = it; refs = h.refs; uploads = h.uploads; parts = h.parts; uses = h.uses; counts = h.counts; locks = h.locks; retains = h.retains; tallies = h.tallies; tallied = h.tallied; garbage = h.garbage; weighed = h.weighed; measured = h.measured; packs = h.packs; places = h.places; unfilled = h.unfilled };
}

pub refs_is : IsTableOf ref_form host_schema 6 (at 12 refs_table)
unfolding everything
refs_is = record { is_table = refl; plain = refl; low = refl; kept = ref_kept; fit = refl }

abbrev pub refs : (sums : Totals) → Place sums RefRow
refs sums = record {
  form = ref_form;
  number = 6;
  table = at 12 refs_table;
  is = refs_is;
  rows = λ t. t.refs;
  set = λ t l. rebodied t l t.blocks;
  rows_are = λ db. refl;
  held = λ db is. is.held.refs;
  put = λ r l. record r { refs = l };
  put_is = λ db l. refl;
  put_reads = λ r l. reread r (typed ref_form l) (typed block_form r.blocks);
  put_held = λ r l h it. record { host = h.host; tenants = h.tenants; keys = h.keys; buckets = h.buckets; versions = h.versions; blocks = h.blocks; refs = it; uploads = h.uploads; parts = h.parts; uses = h.uses; counts = h.counts; locks = h.locks; retains = h.retains; tallies = h.tallies; tallied = h.tallied; garbage = h.garbage; weighed = h.weighed; measured = h.measured; packs = h.packs; places = h.places; unfilled = h.unfilled };
}

pub uploads_is : (sums : Totals) → IsTableOf (upload_form sums) host_schema 7 (at 16 uploads_table)
unfolding everything
uploads_is sums = record { is_table = refl; plain = refl; low = refl; kept = λ x. upload_kept (sums.kept (x.tenant, x.upload)) x; fit = refl }

abbrev pub uploads : (sums : Totals) → Place sums UploadRow
uploads sums = record {
  form = upload_form sums;
  number = 7;
  table = at 16 uploads_table;
  is = uploads_is sums;
  rows = λ t. t.uploads;
  set = λ t l. record t { uploads = l };
  rows_are = λ db. refl;
  held = λ db is. is.held.uploads;
  put = λ r l. record r { uploads = l };
  put_is = λ db l. refl;
  put_reads = λ r l. refl;
  put_held = λ r l h it. record { host = h.host; tenants = h.tenants; keys = h.keys; buckets = h.buckets; versions = h.versions; blocks = h.blocks; refs = h.refs; uploads = it; parts = h.parts; uses = h.uses; counts = h.counts; locks = h.locks; retains = h.retains; tallies = h.tallies; tallied = h.tallied; garbage = h.garbage; weighed = h.weighed; measured = h.measured; packs = h.packs; places = h.places; unfilled = h.unfilled };
}

pub parts_is : IsTableOf part_form host_schema 8 (at 18 parts_table)
unfolding everything
parts_is = record { is_table = refl; plain = refl; low = refl; kept = part_kept; fit = refl }

abbrev pub parts : (sums : Totals) → Place sums PartColumns
parts sums = record {
  form = part_form;
  number = 8;
  table = at 18 parts_table;
  is = parts_is;
  rows = λ t. map part_columns_of t.parts;
  set = λ t l. record t { parts = map (resolved_part t.refs t.blocks) l };
  rows_are = λ db. sym (stored_parts (tables_in db).refs (tables_in db).blocks (typed part_form (db.trees 18)));
  held = λ db is. is.held.parts;
  put = λ r l. record r { parts = l };
  put_is = λ db l. refl;
  put_reads = λ r l. refl;
  put_held = λ r l h it. record { host = h.host; tenants = h.tenants; keys = h.keys; buckets = h.buckets; versions = h.versions; blocks = h.blocks; refs = h.refs; uploads = h.uploads; parts = it; uses = h.uses; counts = h.counts; locks = h.locks; retains = h.retains; tallies = h.tallies; tallied = h.tallied; garbage = h.garbage; weighed = h.weighed; measured = h.measured; packs = h.packs; places = h.places; unfilled = h.unfilled };
}

pub locks_is : IsTableOf lock_form host_schema 10 (at 26 locks_table)
unfolding everything
locks_is = record { is_table = refl; plain = refl; low = refl; kept = lock_kept; fit = refl }

abbrev pub locks : (sums : Totals) → Place sums LockRow
locks sums = record {
  form = lock_form;
  number = 10;
  table = at 26 locks_table;
  is = locks_is;
  rows = λ t. t.locks;
  set = λ t l. record t { locks = l };
  rows_are = λ db. refl;
  held = λ db is. is.held.locks;
  put = λ r l. record r { locks = l };
  put_is = λ db l. refl;
  put_reads = λ r l. refl;
  put_held = λ r l h it. record { host = h.host; tenants = h.tenants; keys = h.keys; buckets = h.buckets; versions = h.versions; blocks = h.blocks; refs = h.refs; uploads = h.uploads; parts = h.parts; uses = h.uses; counts = h.counts; locks = it; retains = h.retains; tallies = h.tallies; tallied = h.tallied; garbage = h.garbage; weighed = h.weighed; measured = h.measured; packs = h.packs; places = h.places; unfilled = h.unfilled };
}

pub retains_is : IsTableOf retain_form host_schema 11 (at 28 retains_table)
unfolding everything
retains_is = record { is_table = refl; plain = refl; low = refl; kept = retain_kept; fit = refl }

abbrev pub retains : (sums : Totals) → Place sums RetainRow
retains sums = record {
  form = retain_form;
  number = 11;
  table = at 28 retains_table;
  is = retains_is;
  rows = λ t. t.retains;
  set = λ t l. record t { retains = l };
  rows_are = λ db. refl;
  held = λ db is. is.held.retains;
  put = λ r l. record r { retains = l };
  put_is = λ db l. refl;
  put_reads = λ r l. refl;
  put_held = λ r l h it. record { host = h.host; tenants = h.tenants; keys = h.keys; buckets = h.buckets; versions = h.versions; blocks = h.blocks; refs = h.refs; uploads = h.uploads; parts = h.parts; uses = h.uses; counts = h.counts; locks = h.locks; retains = it; tallies = h.tallies; tallied = h.tallied; garbage = h.garbage; weighed = h.weighed; measured = h.measured; packs = h.packs; places = h.places; unfilled = h.unfilled };
}

-- ---- packs, and the places in them

pub packs_is : IsTableOf pack_form host_schema 13 (at 32 packs_table)
unfolding everything
packs_is = record { is_table = refl; plain = refl; low = refl; kept = pack_kept; fit = refl }

pub places_is : IsTableOf place_form host_schema 14 (at 34 placed_table)
unfolding everything
places_is = record { is_table = refl; plain = refl; low = refl; kept = place_kept; fit = refl }

-- with other rows of both
pub put_packs : (sums : Totals) (r : Raw) (packs places : List Row) → AreHeld sums r → AreRows pack_form packs → AreRows place_form places → AreHeld sums (record r { packs = packs; places = places })
put_packs sums r packs places h these those = record { host = h.host; tenants = h.tenants; keys = h.keys; buckets = h.buckets; versions = h.versions; blocks = h.blocks; refs = h.refs; uploads = h.uploads; parts = h.parts; uses = h.uses; counts = h.counts; locks = h.locks; retains = h.retains; tallies = h.tallies; tallied = h.tallied; garbage = h.garbage; weighed = h.weighed; measured = h.measured; packs = these; places = those; unfilled = h.unfilled }

-- ---- the columns and the table that keep what other rows have, as they are stored

pub stored_tenants_is : IsTableOf stored_tenant_form host_schema 1 (at 1 tenants_table)
unfolding everything
stored_tenants_is = record { is_table = refl; plain = refl; low = refl; kept = λ c. tenant_kept c.used c.row; fit = refl }

pub stored_uploads_is : IsTableOf stored_upload_form host_schema 7 (at 16 uploads_table)
unfolding everything
stored_uploads_is = record { is_table = refl; plain = refl; low = refl; kept = λ c. upload_kept c.kept c.row; fit = refl }

pub uses_is : IsTableOf use_form host_schema 9 (at 23 uses_table)
unfolding everything
uses_is = record { is_table = refl; plain = refl; low = refl; kept = use_kept; fit = refl }

pub tallies_is : IsTableOf tally_form host_schema 12 (at 30 tallies_table)
unfolding everything
tallies_is = record { is_table = refl; plain = refl; low = refl; kept = tally_kept; fit = refl }

pub garbage_is : IsTableOf garbage_form host_schema 19 (at 44 unneeded_table)
unfolding everything
garbage_is = record { is_table = refl; plain = refl; low = refl; kept = garbage_kept; fit = refl }
