-- The tables of a state of the store, each as a list of typed rows.
use Rattle.std.specs.Prelude.{◌≡◌, ℕ, Bool, ◌+◌, ◌+ℤ◌, ◌-ℤ◌, ◌&&◌, if◌then◌else◌, pos, List, [], ◌∷◌, map, filter, length}
use Rattle.std.specs.Prelude.{true, IsTrue, flat_map}
use Rattle.std.specs.List.{sum_by, list_all}
use Rattle.std.specs.Ordering.{int_eq}
use Rattle.sqlite_keyed.specs.Lists.{update_where}
use Rattle.sqlite_typed.specs.Tests.{bytes_eq}
use Rattle.sqlite.specs.Order.{Row}
use Rattle.sqlite.specs.Tree.{Trees}
use Rattle.sqlite.specs.Effect.{Database}
use Rattle.sqlite.specs.State.{State, HasCleanDisk}
use Rattle.bh_rows.specs.Form.{AreRows, typed}
use Rattle.bh_tables.specs.Schema.{Octets, first_schema, second_schema, third_schema, fourth_schema, host_schema}
use Rattle.bh_tables.specs.Bodies.{Name, same_name, block_name, ref_name, has_size, unneeded}
use Rattle.bh_tables.specs.Bodies.{resolved, resolved_again, resolved_part, resolved_part_again}
use Rattle.bh_tables.specs.Entries.{has_marker, current_versions}
pub use Rattle.bh_tables.specs.Rows.{Totals, column_number, maybe_number, number, maybe_back, HostRow, host_columns, host_of, host_form}
pub use Rattle.bh_tables.specs.Rows.{TenantRow, tenant_columns, tenant_of, tenant_form, TenantColumns, stored_tenant_form, KeyRow}
pub use Rattle.bh_tables.specs.Rows.{key_columns, key_of, key_form, BucketRow, bucket_columns, bucket_of, bucket_form, VersionColumns}
pub use Rattle.bh_tables.specs.Rows.{version_columns, version_of, version_form, VersionRow, BlockRow, block_columns, block_of, block_form}
pub use Rattle.bh_tables.specs.Rows.{UseRow, use_columns, use_of, use_form, RefRow, ref_columns, ref_of, ref_form, UploadRow}
pub use Rattle.bh_tables.specs.Rows.{upload_columns, upload_of, upload_form, UploadColumns, stored_upload_form, PartColumns, part_columns}
pub use Rattle.bh_tables.specs.Rows.{part_of, part_form, PartRow, LockRow, lock_columns, lock_of, lock_form, RetainRow, retain_columns}
pub use Rattle.bh_tables.specs.Rows.{retain_of, retain_form, TallyRow, tally_columns, tally_read, tally_form, GarbageRow}
pub use Rattle.bh_tables.specs.Rows.{garbage_columns, garbage_of, garbage_form, PackRow, pack_columns, pack_of, pack_form, PlaceRow}
pub use Rattle.bh_tables.specs.Rows.{place_columns, place_of, place_form}

-- ---- all tables

pub record Tables : Type 0 where
  pub host : List HostRow
  pub tenants : List TenantRow
  pub keys : List KeyRow
  pub buckets : List BucketRow
  pub versions : List VersionRow
  pub blocks : List BlockRow
  pub refs : List RefRow
  pub uploads : List UploadRow
  pub parts : List PartRow
  pub locks : List LockRow
  pub retains : List RetainRow

abbrev pub no_rows : Tables
no_rows = record {
  host = [];
  tenants = [];
  keys = [];
  buckets = [];
  versions = [];
  blocks = [];
  refs = [];
  uploads = [];
  parts = [];
  locks = [];
  retains = [];
}

-- the rows as they are stored
pub record Raw : Type 0 where
  pub host : List Row
  pub tenants : List Row
  pub keys : List Row
  pub buckets : List Row
  pub versions : List Row
  pub blocks : List Row
  pub refs : List Row
  pub uploads : List Row
  pub parts : List Row
  pub uses : List Row
  pub locks : List Row
  pub retains : List Row
  pub tallies : List Row
  pub garbage : List Row
  pub packs : List Row
  pub places : List Row
  -- of the tables that nothing fills yet
  pub unfilled : List Row

-- the trees of these tables: of notes, of rights, and of garbage
abbrev pub unfilled_trees : List ℕ
unfilled_trees = 37 ∷ 39 ∷ 41 ∷ 43 ∷ []

abbrev pub raw : Trees → Raw
raw db = record {
  host = db 0;
  tenants = db 1;
  keys = db 3;
  buckets = db 5;
  versions = db 7;
  blocks = db 10;
  refs = db 12;
  uploads = db 16;
  parts = db 18;
  uses = db 23;
  locks = db 26;
  retains = db 28;
  tallies = db 30;
  garbage = db 44;
  packs = db 32;
  places = db 34;
  unfilled = flat_map db unfilled_trees;
}

-- under earlier schemas, each of which lacks some more tables: the fourth that of what nobody needs, the third those of packs and
-- those that nothing fills, the second that of tallies, and the first those of locks and of dates
abbrev pub fourth_raw : Trees → Raw
fourth_raw db = record (raw db) { garbage = [] }

abbrev pub third_raw : Trees → Raw
third_raw db = record (fourth_raw db) { packs = []; places = []; unfilled = [] }

abbrev pub second_raw : Trees → Raw
second_raw db = record (third_raw db) { tallies = [] }

abbrev pub first_raw : Trees → Raw
first_raw db = record (second_raw db) { locks = []; retains = [] }

abbrev pub tables_of : Raw → Tables
tables_of r = record {
  host = typed host_form r.host;
  tenants = map tenant_of r.tenants;
  keys = typed key_form r.keys;
  buckets = typed bucket_form r.buckets;
  versions = map (resolved (typed ref_form r.refs) (typed block_form r.blocks)) (typed version_form r.versions);
  blocks = typed block_form r.blocks;
  refs = typed ref_form r.refs;
  uploads = map upload_of r.uploads;
  parts = map (resolved_part (typed ref_form r.refs) (typed block_form r.blocks)) (typed part_form r.parts);
  locks = typed lock_form r.locks;
  retains = typed retain_form r.retains;
}

-- the tables with other references and blocks, which have the bytes of versions and parts
abbrev pub rebodied : Tables → List RefRow → List BlockRow → Tables
rebodied tables refs blocks = record tables {
  versions = map (resolved_again refs blocks) tables.versions;
  parts = map (resolved_part_again refs blocks) tables.parts;
  refs = refs;
  blocks = blocks;
}

-- each stored row is the columns of a typed row, and the sums over other rows are these
pub record AreHeld (sums : Totals) (r : Raw) : Type 0 where
  pub host : AreRows host_form r.host
  pub tenants : AreRows (tenant_form sums) r.tenants
  pub keys : AreRows key_form r.keys
  pub buckets : AreRows bucket_form r.buckets
  pub versions : AreRows version_form r.versions
  pub blocks : AreRows block_form r.blocks
  pub refs : AreRows ref_form r.refs
  pub uploads : AreRows (upload_form sums) r.uploads
  pub parts : AreRows part_form r.parts
  pub uses : AreRows use_form r.uses
  pub counts : typed use_form r.uses ≡ sums.uses
  pub locks : AreRows lock_form r.locks
  pub retains : AreRows retain_form r.retains
  pub tallies : AreRows tally_form r.tallies
  pub tallied : typed tally_form r.tallies ≡ sums.tallies
  pub garbage : AreRows garbage_form r.garbage
  pub weighed : typed garbage_form r.garbage ≡ sums.garbage
  pub measured : sums.measured ≡ true
  pub packs : AreRows pack_form r.packs
  pub places : AreRows place_form r.places
  pub unfilled : r.unfilled ≡ []

-- a database's tables, and those of the database in a state of the store
abbrev pub tables_in : Database → Tables
tables_in db = tables_of (raw db.trees)

abbrev pub tables : State → Tables
tables s = tables_in s.now

-- and those under the first schema; under the second, the third and the fourth it has those that it
-- has under a host's
abbrev pub first_tables_in : Database → Tables
first_tables_in db = tables_of (first_raw db.trees)

-- the number of references to each block
abbrev pub use_among : List RefRow → BlockRow → UseRow
use_among refs b = record { digest = b.digest; ord = b.ord; uses = pos (length (filter (λ r. same_name (ref_name r) (block_name b)) refs)) }

-- the bytes of a tenant's versions and parts, and of an upload's parts
abbrev pub bytes_used : List VersionRow → List PartRow → Octets → ℕ
bytes_used versions parts tenant = sum_by (λ (v : VersionRow). v.size) (filter (λ v. bytes_eq v.tenant tenant) versions)
    + sum_by (λ (p : PartRow). p.size) (filter (λ p. bytes_eq p.tenant tenant) parts)

abbrev pub bytes_kept : List PartRow → Octets → ℕ → ℕ
bytes_kept parts tenant upload =
    sum_by (λ (p : PartRow). p.size) (filter (λ p. bytes_eq p.tenant tenant && int_eq (pos p.upload) (pos upload)) parts)

-- a tally of these numbers
abbrev pub tally : Octets → ℕ → ℕ → ℕ → TallyRow
tally tenant versions markers objects =
    record { tenant = tenant; versions = pos versions; markers = pos markers; objects = pos objects }

-- a tenant's numbers of versions, markers and current versions
abbrev pub tally_of : List VersionRow → TenantRow → TallyRow
tally_of versions t = tally t.tenant (length (filter (has_marker t.tenant 0) versions))
    (length (filter (has_marker t.tenant 1) versions)) (length (current_versions t.tenant versions))

-- so many bytes that nobody needs
abbrev pub weight : ℕ → GarbageRow
weight n = record { bytes = pos n }

-- the right sums over rows
abbrev pub totals_of : Tables → Totals
totals_of t = record {
  used = λ tenant. pos (bytes_used t.versions t.parts tenant);
  kept = λ q. pos (bytes_kept t.parts q.0 q.1);
  uses = map (use_among t.refs) t.blocks;
  tallies = map (tally_of t.versions) t.tenants;
  garbage = weight (unneeded t.refs t.blocks) ∷ [];
  measured = list_all (has_size t.blocks) t.refs;
}

-- if the row of what nobody needs isn't there
abbrev pub unweighed : Totals → Totals
unweighed sums = record sums { garbage = [] }

-- if there is no table of tallies either
abbrev pub untallied : Totals → Totals
untallied sums = record (unweighed sums) { tallies = [] }

-- the count of this block
abbrev pub is_named : Name → UseRow → Bool
is_named q u = same_name (u.digest, u.ord) q

-- with other counts
abbrev pub counted : (List UseRow → List UseRow) → Totals → Totals
counted change sums = record sums { uses = change sums.uses }

-- one use more or fewer of a block
abbrev pub raised : Name → List UseRow → List UseRow
raised q = update_where (is_named q) (λ u. record u { uses = u.uses +ℤ pos 1 })

abbrev pub lowered : Name → List UseRow → List UseRow
lowered q = update_where (is_named q) (λ u. record u { uses = u.uses -ℤ pos 1 })

-- one use less for each of these references
abbrev pub lowered_by : List RefRow → List UseRow → List UseRow
lowered_by [] uses = uses
lowered_by (r ∷ rs) uses = lowered_by rs (lowered (ref_name r) uses)

-- the tally of this tenant
abbrev pub is_tally : Octets → TallyRow → Bool
is_tally tenant t = bytes_eq t.tenant tenant

-- with other tallies
abbrev pub tallied : (List TallyRow → List TallyRow) → Totals → Totals
tallied change sums = record sums { tallies = change sums.tallies }

abbrev pub set_to : ℕ → ℕ → ℕ → TallyRow → TallyRow
set_to versions markers objects t = tally t.tenant versions markers objects

-- adds to and subtracts from each count of a tenant
abbrev pub recounted : ℕ × ℕ → ℕ × ℕ → ℕ × ℕ → TallyRow → TallyRow
recounted versions markers objects t = record t {
  versions = t.versions +ℤ pos versions.0 -ℤ pos versions.1;
  markers = t.markers +ℤ pos markers.0 -ℤ pos markers.1;
  objects = t.objects +ℤ pos objects.0 -ℤ pos objects.1;
}

abbrev pub tally_changed : Octets → ℕ × ℕ → ℕ × ℕ → ℕ × ℕ → Totals → Totals
tally_changed tenant versions markers objects = tallied (update_where (is_tally tenant) (recounted versions markers objects))

-- with another row of what nobody needs
abbrev pub weighed : (List GarbageRow → List GarbageRow) → Totals → Totals
weighed change sums = record sums { garbage = change sums.garbage }

-- adds to and subtracts from the bytes of a tenant, and of an upload
abbrev pub used_changed : Octets → ℕ → ℕ → Totals → Totals
used_changed tenant more less sums =
    record sums { used = λ t. if bytes_eq t tenant then sums.used t +ℤ pos more -ℤ pos less else sums.used t }

abbrev pub kept_changed : Name → ℕ → ℕ → Totals → Totals
kept_changed upload more less sums =
    record sums { kept = λ q. if same_name q upload then sums.kept q +ℤ pos more -ℤ pos less else sums.kept q }

-- the database is a host's, except that the sums over other rows are these: it has the schema, and
-- rows that are typed rows
pub record IsHostBy (sums : Totals) (db : Database) : Type 0 where
  pub schema : db.schema ≡ host_schema
  pub held : AreHeld sums (raw db.trees)

-- the database is a host's: the sums over other rows are right
abbrev pub IsHost : Database → Type 0
IsHost db = IsHostBy (totals_of (tables_in db)) db

-- the database is a host's of the first schema, of the second, of the third or of the fourth
pub record IsFirstHost (db : Database) : Type 0 where
  pub schema : db.schema ≡ first_schema
  pub held : AreHeld (untallied (totals_of (first_tables_in db))) (first_raw db.trees)

pub record IsSecondHost (db : Database) : Type 0 where
  pub schema : db.schema ≡ second_schema
  pub held : AreHeld (untallied (totals_of (tables_in db))) (second_raw db.trees)

pub record IsThirdHost (db : Database) : Type 0 where
  pub schema : db.schema ≡ third_schema
  pub held : AreHeld (unweighed (totals_of (tables_in db))) (third_raw db.trees)

pub record IsFourthHost (db : Database) : Type 0 where
  pub schema : db.schema ≡ fourth_schema
  pub held : AreHeld (unweighed (totals_of (tables_in db))) (fourth_raw db.trees)

-- if the store returned what was written and the connection is open, the database is a host's
abbrev pub IsReadyBy : Totals → State → Type 0
IsReadyBy sums s = HasCleanDisk s → IsTrue s.is_open → IsHostBy sums s.now

abbrev pub IsReady : State → Type 0
IsReady s = IsReadyBy (totals_of (tables s)) s
