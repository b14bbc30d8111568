-- Whether a database is a host's, as a test, and its tables then; and the tables of a host of an
-- earlier version once it is upgraded.
use Rattle.std.specs.Prelude.{◌≡◌, ◌==◌, ℕ, Bool, true, false, ◌&&◌, List, [], ◌∷◌, map, if◌then◌else◌}
use Rattle.std.specs.List.{list_all}
use Rattle.std.specs.Ordering.{is_lt}
use Rattle.std.specs.Coded.{Coded, coded_list}
use base.Stored.{Gv, gnil, gnum, gcons}
use Rattle.sqlite.specs.declared.types.Value.TheVariants.{Int}
use Rattle.sqlite.specs.Order.{Row, value_cmp}
use Rattle.sqlite.specs.Tree.{rowid}
use Rattle.sqlite.specs.Edit.{id_in}
use Rattle.sqlite.specs.Effect.{Database}
use Rattle.sqlite_value.specs.contracts.value.Value as value
use Rattle.sqlite_schema.specs.contracts.schema.Schema as schema
use Rattle.bh_rows.specs.Form.{Form, typed}
use Rattle.bh_tables.specs.Schema.{first_schema, second_schema, third_schema, fourth_schema, host_schema}
use Rattle.bh_tables.specs.Typed.{HostRow, Tables, Totals, totals_of, unweighed, untallied, Raw, raw}
use Rattle.bh_tables.specs.Typed.{first_raw, second_raw, third_raw, fourth_raw}
use Rattle.bh_tables.specs.Typed.{tables_in, first_tables_in, IsFirstHost, IsSecondHost, IsThirdHost, IsFourthHost, no_rows, host_form}
use Rattle.bh_tables.specs.Typed.{tenant_form, key_form, bucket_form}
use Rattle.bh_tables.specs.Typed.{version_form, block_form, ref_form, upload_form, part_form, use_form, lock_form, retain_form}
use Rattle.bh_tables.specs.Typed.{tally_form, garbage_form, pack_form, place_form}

-- ---- equality, by the codes of values

abbrev pub same_code : Gv → Gv → Bool
same_code gnil gnil = true
same_code gnil (gnum n) = false
same_code gnil (gcons a b) = false
same_code (gnum m) gnil = false
same_code (gnum m) (gnum n) = m == n
same_code (gnum m) (gcons a b) = false
same_code (gcons a b) gnil = false
same_code (gcons a b) (gnum n) = false
same_code (gcons a b) (gcons c d) = same_code a c && same_code b d

abbrev pub same : {X : Type 0} → Coded X → X → X → Bool
same coded x y = same_code (coded.code x) (coded.code y)

-- ---- rows

abbrev pub ascends : List Row → Bool
ascends [] = true
ascends (r ∷ rows) = list_all (λ s. is_lt (value_cmp (rowid r) (rowid s))) rows && ascends rows

abbrev pub coded_row : Coded Row
coded_row = coded_list value.the_row.coded

-- the stored row is its number and the columns of its typed row
abbrev pub is_row : {T : Type 0} → Form T → Row → Bool
is_row form r = same coded_row r (Int (id_in (rowid r)) ∷ form.encode (form.decode r))

abbrev pub are_rows : {T : Type 0} → Form T → List Row → Bool
are_rows form rows = list_all (is_row form) rows && ascends rows

-- the typed rows of the stored rows
abbrev pub are_these : {T : Type 0} → Form T → List Row → List T → Bool
are_these form rows xs = same (coded_list coded_row) (map form.encode (typed form rows)) (map form.encode xs)

abbrev pub are_held : Totals → Raw → Bool
are_held sums r = are_rows host_form r.host && (are_rows (tenant_form sums) r.tenants
    && (are_rows key_form r.keys && (are_rows bucket_form r.buckets
    && (are_rows version_form r.versions && (are_rows block_form r.blocks
    && (are_rows ref_form r.refs && (are_rows (upload_form sums) r.uploads
    && (are_rows part_form r.parts && (are_rows use_form r.uses
    && (are_these use_form r.uses sums.uses && (are_rows lock_form r.locks && (are_rows retain_form r.retains
    && (are_rows tally_form r.tallies && (are_these tally_form r.tallies sums.tallies
    && (are_rows garbage_form r.garbage && (are_these garbage_form r.garbage sums.garbage && (sums.measured
    && (are_rows pack_form r.packs && (are_rows place_form r.places && same (coded_list coded_row) r.unfilled [])))))))))))))))))))

-- ---- databases

-- The schema is a host's, each row is typed, and each sum over other rows, as a tenant's `used`, is
-- right
unfoldable pub is_host : Database → Bool
is_host db = same schema.the_row.coded db.schema host_schema && are_held (totals_of (tables_in db)) (raw db.trees)

-- a host's database under the fourth schema, which has no count of what nobody needs
unfoldable pub is_fourth_host : Database → Bool
is_fourth_host db = same schema.the_row.coded db.schema fourth_schema
    && are_held (unweighed (totals_of (tables_in db))) (fourth_raw db.trees)

-- under the third schema, which has none of the tables that nothing fills
unfoldable pub is_third_host : Database → Bool
is_third_host db = same schema.the_row.coded db.schema third_schema
    && are_held (unweighed (totals_of (tables_in db))) (third_raw db.trees)

-- under the second schema, which has no tallies
unfoldable pub is_second_host : Database → Bool
is_second_host db = same schema.the_row.coded db.schema second_schema
    && are_held (untallied (totals_of (tables_in db))) (second_raw db.trees)

-- and under the first, in which no bucket is locked and no version has a date either
unfoldable pub is_first_host : Database → Bool
is_first_host db = same schema.the_row.coded db.schema first_schema
    && are_held (untallied (totals_of (first_tables_in db))) (first_raw db.trees)

-- the tables of a host of an earlier version as those of a host of version 5
abbrev pub with_version : ℕ → HostRow → HostRow
with_version n h = record h { version = n }

abbrev pub is_of_version : ℕ → HostRow → Bool
is_of_version n h = h.version == n

abbrev pub brought_over : Tables → Tables
brought_over tables = record tables { host = map (with_version 5) tables.host }

-- the tables of a host of an earlier version once it is upgraded, if its row has that version;
-- otherwise no rows
abbrev pub earlier_shown : ℕ → Tables → Tables
earlier_shown n tables = if list_all (is_of_version n) tables.host then brought_over tables else no_rows

-- whether a database is a host's of version 1, of version 2, of version 3, or of version 4
pub record IsOfVersion1 (db : Database) : Type 0 where
  pub first : IsFirstHost db
  pub version : list_all (is_of_version 1) (first_tables_in db).host ≡ true

pub record IsOfVersion2 (db : Database) : Type 0 where
  pub second : IsSecondHost db
  pub version : list_all (is_of_version 2) (tables_in db).host ≡ true

pub record IsOfVersion3 (db : Database) : Type 0 where
  pub third : IsThirdHost db
  pub version : list_all (is_of_version 3) (tables_in db).host ≡ true

pub record IsOfVersion4 (db : Database) : Type 0 where
  pub fourth : IsFourthHost db
  pub version : list_all (is_of_version 4) (tables_in db).host ≡ true

-- a host's tables; a database that is not a host's has no rows
unfoldable pub tables_shown : Database → Tables
tables_shown db = if is_host db then tables_in db else no_rows

-- its tables once it is opened as a host's, of any version
unfoldable pub tables_opened : Database → Tables
tables_opened db = if is_first_host db then earlier_shown 1 (first_tables_in db)
    else (if is_second_host db then earlier_shown 2 (tables_in db)
    else (if is_third_host db then earlier_shown 3 (tables_in db)
    else (if is_fourth_host db then earlier_shown 4 (tables_in db) else tables_shown db)))
