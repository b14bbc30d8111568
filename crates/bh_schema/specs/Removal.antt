-- A tenant's rows in each table: the tables without them, the sums that go with them, and which SQL
-- deletes them.
use Rattle.std.specs.Prelude.{ℕ, List, [], ◌∷◌}
use Rattle.sqlite.specs.declared.types.Value.TheVariants.{Text}
use Rattle.sqlite_keyed.specs.Lists.{delete_where}
use Rattle.sqlite_typed.specs.Tests.{bytes_eq}
use Rattle.bh_rows.specs.Form.{Form}
use Rattle.bh_rows.specs.Texts.{DeleteText}
use Rattle.sqlite.specs.Table.{Table}
use Rattle.bh_tables.specs.Schema.{Octets, host_schema, tenants_table, keys_table, buckets_table, versions_table, uploads_table}
use Rattle.bh_tables.specs.Schema.{parts_table, locks_table, retains_table, tallies_table, at}
use Rattle.bh_tables.specs.Typed.{Totals, Tables, stored_tenant_form, key_form, bucket_form, version_form, stored_upload_form, part_form}
use Rattle.bh_tables.specs.Typed.{lock_form, retain_form, tally_form, is_tally, tallied}
use Rattle.bh_tables.specs.Shown.{is_tenant, is_owned_key, is_owned_bucket, is_version_of, is_owned_upload, is_part_used, is_owned_lock}
use Rattle.bh_tables.specs.Shown.{is_owned_retain}
use Rattle.bh_schema.specs.declared.rows.removal.TenantTable.{TenantTable}
use Rattle.bh_schema.specs.declared.rows.removal.TenantTable.TheVariants as table

-- ---- one table

abbrev pub without_table : TenantTable → Octets → Tables → Tables
without_table table.Retains tenant tables = record tables { retains = delete_where (is_owned_retain tenant) tables.retains }
without_table table.Locks tenant tables = record tables { locks = delete_where (is_owned_lock tenant) tables.locks }
without_table table.Parts tenant tables = record tables { parts = delete_where (is_part_used tenant) tables.parts }
without_table table.Uploads tenant tables = record tables { uploads = delete_where (is_owned_upload tenant) tables.uploads }
without_table table.Versions tenant tables = record tables { versions = delete_where (is_version_of tenant) tables.versions }
without_table table.Buckets tenant tables = record tables { buckets = delete_where (is_owned_bucket tenant) tables.buckets }
without_table table.Keys tenant tables = record tables { keys = delete_where (is_owned_key tenant) tables.keys }
without_table table.Tallies tenant tables = tables
without_table table.Tenants tenant tables = record tables { tenants = delete_where (is_tenant tenant) tables.tenants }

-- no row is left in the table of tallies that counts the tenant's versions
abbrev pub without_tally : Octets → Totals → Totals
without_tally tenant = tallied (delete_where (is_tally tenant))

abbrev pub sums_without : TenantTable → Octets → Totals → Totals
sums_without table.Retains tenant sums = sums
sums_without table.Locks tenant sums = sums
sums_without table.Parts tenant sums = sums
sums_without table.Uploads tenant sums = sums
sums_without table.Versions tenant sums = sums
sums_without table.Buckets tenant sums = sums
sums_without table.Keys tenant sums = sums
sums_without table.Tallies tenant sums = without_tally tenant sums
sums_without table.Tenants tenant sums = sums

-- a text that deletes a tenant's rows of the table at this place
abbrev pub Deletes : {T : Type 0} → Form T → ℕ → Table → (T → Octets) → List ℕ → Type 0
Deletes form place table owner sql =
    (tenant : Octets) → DeleteText form host_schema place table sql (Text tenant ∷ []) (λ x. bytes_eq (owner x) tenant)

abbrev pub IsTextOf : TenantTable → List ℕ → Type 0
IsTextOf table.Retains = Deletes retain_form 11 (at 28 retains_table) (λ r. r.tenant)
IsTextOf table.Locks = Deletes lock_form 10 (at 26 locks_table) (λ l. l.tenant)
IsTextOf table.Parts = Deletes part_form 8 (at 18 parts_table) (λ p. p.tenant)
IsTextOf table.Uploads = Deletes stored_upload_form 7 (at 16 uploads_table) (λ c. c.row.tenant)
IsTextOf table.Versions = Deletes version_form 4 (at 7 versions_table) (λ v. v.tenant)
IsTextOf table.Buckets = Deletes bucket_form 3 (at 5 buckets_table) (λ b. b.tenant)
IsTextOf table.Keys = Deletes key_form 2 (at 3 keys_table) (λ k. k.tenant)
IsTextOf table.Tallies = Deletes tally_form 12 (at 30 tallies_table) (λ t. t.tenant)
IsTextOf table.Tenants = Deletes stored_tenant_form 1 (at 1 tenants_table) (λ c. c.row.tenant)

-- ---- several

-- what its buckets have
abbrev pub without_contents : Octets → Tables → Tables
without_contents tenant tables = record tables {
  retains = delete_where (is_owned_retain tenant) tables.retains;
  locks = delete_where (is_owned_lock tenant) tables.locks;
  parts = delete_where (is_part_used tenant) tables.parts;
  uploads = delete_where (is_owned_upload tenant) tables.uploads;
  versions = delete_where (is_version_of tenant) tables.versions;
}

-- its buckets, its keys, and its own row
abbrev pub without_names : Octets → Tables → Tables
without_names tenant tables = record tables {
  buckets = delete_where (is_owned_bucket tenant) tables.buckets;
  keys = delete_where (is_owned_key tenant) tables.keys;
  tenants = delete_where (is_tenant tenant) tables.tenants;
}
