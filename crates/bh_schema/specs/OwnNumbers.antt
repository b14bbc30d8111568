-- The numbers in a tenant's own row: the tables after one is changed, and which SQL sets it.
use Rattle.std.specs.Prelude.{ℕ, List, [], ◌∷◌}
use Rattle.sqlite.specs.declared.types.Value.TheVariants.{Text}
use Rattle.sqlite_keyed.specs.Lists.{update_where}
use Rattle.bh_rows.specs.Texts.{UpdateText}
use Rattle.bh_tables.specs.Schema.{Octets, host_schema, tenants_table, at}
use Rattle.bh_tables.specs.Typed.{Totals, TenantRow, tenant_form, Tables, number}
use Rattle.bh_tables.specs.Shown.{is_tenant}
use Rattle.bh_schema.specs.declared.rows.tenants.TenantNumber.{TenantNumber}
use Rattle.bh_schema.specs.declared.rows.tenants.TenantNumber.TheVariants as which

abbrev pub own_number : TenantNumber → ℕ → TenantRow → TenantRow
own_number which.Quota n t = record t { quota = n }
own_number which.NextUpload n t = record t { next_upload = n }
own_number which.NextEntry n t = record t { next_entry = n }

abbrev pub with_number : TenantNumber → Octets → ℕ → Tables → Tables
with_number which tenant n tables = record tables { tenants = update_where (is_tenant tenant) (own_number which n) tables.tenants }

abbrev pub IsTextOf : TenantNumber → List ℕ → Type 0
IsTextOf which sql = (sums : Totals) (tenant : Octets) (n : ℕ)
    → UpdateText (tenant_form sums) host_schema 1 (at 1 tenants_table) sql (Text tenant ∷ number n ∷ []) (is_tenant tenant)
    (own_number which n)
