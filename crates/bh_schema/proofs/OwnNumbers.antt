-- A number of a tenant's own row may be any.
use Rattle.std.proofs.Common.{◌≡◌, ℕ, refl}
use Rattle.bh_rows.specs.Texts.{MayChange}
use Rattle.bh_tables.specs.Schema.{Octets, host_schema, tenants_table, at}
use Rattle.bh_tables.specs.Typed.{Totals, TenantRow, tenant_form}
use Rattle.bh_tables.specs.Shown.{is_tenant}
use Rattle.bh_tables.proofs.TenantTexts.{quota_may, next_entry_may}
use Rattle.bh_tables.proofs.UploadTexts.{next_upload_may}
use Rattle.bh_schema.specs.OwnNumbers.{own_number}
use Rattle.bh_schema.specs.declared.rows.tenants.TenantNumber.{TenantNumber}
use Rattle.bh_schema.specs.declared.rows.tenants.TenantNumber.TheVariants as which

pub number_may : (sums : Totals) (tenant : Octets) (w : TenantNumber) (n : ℕ) → MayChange (tenant_form sums) host_schema (at 1 tenants_table) (is_tenant tenant) (own_number w n)
number_may sums tenant which.Quota n = quota_may sums tenant n
number_may sums tenant which.NextUpload n = next_upload_may sums tenant n
number_may sums tenant which.NextEntry n = next_entry_may sums tenant n

-- it is the same tenant's
pub number_named : (which : TenantNumber) (n : ℕ) (t : TenantRow) → (own_number which n t).tenant ≡ t.tenant
number_named which.Quota n t = refl
number_named which.NextUpload n t = refl
number_named which.NextEntry n t = refl
