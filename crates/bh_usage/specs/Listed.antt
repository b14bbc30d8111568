-- The meaning of the columns of listed keys and tenants.
use Rattle.std.specs.Prelude.{ℕ, length, filter}
use Rattle.std.specs.Str.{IsUtf8}
use Rattle.std.specs.String.{string_bytes}
use Rattle.bh_model.specs.State.{Octets}
use Rattle.bh_tables.specs.Typed.{KeyRow, TenantRow, Tables, bytes_used, totals_of}
use Rattle.bh_tables.specs.Shown.{is_owned_key, shown_quota}
use Rattle.bh_schema.specs.Reading.{Reading, read_as}
use Rattle.bh_storage.specs.Reports.{TenantTold}
use Rattle.bh_usage.specs.declared.rows.ListedTenant.{ListedTenant}

abbrev pub name_in : KeyRow → Octets
name_in k = k.name

-- a tenant's name, its quota, and the bytes of its versions and parts
pub record Quota : Type 0 where
  pub name : Octets
  pub quota : ℕ
  pub used : ℕ

abbrev pub tenant_seen : ListedTenant → Quota
tenant_seen t = record { name = string_bytes t.name; quota = t.quota; used = t.used }

abbrev pub quota_in_row : Tables → TenantRow → Quota
quota_in_row tables t = record { name = t.tenant; quota = t.quota; used = bytes_used tables.versions tables.parts t.tenant }

-- the row of a tenant beside the tables that it is in
abbrev pub quota_reading : Reading ListedTenant
quota_reading =
    read_as (λ (t : Tables × TenantRow). shown_quota (totals_of t.0) t.1) tenant_seen (λ t. quota_in_row t.0 t.1) (λ t. IsUtf8 t.1.tenant)

-- a tenant for the operator, with its number of access keys in these tables
abbrev pub told_with : Tables → Quota → TenantTold
told_with tables q = record { name = q.name; quota = q.quota; used = q.used; keys = length (filter (is_owned_key q.name) tables.keys) }
