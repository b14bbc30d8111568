-- The results of sweeps, reports and lists of tenants.
use Rattle.std.specs.Prelude.{ℕ, nat_lt, List, length, filter, map}
use Rattle.std.specs.List.{sum_by}
use Rattle.std.specs.String.{string_bytes}
use Rattle.bh_model.specs.State.{Octets}
use Rattle.bh_tables.specs.Bodies.{block_at, ref_name}
use Rattle.bh_tables.specs.Shown.{is_owned_key, tenants_by_name}
use Rattle.bh_tables.specs.Typed.{BlockRow, RefRow, TenantRow, Tables, bytes_used}
use Rattle.bh_view.specs.Sweep.{uploads_swept, blocks_swept, is_complete}
use Rattle.bh_storage.specs.declared.report.SweepReport.{SweepReport}
use Rattle.bh_storage.specs.declared.report.StoreReport.{StoreReport}
use Rattle.bh_storage.specs.declared.report.TenantReport.{TenantReport}

-- the result of a sweep at a moment with a limit
abbrev pub sweep_counts : ℕ → ℕ → Tables → SweepReport
sweep_counts at limit tables = record {
  uploads = length (uploads_swept at limit tables);
  blocks = length (blocks_swept at limit tables);
  complete = is_complete at limit tables;
}

-- a block's bytes are stored once, and referred to once by each place of a body that has them. A
-- block with an ordinal above 0 had another block's digest when it was stored
abbrev pub store_counts : Tables → StoreReport
store_counts tables = record {
  blocks = length tables.blocks;
  stored = sum_by (λ (b : BlockRow). length b.bytes) tables.blocks;
  referred = sum_by (λ (r : RefRow). length (block_at tables.blocks (ref_name r))) tables.refs;
  clashes = length (filter (λ (b : BlockRow). nat_lt 0 b.ord) tables.blocks);
}

-- a tenant as an operator sees it: its name, its quota, the bytes of its versions and parts, and
-- its number of access keys. None of their names or secrets is included
pub record TenantTold : Type 0 where
  pub name : Octets
  pub quota : ℕ
  pub used : ℕ
  pub keys : ℕ

abbrev pub tenant_view : TenantReport → TenantTold
tenant_view t = record { name = string_bytes t.name; quota = t.quota; used = t.used; keys = t.keys }

abbrev pub tenant_told : Tables → TenantRow → TenantTold
tenant_told tables t = record {
  name = t.tenant;
  quota = t.quota;
  used = bytes_used tables.versions tables.parts t.tenant;
  keys = length (filter (is_owned_key t.tenant) tables.keys);
}

-- all tenants, by name in byte order
abbrev pub tenants_told : Tables → List TenantTold
tenants_told tables = map (tenant_told tables) (tenants_by_name tables.tenants)
