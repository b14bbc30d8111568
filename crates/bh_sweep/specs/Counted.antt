-- Counts of what is stored, from the rows.
use Rattle.std.specs.Prelude.{ℕ, ◌<◌, ◌^◌, List, length}
use Rattle.std.specs.List.{sum_by}
use Rattle.bh_tables.specs.Typed.{BlockRow, TenantRow, Tables, bytes_used}
use Rattle.bh_tables.specs.Rows.{PackRow}
use Rattle.bh_storage.specs.Reports.{store_counts}
use Rattle.bh_storage.specs.declared.report.StoreReport.{StoreReport}
use Rattle.bh_sweep.specs.declared.packs.PackTotals.{PackTotals}

-- the bytes that a tenant's versions and parts have
abbrev pub used_by : Tables → TenantRow → ℕ
used_by tables t = bytes_used tables.versions tables.parts t.tenant

-- the bytes of all bodies are what the tenants use
abbrev pub rows_counted : Tables → StoreReport
rows_counted tables = record (store_counts tables) { referred = sum_by (used_by tables) tables.tenants }

-- the store can count the blocks, and add up their bytes: both are below 2^63
abbrev pub AreCountable : Tables → Type 0
AreCountable tables = (length tables.blocks < 2 ^ 63) × (sum_by (λ (b : BlockRow). length b.bytes) tables.blocks < 2 ^ 63)

-- how many packs these rows are of, their bytes, and those that blocks have
abbrev pub packs_counted : List PackRow → PackTotals
packs_counted rows = record {
  packs = length rows;
  bytes = sum_by (λ (p : PackRow). p.length) rows;
  of_blocks = sum_by (λ (p : PackRow). p.live) rows;
}
